use Rattle.std.proofs.Common.{◌≡◌, ◌+◌, drop, sym, refl, ap, ◌∙◌, arith, rules}
use lib.Bits.{bit_xor}
use Rattle.std.proofs.lemmas.List.{at_drop_more, at_drop_all}
use Rattle.frames.specs.Fcs.{shift, shifts, taken, register, fcs}
use Rattle.frames.proofs.Serial.{fcs_serial}
use Rattle.frames.proofs.fcs.check_sequence.Goals as goal

pub loop-octet-preserved : goal.loop-octet-preserved
loop-octet-preserved c =
    ap (λ s. register s (drop (c.loop-octet.octet-index + 1) c.args.octets.now)) c.step-register.ensures
    ∙ sym (at_drop_more (register c.loop-octet.register) c.args.octets.now c.loop-octet.octet-index 0 (omega arith))
    ∙ c.loop-octet.invariant

pub returns : goal.returns
unfolding shift shifts taken
returns c =
    let all : bit_xor c.loop-octet.register 0xFFFF ≡ fcs c.args.octets.now =
    ap (λ s. bit_xor s 0xFFFF)
    (sym (at_drop_all (register c.loop-octet.register) c.args.octets.now c.loop-octet.octet-index (omega arith)) ∙ c.loop-octet.invariant) in
    record { answers = all; bit_by_bit = all ∙ fcs_serial c.args.octets.now (λ k. search rules); digits = refl }
