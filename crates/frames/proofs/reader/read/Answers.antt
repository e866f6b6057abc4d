use Rattle.std.proofs.Common.{◌≡◌, ◌≤◌, length, sym, refl, ap, ◌∙◌, arith, rules}
use Rattle.frames.specs.declared.way.Way.TheVariants.{One, Two}
use Rattle.frames.specs.Reader.{control_octet, said_answer, read_answer, meant}
use Rattle.frames.specs.Facts.{ControlOctets}
use Rattle.frames.proofs.Reading.{passes, cut_out}
use Rattle.frames.proofs.RoundTrips.{read_written}
use Rattle.frames.proofs.reader.read.Goals as goal

control-octets : ControlOctets
control-octets =
    record {
      sarm = refl;
      dm = refl;
      i = λ w. elim w as (λ w. _) [ One ↦ refl | Two ↦ refl ];
      rnr = λ w. refl;
      rej = λ w. refl;
      other = λ w. refl;
    }

pub returns : goal.returns
returns c =
    let w = c.args.way in
    let os = c.args.octets.now in
    let long : 4 ≤ length c.args.octets.now = search rules in
    let a : meant c.frame_of.result ≡ read_answer c.args.way c.args.octets.now =
    c.frame_of.ensures
    ∙ ap (said_answer w (control_octet os)) (cut_out os long)
    ∙ sym (passes w os long (omega arith) (sym c.if-not-checked.ensures) c.if-address-ne1.false) in
    record { answers = a; writes_back = λ p h. read_written w os p (λ k. search rules) (sym a ∙ h); worked = control-octets }
