use Rattle.std.proofs.Common.{◌≡◌, ℕ, ◌+◌, ◌++◌, length, take, drop, Ok, sym, ap, ◌∙◌, arith}
use Rattle.std.proofs.lemmas.List.{take_at}
use Rattle.frames.specs.Parts.{given}
use Rattle.frames.specs.Reader.{read_answer}
use Rattle.frames.specs.Writer.{octets_of, admit_answer, octets_by, counted, laid}
use Rattle.frames.proofs.RoundTrips.{written_read}
use Rattle.frames.proofs.Writing.{fits, full, octets_length}
use Rattle.frames.proofs.writer.write.Goals as goal

pub returns-then-out-len : goal.returns-then-out-len
returns-then-out-len c =
    let p = given c.args.frame in
    let o = c.args.out.now in
    let e =
    full (admit_answer c.args.way p) c.in_ok-control.control c.args.frame.info.now (length o)
    (sym c.in_ok-control.ensures) c.if-out-len.true in
    record {
      answers = sym (ap counted e);
      leaves = sym (ap (λ r. laid r o) e);
      reads_back = λ n h. absurd (let z : ◌≡◌ {A = ℕ} 0 1 = cc in omega arith);
    }

pub returns : goal.returns
returns c =
    let w = c.args.way in
    let i = c.args.frame.info.now in
    let p = given c.args.frame in
    let o = c.args.out.now in
    let d = c.in_ok-control.control in
    let a = sym c.in_ok-control.ensures in
    let l = octets_length d i in
    let e = fits (admit_answer w p) d i (length o) a c.if-out-len.false in
    record {
      answers = sym (ap counted e ∙ ap Ok l);
      leaves = c.lay.ensures ∙ sym (ap (λ r. laid r o) e ∙ ap (λ n. octets_of d i ++ drop n o) l);
      reads_back = λ n h.
          let k : length i + 4 ≡ n = cc in
          ap (read_answer w)
          (ap (take n) c.lay.ensures ∙ take_at (octets_of d i) (drop (length i + 4) o) n (l ∙ k))
          ∙ written_read w p (octets_of d i) (ap (λ x. octets_by x i) a);
    }
