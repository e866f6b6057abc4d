-- At most one request is on its way, or its answer, and none at all when the timer is off or has just run out.
use Rattle.std.proofs.Common.{◌≡◌, ℕ, ◌+◌, ◌*◌, ◌≤◌, Bool, true, false, eqb, ltb, List, [], ◌∷◌, length, Some, None, refl, arith}
use Rattle.frames.specs.Parts.{Parts}
use Rattle.lines.specs.Entries.{Entry, frame}
use Rattle.lines.specs.Line.{older}
use Rattle.stations.specs.Station.{Station}
use Rattle.stations.specs.Puts.{put_by, status}
use Rattle.stations.specs.Primary.{Timer, timer_by, resend_by}
use Rattle.stations.specs.Secondary.{final_by}
use Rattle.link.specs.State.{Measures}
use Rattle.link.proofs.Marks.{marked, marked_status, Marks, marks_any, marks_after, marks_age, no_mark, marks_put_mark, marks_older, marks_out, Unmarking, marks_tail, marks_again}

-- the ages of a request and of an answer, where the timer stands at n
abbrev pub RequestAge : ℕ → ℕ → Type 0
RequestAge n a = a ≡ n

abbrev pub AnswerAge : ℕ → ℕ → ℕ → Type 0
AnswerAge d n a = (a ≤ n) × (n ≤ a + d)

abbrev pub NoAge : ℕ → Type 0
NoAge a = ⊥

-- way 1 holds the request, or way 2 the answer, or neither does
pub data Exchange (g : Measures) : Timer → List Entry → List Entry → Type 0 where
  idle : {one two : List Entry} →
      Marks g.d NoAge false one → Marks g.d NoAge false two → Exchange g None one two
  asked : {n : ℕ} {one two : List Entry} →
      Marks g.d (RequestAge n) true one → Marks g.d NoAge false two → Exchange g (Some n) one two
  answered : {n : ℕ} {one two : List Entry} →
      Marks g.d NoAge false one → Marks g.d (AnswerAge g.d n) true two → Exchange g (Some n) one two

-- neither a request nor an answer
abbrev pub Quiet : Measures → List Entry → List Entry → Type 0
Quiet g one two = Marks g.d NoAge false one × Marks g.d NoAge false two

module _ {g : Measures} where
  pub quiet : {one two : List Entry} → Exchange g None one two → Quiet g one two
  quiet (idle h j) = (h, j)

  pub exchange_none : {one two : List Entry} → Quiet g one two → Exchange g None one two
  exchange_none q = idle q.0 q.1

  -- a request goes out
  pub exchange_ask : {one two : List Entry} (room : Bool) (f : Parts) →
      marked f ≡ true → Quiet g one two → Exchange g (Some 0) (put_by room one f) two
  exchange_ask room f m q = asked (marks_put_mark room f m refl (marks_any (RequestAge 0) false q.0)) q.1

  -- a way changes, and no mark comes
  pub exchange_one : {t : Timer} {one two es : List Entry} →
      Unmarking g.d one es → Exchange g t one two → Exchange g t es two
  exchange_one c (idle h j) = idle (c NoAge false h) j
  exchange_one c (asked {n = n} h j) = asked (c (RequestAge n) true h) j
  exchange_one c (answered h j) = answered (c NoAge false h) j

  pub exchange_two : {t : Timer} {one two es : List Entry} →
      Unmarking g.d two es → Exchange g t one two → Exchange g t one es
  exchange_two c (idle h j) = idle h (c NoAge false j)
  exchange_two c (asked h j) = asked h (c NoAge false j)
  exchange_two c (answered {n = n} h j) = answered h (c (AnswerAge g.d n) true j)

  -- the secondary takes a request, and the answer goes out
  pub exchange_answer : (room : Bool) {a : ℕ} {f : Parts} (r : Parts) {t : Timer} {one two : List Entry} →
      marked f ≡ true → marked r ≡ true → Exchange g t (frame a f ∷ one) two → Exchange g t one (put_by room two r)
  exchange_answer room r m e (idle h j) = absurd (no_mark m h)
  exchange_answer room r m e (asked h j) =
      let x = marks_age true m h in
      answered (marks_any NoAge false (marks_after true m h))
      (marks_put_mark room r e (omega arith, omega arith) (marks_any (AnswerAge g.d _) false j))
  exchange_answer room r m e (answered h j) = absurd (no_mark m h)

  -- where a request is at the front, no answer is on its way
  pub exchange_free : {a : ℕ} {f : Parts} {t : Timer} {one two : List Entry} →
      marked f ≡ true → Exchange g t (frame a f ∷ one) two → Marks g.d NoAge false two
  exchange_free m (idle h j) = j
  exchange_free m (asked h j) = j
  exchange_free m (answered h j) = absurd (no_mark m h)

  -- the primary takes an answer
  pub exchange_done : {a : ℕ} {f : Parts} {t : Timer} {one two : List Entry} →
      marked f ≡ true → Exchange g t one (frame a f ∷ two) → Quiet g one two
  exchange_done m (idle h j) = absurd (no_mark m j)
  exchange_done m (asked h j) = absurd (no_mark m j)
  exchange_done m (answered h j) = (h, marks_any NoAge false (marks_after true m j))

  -- a tick with the timer off, with it running on, and with it out
  pub exchange_tick_off : {one two : List Entry} →
      Exchange g None one two → Exchange g None (older g.d one) (older g.d two)
  exchange_tick_off (idle h j) = idle (marks_older NoAge (λ a n l. n) h) (marks_older NoAge (λ a n l. n) j)

  pub exchange_tick : {n : ℕ} {one two : List Entry} →
      Exchange g (Some n) one two → Exchange g (Some (n + 1)) (older g.d one) (older g.d two)
  exchange_tick {n} (asked h j) =
      asked (marks_older (RequestAge (n + 1)) (λ a e i. omega arith) h) (marks_older NoAge (λ a n l. n) j)
  exchange_tick {n} (answered h j) =
      answered (marks_older NoAge (λ a n l. n) h)
      (marks_older (AnswerAge g.d (n + 1)) (λ a e i. (omega arith, omega arith)) j)

  pub exchange_out : {n : ℕ} {one two : List Entry} →
      2 * g.d + 1 ≤ g.t → g.t ≤ n + 1 → Exchange g (Some n) one two → Quiet g (older g.d one) (older g.d two)
  exchange_out {n} large out (asked h j) =
      (marks_out NoAge true (λ a q i. omega arith) h, marks_older NoAge (λ a n l. n) j)
  exchange_out {n} large out (answered h j) =
      (marks_older NoAge (λ a n l. n) h, marks_out NoAge true (λ a q i. omega arith) j)

  -- the secondary takes RR or RNR, refused or not, and answers a poll
  pub exchange_final : (refused poll : Bool) (k : ℕ) (x : Station) →
      {a : ℕ} {f : Parts} {t : Timer} {one two : List Entry} →
      marked f ≡ poll → Exchange g t (frame a f ∷ one) two → Exchange g t one (final_by refused poll k x two)
  exchange_final true poll k x m h = exchange_one marks_tail h
  exchange_final false false k x m h = exchange_one marks_tail h
  exchange_final false true k x {two = two} m h =
      exchange_two (marks_again x.busy k x)
      (exchange_answer (ltb (length two) k) (status x) m
      (marked_status (eqb (length x.waiting) 7) 0 x.vr 1 []) h)

  -- the primary takes RR or RNR, refused or not, and a final ends the exchange
  pub exchange_resend : (refused final : Bool) (k : ℕ) (x : Station) (t : Timer) →
      {a : ℕ} {f : Parts} {one two : List Entry} →
      marked f ≡ final → Exchange g t one (frame a f ∷ two) →
      Exchange g (timer_by refused final t) (resend_by refused final t k x one) two
  exchange_resend true final k x t m h = exchange_two marks_tail h
  exchange_resend false false k x t m h = exchange_two marks_tail h
  exchange_resend false true k x None m h = exchange_two marks_tail h
  exchange_resend false true k x (Some n) m h =
      exchange_one (marks_again x.busy k x) (exchange_none (exchange_done m h))
