-- A call made again and again, and the parts of a drain one after the other: what is left leads to the same end.
use Rattle.std.proofs.Common.{◌≡◌, ℕ, ◌+◌, ◌<◌, ◌≤◌, Bool, List, [], ◌∷◌, ◌++◌, length, get_or, drop, replicate, sym, refl, ap, ◌∙◌, ap₂, arith}
use Rattle.std.proofs.lemmas.List.{at_drop_more, at_drop_all, replicate_more}
use Rattle.stations.specs.declared.answer.Counts.{Counts}
use Rattle.stations.specs.Answers.{FewFrames}
use Rattle.link.specs.declared.drained.Drained.{Drained}
use Rattle.link.specs.declared.part.Part.{Part}
use Rattle.link.specs.State.{Model}
use Rattle.link.specs.History.{Call, opens, closes, polls, ticks, sends, takes, fetches, strikes, step, run}
use Rattle.link.specs.Drain.{part_calls, walk, frames_of, no_calls, counted_call, counted_all, settled_at, settled_by, drained, total}
use Rattle.link.proofs.Histories.{run_append}

pub counted_append : (l : Model) (before after : List Call) (d : Drained) →
    counted_all l (before ++ after) d ≡ counted_all (run l before) after (counted_all l before d)
counted_append l [] after d = refl
counted_append l (c ∷ cs) after d = counted_append (step l c) cs after (counted_call c (frames_of c l) d)

-- ---- a call made once more

pub run_again : (l : Model) (c : Call) (i : ℕ) → step (run l (replicate i c)) c ≡ run l (replicate (i + 1) c)
run_again l c i = sym (run_append l (replicate i c) (c ∷ [])) ∙ ap (λ cs. run l cs) (replicate_more i c)

pub counted_again : (l : Model) (c : Call) (i : ℕ) (d : Drained) →
    counted_call c (frames_of c (run l (replicate i c))) (counted_all l (replicate i c) d) ≡ counted_all l (replicate (i + 1) c) d
counted_again l c i d =
    sym (counted_append l (replicate i c) (c ∷ []) d) ∙ ap (λ cs. counted_all l cs d) (replicate_more i c)

-- a call puts and loses at most 8 frames each, and is a tick or a take at most
pub total_again : (c : Call) (f : Counts) (d : Drained) → FewFrames f → total (counted_call c f d) ≤ total d + 17
total_again opens f d h = omega (arith, h.put, h.lost)
total_again closes f d h = omega (arith, h.put, h.lost)
total_again polls f d h = omega (arith, h.put, h.lost)
total_again ticks f d h = omega (arith, h.put, h.lost)
total_again (sends e z) f d h = omega (arith, h.put, h.lost)
total_again (takes e) f d h = omega (arith, h.put, h.lost)
total_again (fetches e) f d h = omega (arith, h.put, h.lost)
total_again (strikes w place start mask) f d h = omega (arith, h.put, h.lost)

-- ---- parts, of which i are done
pub record Walks (ps : List Part) (i : ℕ) (l m : Model) (d e : Drained) : Type 0 where
  pub leads : run m (walk (drop i ps) m) ≡ run l (walk ps l)
  pub counts : counted_all m (walk (drop i ps) m) e ≡ counted_all l (walk ps l) d

module _ (ps : List Part) (i : ℕ) (l m m' : Model) (d e e' : Drained) (h : Walks ps i l m d e) where
  pub walks_more : (z : Part) → i < length ps →
      m' ≡ run m (part_calls (get_or ps i z) m) → e' ≡ counted_all m (part_calls (get_or ps i z) m) e → Walks ps (i + 1) l m' d e'
  walks_more z less q r =
      let p : Part = get_or ps i z in
      let rest : List Part = drop (i + 1) ps in
      let at : Model = run m (part_calls p m) in
      record {
        leads =
            ap (λ k. run k (walk rest k)) q
            ∙ sym (run_append m (part_calls p m) (walk rest at))
            ∙ sym (at_drop_more (λ xs. run m (walk xs m)) ps i z less)
            ∙ h.leads;
        counts =
            ap₂ (λ k x. counted_all k (walk rest k) x) q r
            ∙ sym (counted_append m (part_calls p m) (walk rest at) e)
            ∙ sym (at_drop_more (λ xs. counted_all m (walk xs m) e) ps i z less)
            ∙ h.counts;
      }

  pub walks_all : length ps ≤ i → (m ≡ run l (walk ps l)) × (e ≡ counted_all l (walk ps l) d)
  walks_all most = (
    sym (at_drop_all (λ xs. run m (walk xs m)) ps i most) ∙ h.leads,
    sym (at_drop_all (λ xs. counted_all m (walk xs m) e) ps i most) ∙ h.counts,
  )

-- ---- what a drain answers

pub answered : (l m : Model) (calls : List Call) (d : Drained) (b : Bool) →
    b ≡ settled_at m.now → m ≡ run l calls → d ≡ counted_all l calls no_calls → settled_by b d ≡ drained l calls
answered l m calls d b e p q = ap₂ settled_by (e ∙ ap (λ k. settled_at k.now) p) q
