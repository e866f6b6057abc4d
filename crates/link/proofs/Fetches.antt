-- A fetch at either end keeps the invariant.
use Rattle.std.proofs.Common.{◌≡◌, Bool, List, [], ◌∷◌, ◌++◌, drop, sym, refl, ap, ◌∙◌, subst, append_assoc}
use Rattle.lines.specs.Entries.{Entry}
use Rattle.stations.specs.declared.mode.Mode.{Mode}
use Rattle.stations.specs.Station.{Block, Station, with_waiting, oldest}
use Rattle.stations.specs.Primary.{Timer}
use Rattle.link.specs.declared.end.End.TheVariants.{Primary, Secondary}
use Rattle.link.specs.State.{Measures, State, state}
use Rattle.link.specs.Calls.{passed_on}
use Rattle.link.specs.History.{Tally, Account, account, fetch, note_fetch, fetches}
use Rattle.link.specs.Promise.{Whole}
use Rattle.link.proofs.Ends.{fetch_duplex, far_fetch_duplex}
use Rattle.link.proofs.Openings.{newly_fetched}
use Rattle.link.proofs.Phases.{Phase, both_closed, opening, both_open, closing, half_closed, Wholes, Good, Then}

-- the block fetched leaves the queue
whole_fetched : {x : Station} {y : Tally} (z : Block) (zs : List Block) →
    x.waiting ≡ z ∷ zs → Whole x y → Whole (with_waiting x zs) (fetch z y)
whole_fetched {x} {y} z zs e h =
    record { whole = append_assoc y.fetched (z ∷ []) zs ∙ sym (ap (λ v. y.fetched ++ v) e) ∙ h.whole }

-- nothing waits, and nothing changes
unchanged : (x : Station) → x.waiting ≡ [] → x ≡ with_waiting x []
unchanged x e = ap (with_waiting x) e

module _ {g : Measures} where
  primary_fetched : {one two : List Entry} {m : Mode} {t : Timer} {u : Bool} {p s : Station} {pt st : Tally} →
      (zs : List Block) → p.waiting ≡ zs →
      Phase g (state one two m t u p s) (account pt st) → Whole p pt × Whole s st →
      Good g (state one two m t u (with_waiting p (drop 1 zs)) s)
      (note_fetch (passed_on (oldest zs)) Primary (account pt st))
  primary_fetched {one} {two} {m} {t} {u} {p} {s} {pt} {st} [] e h q =
      subst (λ x. Good g (state one two m t u x s) (account pt st)) (unchanged p e) (h, q)
  primary_fetched (z ∷ zs) e both_closed q = (both_closed, (whole_fetched z zs e q.0, q.1))
  primary_fetched (z ∷ zs) e (opening i s f) q = (opening i s f, (whole_fetched z zs e q.0, q.1))
  primary_fetched (z ∷ zs) e (both_open i d) q =
      (both_open i (fetch_duplex z zs d), (whole_fetched z zs e q.0, q.1))
  primary_fetched (z ∷ zs) e (closing i d) q =
      (closing i (far_fetch_duplex z zs d), (whole_fetched z zs e q.0, q.1))
  primary_fetched (z ∷ zs) e (half_closed i h l) q = (half_closed i h l, (whole_fetched z zs e q.0, q.1))

  secondary_fetched : {one two : List Entry} {m : Mode} {t : Timer} {u : Bool} {p s : Station} {pt st : Tally} →
      (zs : List Block) → s.waiting ≡ zs →
      Phase g (state one two m t u p s) (account pt st) → Whole p pt × Whole s st →
      Good g (state one two m t u p (with_waiting s (drop 1 zs)))
      (note_fetch (passed_on (oldest zs)) Secondary (account pt st))
  secondary_fetched {one} {two} {m} {t} {u} {p} {s} {pt} {st} [] e h q =
      subst (λ x. Good g (state one two m t u p x) (account pt st)) (unchanged s e) (h, q)
  secondary_fetched (z ∷ zs) e both_closed q = (both_closed, (q.0, whole_fetched z zs e q.1))
  secondary_fetched (z ∷ zs) e (opening i s f) q =
      (opening i s (newly_fetched z zs f), (q.0, whole_fetched z zs e q.1))
  secondary_fetched (z ∷ zs) e (both_open i d) q =
      (both_open i (far_fetch_duplex z zs d), (q.0, whole_fetched z zs e q.1))
  secondary_fetched (z ∷ zs) e (closing i d) q =
      (closing i (fetch_duplex z zs d), (q.0, whole_fetched z zs e q.1))
  secondary_fetched (z ∷ zs) e (half_closed i h l) q = (half_closed i h l, (q.0, whole_fetched z zs e q.1))

  pub keep_primary_fetches : (x : State) (y : Account) → Phase g x y → Wholes x y → Then (fetches Primary) g x y
  keep_primary_fetches (state one two m t u p s) (account pt st) h q = primary_fetched p.waiting refl h q

  pub keep_secondary_fetches : (x : State) (y : Account) → Phase g x y → Wholes x y → Then (fetches Secondary) g x y
  keep_secondary_fetches (state one two m t u p s) (account pt st) h q = secondary_fetched s.waiting refl h q
