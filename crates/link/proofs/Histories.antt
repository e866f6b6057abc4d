-- The invariant holds after every list of calls on a sound link.
use Rattle.std.proofs.Common.{◌≡◌, ◌+◌, ◌*◌, ◌≤◌, List, [], ◌∷◌, ◌++◌, None, sym, refl, ap, subst}
use Rattle.link.specs.declared.end.End.TheVariants.{Primary, Secondary}
use Rattle.link.specs.State.{Measures, State, Model}
use Rattle.link.specs.Calls.{held_by}
use Rattle.link.specs.History.{Call, opens, closes, polls, ticks, sends, takes, fetches, strikes, leaves, step, run, Account, notes, noted_by, noted, account_of}
use Rattle.link.proofs.Phases.{Good, Then}
use Rattle.link.proofs.Requests.{keep_opens, keep_closes, keep_polls}
use Rattle.link.proofs.Ticks.{keep_ticks}
use Rattle.link.proofs.Sends.{keep_primary_sends, keep_secondary_sends}
use Rattle.link.proofs.PrimaryTakes.{primary_takes}
use Rattle.link.proofs.SecondaryTakes.{secondary_takes}
use Rattle.link.proofs.Fetches.{keep_primary_fetches, keep_secondary_fetches}
use Rattle.link.proofs.Strikes.{keep_strikes}

-- every call keeps it
keep_call : (g : Measures) → 2 * g.d + 1 ≤ g.t → (c : Call) (x : State) (y : Account) → Good g x y → Then c g x y
keep_call g large opens x y h = keep_opens h.0 h.1
keep_call g large closes x y h = keep_closes h.0 h.1
keep_call g large polls x y h = keep_polls h.0 h.1
keep_call g large ticks x y h = keep_ticks g large h.0 h.1
keep_call g large (sends Primary z) x y h = keep_primary_sends g z h.0 h.1
keep_call g large (sends Secondary z) x y h = keep_secondary_sends g z h.0 h.1
keep_call g large (takes Primary) x y h = (primary_takes h.0 h.1).after
keep_call g large (takes Secondary) x y h = (secondary_takes h.0 h.1).after
keep_call g large (fetches Primary) x y h = keep_primary_fetches x y h.0 h.1
keep_call g large (fetches Secondary) x y h = keep_secondary_fetches x y h.0 h.1
keep_call g large (strikes w place start mask) x y h = keep_strikes g place start mask w h.0 h.1

-- a link without a fault
abbrev pub faultless : Measures → State → Model
faultless g x = record { fault = None; measures = g; now = x }

-- a list of calls goes on from where its front leads
pub run_append : (l : Model) (before after : List Call) → run l (before ++ after) ≡ run (run l before) after
run_append l [] after = refl
run_append l (c ∷ cs) after = run_append (step l c) cs after

pub account_append : (l : Model) (y : Account) (before after : List Call) →
    account_of l y (before ++ after) ≡ account_of (run l before) (account_of l y before) after
account_append l y [] after = refl
account_append l y (c ∷ cs) after = account_append (step l c) (noted l c y) cs after

-- calls keep a link's measures
pub run_measures : (l : Model) (calls : List Call) → (run l calls).measures ≡ l.measures
run_measures l [] = refl
run_measures l (c ∷ cs) = run_measures (step l c) cs

-- and bring no fault
pub run_sound : (l : Model) → l.fault ≡ None → (calls : List Call) → run l calls ≡ faultless l.measures (run l calls).now
run_sound l sound [] = ap (λ o. record { fault = o; measures = l.measures; now = l.now }) sound
run_sound l sound (c ∷ cs) = run_sound (step l c) sound cs

-- and a link without a fault takes each step
pub keep_run : (l : Model) (y : Account) → 2 * l.measures.d + 1 ≤ l.measures.t → l.fault ≡ None →
    Good l.measures l.now y → (calls : List Call) → Good l.measures (run l calls).now (account_of l y calls)
keep_run l y large sound h [] = h
keep_run l y large sound h (c ∷ cs) =
    let g : Measures = l.measures in
    let x : State = l.now in
    keep_run (step l c) (noted l c y) large sound
    (subst (λ o. Good g (held_by o x (leaves c g x)) (noted_by o y (notes c g x y))) (sym sound) (keep_call g large c x y h))
    cs
