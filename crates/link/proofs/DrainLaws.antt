-- The law of drains: a link that its check grants keeps its promise after every list of calls and drains.
use Rattle.std.proofs.Common.{◌≡◌, ℕ, List, length, None, sym, ap, subst, arith}
use Rattle.lines.specs.Entries.{Lists}
use Rattle.link.specs.State.{Model, made}
use Rattle.link.specs.History.{Call, account, no_tally}
use Rattle.link.specs.Acts.{Act, singles, account_after}
use Rattle.link.specs.DrainPromise.{Drainable, KeptThrough, DrainLaw}
use Rattle.link.proofs.Histories.{run_sound, keep_run}
use Rattle.link.proofs.Fits.{Fits, fits, fits_run}
use Rattle.link.proofs.Drains.{drainable}
use Rattle.link.proofs.Law.{large, wide, short, start, one_empty, two_empty, kept}

module _ (ls : Lists) (t : ℕ) (sound : (made ls t).fault ≡ None) where
  start_fits : Fits (made ls t).measures (made ls t).now
  start_fits =
      let a = ap length (one_empty ls t sound) in
      let b = ap length (two_empty ls t sound) in
      fits (omega arith) (omega arith) tt

  kept_through : (acts : List Act) → KeptThrough (made ls t) acts
  kept_through acts =
      let l : Model = made ls t in
      let calls : List Call = singles l acts in
      let k = kept ls t sound calls in
      let good = keep_run l (account no_tally no_tally) (large ls t sound) sound (start ls t sound) calls in
      record {
        promised = k.promised;
        numbered = k.numbered;
        drains =
            subst (λ m. Drainable m (account_after l acts)) (sym (run_sound l sound calls))
            (drainable l.measures (wide ls t sound) (large ls t sound) (short ls t sound) good.0 (fits_run l (omega (arith, large ls t sound)) sound start_fits calls));
      }

pub drain_law : (ls : Lists) (t : ℕ) → DrainLaw (made ls t)
drain_law ls t sound acts = kept_through ls t sound acts
