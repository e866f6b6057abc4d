-- What the two ways hold while the primary opens: requests to open, and behind a UA the new connection.
use Rattle.std.proofs.Common.{◌≡◌, ℕ, ◌%◌, ◌<◌, Bool, true, false, ltb, List, [], ◌∷◌, ◌++◌, length, sym, refl, ap, ◌∙◌, arith}
use Rattle.frames.specs.declared.kind.Kind.TheVariants.{I, Sarm, Ua}
use Rattle.frames.specs.Parts.{parts}
use Rattle.lines.specs.Entries.{Entry, struck, frame}
use Rattle.stations.specs.Station.{Block, Station, outstanding, sent, status_by, with_waiting}
use Rattle.stations.specs.Puts.{put, put_by, plain, inform}
use Rattle.link.specs.History.{Tally, accept, fetch}
use Rattle.link.proofs.Thinning.{Thin, none, mute, same, hit, gone}
use Rattle.link.proofs.Marks.{Marks, blank, unmarked, no_mark}
use Rattle.link.proofs.Flows.{Carries, Flow, done, skip, info, status, flow_thin, flow_accept, flow_info}
use Rattle.link.proofs.Tallies.{Sound, sound_sent, carries_sent, sound_fetched}

-- ---- way 1: SARM or struck

pub data Sarms : List Entry → Type 0 where
  sarm_none : Sarms []
  sarm_struck : {a : ℕ} {es : List Entry} → Sarms es → Sarms (struck a ∷ es)
  sarm_next : {a ns nr b : ℕ} {x : Block} {es : List Entry} → Sarms es → Sarms (frame a (parts Sarm ns nr b x) ∷ es)

pub sarms_thin : {es fs : List Entry} → Thin es fs → Sarms es → Sarms fs
sarms_thin none sarm_none = sarm_none
sarms_thin (mute t) (sarm_struck h) = sarm_struck (sarms_thin t h)
sarms_thin (same t) (sarm_next h) = sarm_next (sarms_thin t h)
sarms_thin (hit t) (sarm_next h) = sarm_struck (sarms_thin t h)
sarms_thin (gone t) (sarm_struck h) = sarms_thin t h
sarms_thin (gone t) (sarm_next h) = sarms_thin t h

sarms_push : {es : List Entry} → Sarms es → Sarms (es ++ (frame 0 (plain Sarm) ∷ []))
sarms_push sarm_none = sarm_next sarm_none
sarms_push (sarm_struck h) = sarm_struck (sarms_push h)
sarms_push (sarm_next h) = sarm_next (sarms_push h)

pub sarms_put : (room : Bool) {es : List Entry} → Sarms es → Sarms (put_by room es (plain Sarm))
sarms_put true h = sarms_push h
sarms_put false h = h

-- with no SARM left it is a way of a new connection
pub sarms_flow : (blocks : List Block) (hi : ℕ) {d : ℕ} {P : ℕ → Type 0} {es : List Entry} →
    Sarms es → Marks d P false es → Flow blocks hi 0 0 es
sarms_flow blocks hi sarm_none w = done (omega arith) (omega arith)
sarms_flow blocks hi (sarm_struck h) (blank l w) = skip (sarms_flow blocks hi h w)
sarms_flow blocks hi (sarm_next h) w = absurd (no_mark refl w)

-- ---- way 2: what is behind a UA is of the new connection

pub data Behind (blocks : List Block) : List Entry → Type 0 where
  behind_none : Behind blocks []
  behind_struck : {a : ℕ} {es : List Entry} → Behind blocks es → Behind blocks (struck a ∷ es)
  behind_info : {a ns nr b : ℕ} {x : Block} {es : List Entry} →
      Behind blocks es → Behind blocks (frame a (parts I ns nr b x) ∷ es)
  behind_status : {a ns nr b : ℕ} {x : Block} {es : List Entry} (busy : Bool) →
      Behind blocks es → Behind blocks (frame a (parts (status_by busy) ns nr b x) ∷ es)
  behind_ua : {a ns nr b : ℕ} {x : Block} {es : List Entry} →
      Flow blocks 0 0 0 es → Behind blocks (frame a (parts Ua ns nr b x) ∷ es)

module _ {blocks : List Block} where
  flow_behind : {hi m lo : ℕ} {es : List Entry} → Flow blocks hi m lo es → Behind blocks es
  flow_behind (done l h) = behind_none
  flow_behind (skip f) = behind_struck (flow_behind f)
  flow_behind (info c t f) = behind_info (flow_behind f)
  flow_behind (status w t f) = behind_status w (flow_behind f)

  behind_thin : {es fs : List Entry} → Thin es fs → Behind blocks es → Behind blocks fs
  behind_thin none behind_none = behind_none
  behind_thin (mute t) (behind_struck h) = behind_struck (behind_thin t h)
  behind_thin (same t) (behind_info h) = behind_info (behind_thin t h)
  behind_thin (same t) (behind_status w h) = behind_status w (behind_thin t h)
  behind_thin (same t) (behind_ua f) = behind_ua (flow_thin t f)
  behind_thin (hit t) (behind_info h) = behind_struck (behind_thin t h)
  behind_thin (hit t) (behind_status w h) = behind_struck (behind_thin t h)
  behind_thin (hit t) (behind_ua f) = behind_struck (flow_behind (flow_thin t f))
  behind_thin (gone t) (behind_struck h) = behind_thin t h
  behind_thin (gone t) (behind_info h) = behind_thin t h
  behind_thin (gone t) (behind_status w h) = behind_thin t h
  behind_thin (gone t) (behind_ua f) = flow_behind (flow_thin t f)

  -- with no UA there it says nothing of what was accepted, and a new UA may go out
  behind_free : (blocks' : List Block) {d : ℕ} {P : ℕ → Type 0} {es : List Entry} →
      Behind blocks es → Marks d P false es → Behind blocks' es
  behind_free blocks' behind_none w = behind_none
  behind_free blocks' (behind_struck h) (blank l w) = behind_struck (behind_free blocks' h w)
  behind_free blocks' (behind_info h) (unmarked m l w) = behind_info (behind_free blocks' h w)
  behind_free blocks' (behind_status v h) (unmarked m l w) = behind_status v (behind_free blocks' h w)
  behind_free blocks' (behind_ua f) w = absurd (no_mark refl w)

  behind_push_ua : {d : ℕ} {P : ℕ → Type 0} {es : List Entry} →
      Behind blocks es → Marks d P false es → Behind blocks (es ++ (frame 0 (plain Ua) ∷ []))
  behind_push_ua behind_none w = behind_ua (done (omega arith) (omega arith))
  behind_push_ua (behind_struck h) (blank l w) = behind_struck (behind_push_ua h w)
  behind_push_ua (behind_info h) (unmarked m l w) = behind_info (behind_push_ua h w)
  behind_push_ua (behind_status v h) (unmarked m l w) = behind_status v (behind_push_ua h w)
  behind_push_ua (behind_ua f) w = absurd (no_mark refl w)

  pub behind_put_ua : (room : Bool) {d : ℕ} {P : ℕ → Type 0} {es : List Entry} →
      Behind blocks es → Marks d P false es → Behind blocks (put_by room es (plain Ua))
  behind_put_ua true h w = behind_push_ua h w
  behind_put_ua false h w = h

  behind_accept : (z : Block) {es : List Entry} → Behind blocks es → Behind (blocks ++ (z ∷ [])) es
  behind_accept z behind_none = behind_none
  behind_accept z (behind_struck h) = behind_struck (behind_accept z h)
  behind_accept z (behind_info h) = behind_info (behind_accept z h)
  behind_accept z (behind_status w h) = behind_status w (behind_accept z h)
  behind_accept z (behind_ua f) = behind_ua (flow_accept z f)

  behind_push_info : (ns nr b n : ℕ) (x : Block) {es : List Entry} →
      0 ≡ nr → Carries blocks ns (length blocks) n x → Behind blocks es →
      Behind blocks (es ++ (frame 0 (parts I ns nr b x) ∷ []))
  behind_push_info ns nr b n x e c behind_none = behind_info behind_none
  behind_push_info ns nr b n x e c (behind_struck h) = behind_struck (behind_push_info ns nr b n x e c h)
  behind_push_info ns nr b n x e c (behind_info h) = behind_info (behind_push_info ns nr b n x e c h)
  behind_push_info ns nr b n x e c (behind_status w h) = behind_status w (behind_push_info ns nr b n x e c h)
  behind_push_info ns nr b n x e c (behind_ua f) = behind_ua (flow_info ns nr b n x e c f)

  behind_put_info : (room : Bool) (ns nr b n : ℕ) (x : Block) {es : List Entry} →
      0 ≡ nr → Carries blocks ns (length blocks) n x → Behind blocks es →
      Behind blocks (put_by room es (parts I ns nr b x))
  behind_put_info true ns nr b n x e c h = behind_push_info ns nr b n x e c h
  behind_put_info false ns nr b n x e c h = h

-- ---- the secondary: closed still, having put nothing, or open, having taken in nothing

pub data Newly : Bool → List Entry → Station → Tally → Type 0 where
  still_closed : {s : Station} {st : Tally} → Newly false [] s st
  just_open : {two : List Entry} {s : Station} {st : Tally} →
      Sound s st → st.acknowledged ≡ 0 → st.taken ≡ [] → Behind st.accepted two → Newly true two s st

pub newly_thin : {u : Bool} {two es : List Entry} {s : Station} {st : Tally} →
    Thin two es → Newly u two s st → Newly u es s st
newly_thin none still_closed = still_closed
newly_thin t (just_open sound a r b) = just_open sound a r (behind_thin t b)

pub newly_behind : (blocks : List Block) {d : ℕ} {P : ℕ → Type 0} →
    {u : Bool} {two : List Entry} {s : Station} {st : Tally} →
    Newly u two s st → Marks d P false two → Behind blocks two
newly_behind blocks still_closed w = behind_none
newly_behind blocks (just_open sound a r b) w = behind_free blocks b w

-- it may send before the primary is open
pub newly_sent : {two : List Entry} {s : Station} {st : Tally} (k : ℕ) (z : Block) → outstanding s < 7 →
    Sound s st → st.acknowledged ≡ 0 → st.taken ≡ [] → Behind st.accepted two →
    Newly true (put k two (inform s s.vs z)) (sent s z) (accept z st)
newly_sent {two} {s} {st} k z free sound a r b =
    just_open (sound_sent z sound free) a r
    (behind_put_info (ltb (length two) k) s.vs s.vr 0 (length st.accepted) z
    (sym (sound.vr_is ∙ ap (λ w. length w % 8) r)) (carries_sent z sound free) (behind_accept z b))

-- and a block of an earlier connection may be fetched from it
pub newly_fetched : {u : Bool} {two : List Entry} {s : Station} {st : Tally} (z : Block) (zs : List Block) →
    Newly u two s st → Newly u two (with_waiting s zs) (fetch z st)
newly_fetched z zs still_closed = still_closed
newly_fetched z zs (just_open sound a r b) = just_open (sound_fetched z zs sound) a r b
