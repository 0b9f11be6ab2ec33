-- What a batch leaves under the lock, as steps of the rule one after the other.
use Rattle.std.proofs.Common.{◌≡◌, ◌≢◌, ℕ, zero, suc, ◌≤◌, Bool, true, false, true≢false, List, [], ◌∷◌, ◌++◌, set, take, drop, slice_get, is_some, Option, sym, refl, ap, ◌∙◌, subst, arith, append_assoc}
use Rattle.std.proofs.lemmas.List.{append_cancel_left, append-nil, drop_all, set-set}
use mathlib.Core.Option.{some}
use lib.ListN.{get_elem?}
use Rattle.atomic_table.proofs.Lists.{set_again}
use Rattle.channel_core.specs.Queue.{is_full}
use Rattle.channel_core.specs.Channel.{Channel, is_channel_full, accepting, receiving, sending, sent, taking}
use Rattle.channel_core.specs.Batches.{received_many, sent_many}
use Rattle.ruled_channel.specs.State.{State, state_of, holding}
use Rattle.ruled_channel.specs.Rule.{ReceivesMany, SendsMany, TellsEach}
use Rattle.ruled_channel.proofs.Views.{at_same}

pub is_longer : {T : Type 0} (l : List T) (m : T) (rest : List T) → l ++ m ∷ rest ≢ l
is_longer l m rest e = true≢false (ap (λ r. is_some (slice_get r 0)) (append_cancel_left l (m ∷ rest) [] (e ∙ sym (append-nil l))))

-- each of these messages finds a place after those before it
abbrev pub Fits : {T : Type 0} → Bool → Option ℕ → List T → List T → Type 0
Fits closed capacity [] held = Unit {0}
Fits closed capacity (m ∷ rest) held = ((closed ≡ false) × (is_full capacity held ≡ false)) × Fits closed capacity rest (held ++ m ∷ [])

module _ {T W : Type 0} where
  stays_closed : (messages : List T) (core : Channel T W) → core.closed ≡ true → (sent_many messages core).channel ≡ core
  stays_closed [] core was = refl
  stays_closed (m ∷ rest) core was = subst (λ c. (sent_many rest (sending c (is_channel_full core) m core).channel).channel ≡ core) (sym was) (stays_closed rest core was)

  stays_full : (messages : List T) (core : Channel T W) → core.closed ≡ false → is_channel_full core ≡ true → (sent_many messages core).channel ≡ core
  stays_full [] core was filled = refl
  stays_full (m ∷ rest) core was filled = subst (λ (z : Bool × Bool). (sent_many rest (sending z.0 z.1 m core).channel).channel ≡ core)
      (λ i. (sym was i, sym filled i)) (stays_full rest core was filled)

  -- if all are held then, each found a place
  pub fits : (messages : List T) (core : Channel T W) → (sent_many messages core).channel.messages ≡ core.messages ++ messages
      → Fits core.closed core.capacity messages core.messages
  fits [] core e = tt
  fits (m ∷ rest) core e = go (fits rest (accepting m core).channel) core.closed (is_channel_full core) refl refl e where
    go : ((sent_many rest (accepting m core).channel).channel.messages ≡ (core.messages ++ m ∷ []) ++ rest → Fits core.closed core.capacity rest (core.messages ++ m ∷ []))
        → (closed full : Bool) → core.closed ≡ closed → is_channel_full core ≡ full
        → (sent_many rest (sending closed full m core).channel).channel.messages ≡ core.messages ++ m ∷ rest
        → Fits core.closed core.capacity (m ∷ rest) core.messages
    go others true full was filled e = absurd (is_longer core.messages m rest (sym e ∙ ap (λ (c : Channel T W). c.messages) (stays_closed rest core was)))
    go others false true was filled e = absurd (is_longer core.messages m rest (sym e ∙ ap (λ (c : Channel T W). c.messages) (stays_full rest core was filled)))
    go others false false was filled e = ((was, filled), others (e ∙ sym (append_assoc core.messages (m ∷ []) rest)))

  one_leaves : (closed full : Bool) (m : T) (core : Channel T W) → state_of (sending closed full m core).channel ≡ holding (sending closed full m core).channel.messages (state_of core)
  one_leaves true full m core = refl
  one_leaves false true m core = refl
  one_leaves false false m core = refl

  all_leave : (messages : List T) (core : Channel T W) → state_of (sent_many messages core).channel ≡ holding (sent_many messages core).channel.messages (state_of core)
  all_leave [] core = refl
  all_leave (m ∷ rest) core = all_leave rest (sent m core).channel
      ∙ ap (holding (sent_many rest (sent m core).channel).channel.messages) (one_leaves core.closed (is_channel_full core) m core)

  -- sends that all went leave their messages last
  pub left_by_sends : (messages : List T) (core now : Channel T W) → now ≡ (sent_many messages core).channel → now.messages ≡ core.messages ++ messages
      → state_of now ≡ holding (core.messages ++ messages) (state_of core)
  left_by_sends messages core now is held = ap state_of is ∙ all_leave messages core
      ∙ ap (λ l. holding l (state_of core)) (ap (λ (c : Channel T W). c.messages) (sym is) ∙ held)

  -- receives leave all but the first messages
  pub left_by_receives : (count : ℕ) (core : Channel T W) → state_of (received_many count core).channel ≡ holding (drop count core.messages) (state_of core)
  left_by_receives zero core = refl
  left_by_receives (suc count) core = go (left_by_receives count core) (left_by_receives count (receiving core).channel) core.messages refl where
    go : state_of (received_many count core).channel ≡ holding (drop count core.messages) (state_of core)
        → state_of (received_many count (receiving core).channel).channel ≡ holding (drop count (drop 1 core.messages)) (state_of core)
        → (messages : List T) → core.messages ≡ messages → state_of (received_many count (taking messages core).channel).channel ≡ holding (drop (suc count) messages) (state_of core)
    go none others [] held = none ∙ ap (λ l. holding l (state_of core)) (ap (drop count) held ∙ drop_all count [] (omega arith))
    go none others (m ∷ rest) held = others ∙ ap (λ l. holding (drop count (drop 1 l)) (state_of core)) held

module _ {T V : Type 0} (holds : State T → List V → Type 0) (pass : ℕ) (then : V → T → V → Type 0) where
  pub first_sends : (count : ℕ) (messages : List T) (v : V) → SendsMany holds pass v messages then → SendsMany holds pass v (take count messages) then
  first_sends zero messages v asked = tt
  first_sends (suc count) [] v asked = tt
  first_sends (suc count) (m ∷ rest) v asked = (asked.0, λ w told. first_sends count rest w (asked.1 w told))

  -- the rule stays by all sends
  pub sends_all : (state : State T) (messages held : List T) (v : V) (views : List V) → Fits state.closed state.capacity messages held → SendsMany holds pass v messages then
      → holds (holding held state) views → get_elem? views pass ≡ some v
      → (w : V) × holds (holding (held ++ messages) state) (set views pass w) × TellsEach then v messages w
  sends_all state [] held v views fit asked h at = (
    v,
    subst (λ (z : List T × List V). holds (holding z.0 state) z.1) (λ i. (sym (append-nil held) i, sym (set_again views pass v at) i)) h,
    refl,
  )
  sends_all state (m ∷ rest) held v views fit asked h at =
      let one = asked.0 (holding held state) views fit.0 h at in
      let others = sends_all state rest (held ++ m ∷ []) one.0 (set views pass one.0) fit.1 (asked.1 one.0 one.2) one.1 (at_same views pass one.0 v at) in (
        others.0,
        subst (λ (z : List T × List V). holds (holding z.0 state) z.1) (λ i. (append_assoc held (m ∷ []) rest i, set-set views pass one.0 others.0 i)) others.1,
        (one.0, one.2, others.2),
      )

  -- and by all receives
  pub takes_all : (state : State T) (count limit : ℕ) (messages : List T) (v : V) (views : List V) → count ≤ limit → ReceivesMany holds pass v limit then
      → holds (holding messages state) views → get_elem? views pass ≡ some v
      → (w : V) × holds (holding (drop count messages) state) (set views pass w) × TellsEach then v (take count messages) w
  takes_all state zero limit messages v views le asked h at = (v, subst (holds (holding messages state)) (sym (set_again views pass v at)) h, refl)
  takes_all state (suc count) zero messages v views le asked h at = absurd (omega arith)
  takes_all state (suc count) (suc limit) [] v views le asked h at = (v, subst (holds (holding [] state)) (sym (set_again views pass v at)) h, refl)
  takes_all state (suc count) (suc limit) (m ∷ rest) v views le asked h at =
      let one = asked.0 m rest (holding (m ∷ rest) state) views refl h at in
      let others = takes_all state count limit rest one.0 (set views pass one.0) (omega arith) (asked.1 m one.0 one.2) one.1 (at_same views pass one.0 v at) in (
        others.0,
        subst (holds (holding (drop count rest) state)) (set-set views pass one.0 others.0) others.1,
        (one.0, one.2, others.2),
      )

-- the rule that asks nothing allows each batch
pub sends_freely : {T : Type 0} (pass : ℕ) (messages : List T) (v : Unit {0}) → SendsMany (λ _ _. Unit {0}) pass v messages (λ _ _ _. Unit {0})
sends_freely pass [] v = tt
sends_freely pass (m ∷ rest) v = (λ state views may h at. (tt, tt, tt), λ w told. sends_freely pass rest w)

pub receives_freely : (T : Type 0) (pass count : ℕ) (v : Unit {0}) → ReceivesMany {T = T} (λ _ _. Unit {0}) pass v count (λ _ _ _. Unit {0})
receives_freely T pass zero v = tt
receives_freely T pass (suc count) v = (λ m rest state views may h at. (tt, tt, tt), λ m w told. receives_freely T pass count w)
