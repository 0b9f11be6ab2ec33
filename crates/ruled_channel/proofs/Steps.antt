-- What a call leaves under the lock, as a step of the mutex's rule.
use Rattle.futures.specs.declared.task.Poll.{Poll}
use Rattle.futures.specs.declared.task.Poll.TheVariants.{Ready, Pending}
use Rattle.std.proofs.Common.{◌≡◌, ◌≢◌, ◌⊎◌, inl, inr, ℕ, ◌≤◌, Bool, true, false, List, [], ◌∷◌, ◌++◌, take, drop, get_or, slice_get, Option, Some, None, Result, Ok, Err, OnErr, sym, refl, ap, ◌∙◌, subst, arith}
use Rattle.std.proofs.lemmas.List.{append_cancel_left, append_cancel_right, append-nil, drop_all, take-append-drop}
use Rattle.std.specs.Prelude.{◌&&◌, not, slice_set}
use Rattle.atomic_table.proofs.Lists.{set_again}
use Rattle.crossbeam_utils.specs.Register.{TurnsAt}
use Rattle.channel_core.specs.Tables.{OnReady, OnWait}
use Rattle.channel_core.specs.Tickets.{left}
use Rattle.channel_core.specs.Channel.{Channel, RecvWaits, SendWaits, is_channel_full}
use Rattle.channel_core.specs.Batches.{taken_count}
use Rattle.ruled_channel.specs.Batches.{polled_receives, polled_sends}
use Rattle.ruled_channel.specs.State.{State, state_of, HasPlace, IsFull, IsOver, holding, joined}
use Rattle.ruled_channel.specs.Rule.{Allows, Sends, SendsMany, Forces, Receives, ReceivesMany, Ends, Shuts, Learns, TellsEach}
use Rattle.ruled_channel.specs.Guarded.{within, sent_or_kept, sent_many_or_kept, forced_or_kept, forced_of, received_or_kept, received_many_or_kept, received_of, taken_of, shut, kept}
use Rattle.ruled_channel.proofs.Many.{Fits, fits, is_longer, left_by_receives, left_by_sends, sends_all, takes_all}

-- a step of a pass is one of the same pass, at the same view and value
pub moved : {X V : Type 0} (holds : X → List V → Type 0) (then : V → X → X → V → Type 0) (pass pass' : ℕ) (v v' : V) (x x' y : X)
    → pass' ≡ pass → v' ≡ v → x ≡ x' → TurnsAt holds pass v x y then → TurnsAt holds pass' v' x' y then
moved {X} {V} holds then pass pass' v v' x x' y p q r t = subst (λ (z : ℕ × (V × X)). TurnsAt holds z.0 z.1.0 z.1.1 y then) (λ i. (sym p i, (sym q i, r i))) t

last_same : {T : Type 0} (l : List T) (m m' : T) → l ++ m ∷ [] ≡ l ++ m' ∷ [] → m ≡ m'
last_same l m m' e = ap (λ r. get_or r 0 m) (append_cancel_left l (m ∷ []) (m' ∷ []) e)

module _ {T W : Type 0} (core now : Channel T W) where
  -- what a forced send leaves of a channel that is closed, or full, or has room
  abbrev pub Goes : T → Bool → Bool → Type 0
  Goes m true full = state_of now ≡ state_of core
  Goes m false true = (d : T) × (core.messages ≡ d ∷ drop 1 core.messages)
      × (state_of now ≡ holding (drop 1 core.messages ++ m ∷ []) (state_of core))
  Goes m false false = (HasPlace (state_of core) × (state_of now ≡ joined m (state_of core))) ⊎ (state_of now ≡ state_of core)

module _ {T V W : Type 0} (core now found : Channel T W) (holds : State T → List V → Type 0) (pass pass' : ℕ) (v v' : V)
    (p : pass' ≡ pass) (q : v' ≡ v) (shows : core ≡ found) where
  -- what is shown of a channel that has a place
  pub placed : (tells : V → Channel T W → Channel T W → V → Type 0) → (core.capacity ≢ Some 0 → TurnsAt (within found.capacity holds) pass' v' found now tells)
      → TurnsAt (within found.capacity holds) pass' v' found now tells
  placed tells shown = λ views h at. shown (subst (λ (c : Channel T W). c.capacity ≢ Some 0) (sym shows) h.1) views h at

  -- a step that the rule allows
  pub turns : (May : State T → Type 0) (step : State T → State T) (then : State T → V → Type 0) (tells : V → Channel T W → Channel T W → V → Type 0)
      → May (state_of core) → state_of now ≡ step (state_of core) → (step (state_of core)).capacity ≡ core.capacity
      → ((w : V) → then (state_of core) w → tells v core now w)
      → Allows holds May step pass v then → TurnsAt (within found.capacity holds) pass' v' found now tells
  turns May step then tells may is same says asked = moved (within found.capacity holds) tells pass pass' v v' core found now p q shows
      λ views h at. let t = asked (state_of core) views may h.2 at in (
        t.0,
        (
          ap (λ (s : State T). s.capacity) is ∙ same ∙ h.0,
          h.1,
          subst (λ s. holds s (slice_set views pass t.0)) (sym is) t.1,
        ),
        says t.0 t.2,
      )

  -- one that changes nothing
  stays : (fact : V → State T → Type 0) → Learns holds pass v (fact v) → Allows holds (λ _. Unit {0}) (λ s. s) pass v (λ s w. (w ≡ v) × fact v s)
  stays fact learns = λ state views may h at. (v, subst (holds state) (sym (set_again views pass v at)) h, (refl, learns state views h at))

  -- what goes back as it was found keeps the rule, and tells what is learned
  pub keeps : (fact : V → State T → Type 0) → state_of now ≡ state_of core → Learns holds pass v (fact v)
      → TurnsAt (within found.capacity holds) pass' v' found now (kept fact)
  keeps fact is asked = turns (λ _. Unit {0}) (λ s. s) (λ s w. (w ≡ v) × fact v s) (kept fact) tt is refl (λ w told. told) (stays fact asked)

  -- a send puts its message last, or changes nothing
  offers_as : (m : T) (then : V → T → V → Type 0) (fact : V → State T → Type 0) (tells : V → Channel T W → Channel T W → V → Type 0)
      → ((w : V) → sent_or_kept then fact v core now w → tells v core now w)
      → (HasPlace (state_of core) × (state_of now ≡ joined m (state_of core))) ⊎ (state_of now ≡ state_of core)
      → Sends holds pass v m then → Learns holds pass v (fact v) → TurnsAt (within found.capacity holds) pass' v' found now tells
  offers_as m then fact tells says (inl goes) sends learns = turns HasPlace (joined m) (λ _ w. then v m w) tells goes.0 goes.1 refl
      (λ w told. let joins = sym (ap (λ (s : State T). s.messages) goes.1) in says w (
        λ m' e. subst (λ x. then v x w) (last_same core.messages m m' (joins ∙ e)) told,
        λ e. absurd (is_longer core.messages m [] (joins ∙ e)),
      )) sends
  offers_as m then fact tells says (inr is) sends learns = turns (λ _. Unit {0}) (λ s. s) (λ s w. (w ≡ v) × fact v s) tells tt is refl
      (λ w told. says w (λ m' e. absurd (is_longer core.messages m' [] (sym e ∙ ap (λ (s : State T). s.messages) is)), λ e. told)) (stays fact learns)

  pub offers : (m : T) (then : V → T → V → Type 0) (fact : V → State T → Type 0)
      → (HasPlace (state_of core) × (state_of now ≡ joined m (state_of core))) ⊎ (state_of now ≡ state_of core)
      → Sends holds pass v m then → Learns holds pass v (fact v) → TurnsAt (within found.capacity holds) pass' v' found now (sent_or_kept then fact)
  offers m then fact = offers_as m then fact (sent_or_kept then fact) (λ w told. told)

  -- a batch of sends puts its messages last, in order
  pub offers_many : (messages : List T) (then : V → T → V → Type 0) (fact : V → State T → Type 0)
      → Fits core.closed core.capacity messages core.messages → state_of now ≡ holding (core.messages ++ messages) (state_of core)
      → SendsMany holds pass v messages then → Learns holds pass v (fact v) → TurnsAt (within found.capacity holds) pass' v' found now (sent_many_or_kept then fact)
  offers_many messages then fact fit is sends learns = turns (λ s. Fits s.closed s.capacity messages s.messages) (λ s. holding (s.messages ++ messages) s)
      (λ s w. TellsEach then v messages w × fact v s) (sent_many_or_kept then fact) fit is refl
      (λ w told. let joins = ap (λ (s : State T). s.messages) is in (
        λ others e. subst (λ l. TellsEach then v l w) (append_cancel_left core.messages messages others (sym joins ∙ e)) told.0,
        λ e. (subst (λ l. TellsEach then v l w) (append_cancel_left core.messages messages [] (sym joins ∙ e ∙ sym (append-nil core.messages))) told.0, told.1),
      ))
      (λ state views may h at. let all = sends_all holds pass then state messages state.messages v views may sends h at in (all.0, all.1, (all.2, learns state views h at)))

  -- a poll of one puts those last that it sent, or changes nothing
  pub polls_sends : {A E : Type 0} (ticket ticket' : Option ℕ) (first : Option T) (messages : List T) (Fact : W → Type 0) (result : Result (Poll A) E)
      (then : V → T → V → Type 0) (fact : V → State T → Type 0)
      → OnReady result (now ≡ (polled_sends ticket messages core).channel) → OnReady result (now.messages ≡ core.messages ++ messages)
      → OnWait result ((w : W) × Fact w × SendWaits first ticket core w ticket' now) → OnErr result (now ≡ core)
      → SendsMany holds pass v messages then → Learns holds pass v (fact v) → TurnsAt (within found.capacity holds) pass' v' found now (sent_many_or_kept then fact)
  polls_sends ticket ticket' first messages Fact (Ok (Ready answer)) then fact after held waits unchanged sends learns =
      let left_core : Channel T W = record core { sends = left ticket core.sends } in
      offers_many messages then fact (fits messages left_core (ap (λ (c : Channel T W). c.messages) (sym after) ∙ held)) (left_by_sends messages left_core now after held) sends learns
  polls_sends ticket ticket' (Some m) messages Fact (Ok Pending) then fact after held waits unchanged sends learns =
      offers_many [] then fact tt (ap state_of waits.2.0 ∙ ap (λ l. holding l (state_of core)) (sym (append-nil core.messages))) tt learns
  polls_sends ticket ticket' None messages Fact (Ok Pending) then fact after held waits unchanged sends learns =
      offers_many [] then fact tt (ap state_of waits.2.0 ∙ ap (λ l. holding l (state_of core)) (sym (append-nil core.messages))) tt learns
  polls_sends ticket ticket' first messages Fact (Err error) then fact after held waits unchanged sends learns =
      offers_many [] then fact tt (ap state_of unchanged ∙ ap (λ l. holding l (state_of core)) (sym (append-nil core.messages))) tt learns

  -- a forced send
  pub forces : (m : T) (then : V → Option T → T → V → Type 0) (fact : V → State T → Type 0)
      → (core.capacity ≢ Some 0 → Goes core now m core.closed (is_channel_full core))
      → Forces holds pass v m then → Learns holds pass v (fact v) → TurnsAt (within found.capacity holds) pass' v' found now (forced_or_kept then fact)
  forces m then fact goes asked learns = placed (forced_or_kept then fact) λ place. go core.closed (is_channel_full core) refl refl (goes place) where
    are : (closed full : Bool) (w : V) → core.closed ≡ closed → is_channel_full core ≡ full → forced_of then fact v core now closed full w → forced_or_kept then fact v core now w
    are closed full w was filled told = subst (λ (z : Bool × Bool). forced_of then fact v core now z.0 z.1 w) (λ i. (sym was i, sym filled i)) told

    go : (closed full : Bool) → core.closed ≡ closed → is_channel_full core ≡ full → Goes core now m closed full → TurnsAt (within found.capacity holds) pass' v' found now (forced_or_kept then fact)
    go true full was filled is = turns (λ _. Unit {0}) (λ s. s) (λ s w. (w ≡ v) × fact v s) (forced_or_kept then fact) tt is refl
        (λ w told. are true full w was filled told) (stays fact learns)
    go false true was filled is = turns (λ s. IsFull s × (s.messages ≡ is.0 ∷ drop 1 core.messages)) (holding (drop 1 core.messages ++ m ∷ [])) (λ _ w. then v (Some is.0) m w)
        (forced_or_kept then fact) ((was, filled), is.1) is.2 refl
        (λ w told. are false true w was filled λ m' joins. subst (λ (z : Option T × T). then v z.0 z.1 w)
        (λ i. (
          ap (λ l. slice_get l 0) (sym is.1) i,
          last_same (drop 1 core.messages) m m' (sym (ap (λ (s : State T). s.messages) is.2) ∙ joins) i,
        )) told) (asked.1 is.0 (drop 1 core.messages))
    go false false was filled is = offers_as m (λ u x w. then u None x w) fact (forced_or_kept then fact) (λ w told. are false false w was filled told) is asked.0 learns

  -- a receive takes the oldest message, or finds none
  pub takes : (then : V → T → V → Type 0) (at_end : V → V → Type 0) (fact : V → State T → Type 0)
      → state_of now ≡ holding (drop 1 core.messages) (state_of core)
      → Receives holds pass v then → Ends holds pass v at_end → Learns holds pass v (fact v)
      → TurnsAt (within found.capacity holds) pass' v' found now (received_or_kept then at_end fact)
  takes then at_end fact is receives ends learns = go core.messages core.closed refl refl where
    tells : List T → Bool → V → Type 0
    tells messages closed w = received_of then at_end fact v (state_of core) (slice_get messages 0) closed w

    go : (messages : List T) (closed : Bool) → core.messages ≡ messages → core.closed ≡ closed
        → TurnsAt (within found.capacity holds) pass' v' found now (received_or_kept then at_end fact)
    go (m ∷ rest) closed held was = turns (λ s. s.messages ≡ m ∷ rest) (holding rest) (λ _ w. then v m w) (received_or_kept then at_end fact) held
        (is ∙ ap (λ l. holding (drop 1 l) (state_of core)) held) refl (λ w told. subst (λ l. tells l core.closed w) (sym held) told) (receives m rest)
    go [] true held was = turns IsOver (λ s. s) (λ _ w. at_end v w) (received_or_kept then at_end fact) (was, held)
        (is ∙ ap (λ l. holding l (state_of core)) (ap (drop 1) held ∙ sym held)) refl
        (λ w told. subst (λ (z : List T × Bool). tells z.0 z.1 w) (λ i. (sym held i, sym was i)) told) ends
    go [] false held was = turns (λ _. Unit {0}) (λ s. s) (λ s w. (w ≡ v) × fact v s) (received_or_kept then at_end fact) tt
        (is ∙ ap (λ l. holding l (state_of core)) (ap (drop 1) held ∙ sym held)) refl
        (λ w told. subst (λ (z : List T × Bool). tells z.0 z.1 w) (λ i. (sym held i, sym was i)) told)
        (stays fact learns)

  -- a batch of receives takes the oldest messages, in order, or finds none
  pub takes_many : (count limit : ℕ) (then : V → T → V → Type 0) (at_end : V → V → Type 0) (fact : V → State T → Type 0)
      → count ≤ limit → state_of now ≡ holding (drop count core.messages) (state_of core)
      → ReceivesMany holds pass v limit then → Ends holds pass v at_end → Learns holds pass v (fact v)
      → TurnsAt (within found.capacity holds) pass' v' found now (received_many_or_kept then at_end fact)
  takes_many count limit then at_end fact le is receives ends learns = go core.messages core.closed refl refl where
    tells : List T → Bool → V → Type 0
    tells messages closed w = taken_of then at_end fact v core now (slice_get messages 0) closed w

    none : core.messages ≡ [] → state_of now ≡ state_of core
    none held = is ∙ ap (λ l. holding l (state_of core)) (ap (drop count) held ∙ drop_all count [] (omega arith) ∙ sym held)

    go : (messages : List T) (closed : Bool) → core.messages ≡ messages → core.closed ≡ closed
        → TurnsAt (within found.capacity holds) pass' v' found now (received_many_or_kept then at_end fact)
    go (m ∷ rest) closed held was = turns (λ _. Unit {0}) (λ s. holding (drop count s.messages) s) (λ s w. TellsEach then v (take count s.messages) w)
        (received_many_or_kept then at_end fact) tt is refl
        (λ w told. subst (λ l. tells l core.closed w) (sym held) λ messages e. subst (λ l. TellsEach then v l w)
        (sym (append_cancel_right messages (take count core.messages) now.messages
        (sym e ∙ sym (take-append-drop count core.messages) ∙ ap (λ l. take count core.messages ++ l) (ap (λ (s : State T). s.messages) (sym is))))) told)
        (λ state views may h at. takes_all holds pass then state count limit state.messages v views le receives h at)
    go [] true held was = turns IsOver (λ s. s) (λ _ w. at_end v w) (received_many_or_kept then at_end fact) (was, held) (none held) refl
        (λ w told. subst (λ (z : List T × Bool). tells z.0 z.1 w) (λ i. (sym held i, sym was i)) told) ends
    go [] false held was = turns (λ _. Unit {0}) (λ s. s) (λ s w. (w ≡ v) × fact v s) (received_many_or_kept then at_end fact) tt (none held) refl
        (λ w told. subst (λ (z : List T × Bool). tells z.0 z.1 w) (λ i. (sym held i, sym was i)) told)
        (stays fact learns)

  -- a poll of one takes as many as there are and may come, or none
  pub polls_receives : {E : Type 0} (ticket ticket' : Option ℕ) (limit : ℕ) (Fact : W → Type 0) (result : Result (Poll ℕ) E)
      (then : V → T → V → Type 0) (at_end : V → V → Type 0) (fact : V → State T → Type 0)
      → OnReady result (now ≡ (polled_receives ticket (taken_count limit core) core).channel)
      → OnWait result ((w : W) × Fact w × RecvWaits ticket core w ticket' now) → OnErr result (now ≡ core)
      → ReceivesMany holds pass v limit then → Ends holds pass v at_end → Learns holds pass v (fact v)
      → TurnsAt (within found.capacity holds) pass' v' found now (received_many_or_kept then at_end fact)
  polls_receives ticket ticket' limit Fact (Ok (Ready answer)) then at_end fact after waits unchanged receives ends learns =
      takes_many (taken_count limit core) limit then at_end fact (omega arith)
      (ap state_of after ∙ left_by_receives (taken_count limit core) (record core { receives = left ticket core.receives })) receives ends learns
  polls_receives ticket ticket' limit Fact (Ok Pending) then at_end fact after waits unchanged receives ends learns =
      takes_many 0 limit then at_end fact (omega arith) (ap state_of waits.2.0) receives ends learns
  polls_receives ticket ticket' limit Fact (Err error) then at_end fact after waits unchanged receives ends learns =
      takes_many 0 limit then at_end fact (omega arith) (ap state_of unchanged) receives ends learns

  -- one that may close the channel
  pub shuts : (step : State T → State T) (then : V → Bool → V → Type 0) → state_of now ≡ step (state_of core)
      → (step (state_of core)).capacity ≡ core.capacity
      → Shuts holds step pass v then → TurnsAt (within found.capacity holds) pass' v' found now (shut then)
  shuts step then is same asked = turns (λ _. Unit {0}) step (λ s w. then v ((step s).closed && not s.closed) w) (shut then) tt is same
      (λ w told. subst (λ b. then v (b && not core.closed) w) (sym (ap (λ (s : State T). s.closed) is)) told) asked
