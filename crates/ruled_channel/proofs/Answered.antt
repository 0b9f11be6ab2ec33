-- What an answer of the core says of the channel that it found, and of what it left.
use Rattle.futures.specs.declared.task.Poll.{Poll}
use Rattle.futures.specs.declared.task.Poll.TheVariants.{Ready, Pending}
use Rattle.std.proofs.Common.{◌≡◌, ◌≢◌, ℕ, Bool, true, false, true≢false, List, [], ◌∷◌, slice_get, Option, Some, None, Result, Ok, Err, IfOk, OnOk, OnErr, is_ok, is_some, drop, sym, refl, ap, ◌∙◌, subst, ◌⊎◌, inl, inr, arith}
use Rattle.std.proofs.lemmas.Bool.{leb-true}
use Rattle.channel_core.specs.Queue.{is_full}
use Rattle.channel_core.specs.declared.errors.OutOfMemory.{OutOfMemory}
use Rattle.channel_core.specs.declared.errors.SendError.{SendError}
use Rattle.channel_core.specs.declared.errors.TrySendError.{TrySendError}
use Rattle.channel_core.specs.declared.errors.TrySendError.TheVariants.{Full, Closed}
use Rattle.channel_core.specs.declared.errors.TryRecvError.{TryRecvError}
use Rattle.channel_core.specs.declared.errors.TryRecvError.TheVariants.{Closed}
use Rattle.channel_core.specs.Errors.{message_of, was_closed, was_ended}
use Rattle.channel_core.specs.Tables.{OnReady, OnWait, send_error, try_send_answer, force_send_answer, try_recv_answer, send_poll, recv_poll}
use Rattle.channel_core.specs.Channel.{Channel, is_channel_full, sending, forcing, polled_send, SendWaits, GrowsWithMessages, oldest}
use Rattle.channel_core.specs.Tickets.{left}
use Rattle.ruled_channel.specs.State.{State, state_of, HasPlace, joined}
use Rattle.ruled_channel.specs.Guarded.{forced_or_kept, forced_of}
use Rattle.ruled_channel.proofs.Steps.{Goes}

abbrev pub err_of : {A E : Type 0} → E → Result A E → E
err_of d (Ok a) = d
err_of d (Err e) = e

abbrev pub ok_of : {A E : Type 0} → A → Result A E → A
ok_of d (Ok a) = a
ok_of d (Err e) = d

abbrev pub is_ready : {A : Type 0} → Poll A → Bool
is_ready (Ready answer) = true
is_ready Pending = false

-- whether a poll isn't ready by an error
abbrev pub went : {A E : Type 0} → Poll (Result A E) → Bool
went (Ready answer) = is_ok answer
went Pending = true

module _ {T W : Type 0} (core now : Channel T W) where
  -- a poll of a send that finds the channel closed lets its entry go
  pub polled_closed : (m : T) (ticket : Option ℕ) (poll : Poll (Result (Unit {0}) (SendError T))) (answer : Result (Unit {0}) (SendError T)) (error : SendError T)
      → poll ≡ Ready answer → answer ≡ Err error
      → poll ≡ send_poll (Some m) core.closed (is_channel_full core)
      → OnReady {E = OutOfMemory} (Ok poll) (now ≡ (polled_send (Some m) ticket core).channel) → state_of now ≡ state_of core
  polled_closed m ticket poll answer error ready fails reply after =
      let is : poll ≡ Ready (Err error) = ready ∙ ap Ready fails in
      go core.closed (is_channel_full core) (sym is ∙ reply)
      (subst (λ p. OnReady {E = OutOfMemory} (Ok p) (now ≡ (polled_send (Some m) ticket core).channel)) is after) where
        go : (closed full : Bool) → Ready (Err error) ≡ send_poll (Some m) closed full
            → now ≡ (sending closed full m (record core { sends = left ticket core.sends })).channel → state_of now ≡ state_of core
        go true full e is = ap state_of is
        go false true e is = absurd (true≢false (sym (ap went e)))
        go false false e is = absurd (true≢false (sym (ap went e)))

  -- one that goes on puts its message last
  pub polled_sent : (m : T) (ticket : Option ℕ) (poll : Poll (Result (Unit {0}) (SendError T))) (answer : Result (Unit {0}) (SendError T))
      → poll ≡ Ready answer → answer ≡ Ok tt
      → poll ≡ send_poll (Some m) core.closed (is_channel_full core)
      → OnReady {E = OutOfMemory} (Ok poll) (now ≡ (polled_send (Some m) ticket core).channel)
      → HasPlace (state_of core) × (state_of now ≡ joined m (state_of core))
  polled_sent m ticket poll answer ready goes reply after =
      let is : poll ≡ Ready (Ok tt) = ready ∙ ap Ready goes in
      go core.closed (is_channel_full core) refl refl (sym is ∙ reply)
      (subst (λ p. OnReady {E = OutOfMemory} (Ok p) (now ≡ (polled_send (Some m) ticket core).channel)) is after) where
        go : (closed full : Bool) → core.closed ≡ closed → is_channel_full core ≡ full → Ready (Ok tt) ≡ send_poll (Some m) closed full
            → now ≡ (sending closed full m (record core { sends = left ticket core.sends })).channel
            → HasPlace (state_of core) × (state_of now ≡ joined m (state_of core))
        go true full was filled e is = absurd (true≢false (ap went e))
        go false true was filled e is = absurd (true≢false (ap is_ready e))
        go false false was filled e is = ((was, filled), ap state_of is)

  -- so a poll puts its message last, or changes nothing
  pub polled_offers : {E : Type 0} (m : T) (ticket ticket' : Option ℕ) (Fact : W → Type 0) (result : Result (Poll (Result (Unit {0}) (SendError T))) E)
      → IfOk result (λ poll. poll ≡ send_poll (Some m) core.closed (is_channel_full core)) → OnReady result (now ≡ (polled_send (Some m) ticket core).channel)
      → OnWait result ((w : W) × Fact w × SendWaits (Some m) ticket core w ticket' now) → OnErr result (now ≡ core)
      → (HasPlace (state_of core) × (state_of now ≡ joined m (state_of core))) ⊎ (state_of now ≡ state_of core)
  polled_offers m ticket ticket' Fact (Ok (Ready (Ok sent))) reply after waits unchanged = inl (polled_sent m ticket (Ready (Ok tt)) (Ok tt) refl refl reply after)
  polled_offers m ticket ticket' Fact (Ok (Ready (Err error))) reply after waits unchanged = inr (polled_closed m ticket (Ready (Err error)) (Err error) error refl refl reply after)
  polled_offers m ticket ticket' Fact (Ok Pending) reply after waits unchanged = inr (ap state_of waits.2.0)
  polled_offers m ticket ticket' Fact (Err error) reply after waits unchanged = inr (ap state_of unchanged)

-- a channel that is full and holds no message is one for none
no_room : {T : Type 0} (capacity : Option ℕ) (messages : List T) → is_full capacity messages ≡ true → slice_get messages 0 ≡ None → capacity ≡ Some 0
no_room None messages e none = absurd (true≢false (sym e))
no_room (Some c) [] e none = ap Some (let le = leb-true c 0 e in omega arith)
no_room (Some c) (x ∷ xs) e none = absurd (true≢false (ap is_some none))

module _ {T W : Type 0} (found now : Channel T W) where
  -- a send that is refused changes nothing
  pub sent_err : (m : T) (error : TrySendError T) (closed full : Bool) → Err error ≡ try_send_answer closed full m
      → now ≡ (sending closed full m found).channel → now ≡ found
  sent_err m error true full e is = is
  sent_err m error false true e is = is
  sent_err m error false false e is = absurd (true≢false (sym (ap is_ok e)))

  -- one that isn't puts its message last
  pub sent_ok : (m : T) (closed full : Bool) → found.closed ≡ closed → is_channel_full found ≡ full → Ok tt ≡ try_send_answer closed full m
      → now ≡ (sending closed full m found).channel → HasPlace (state_of found) × (state_of now ≡ joined m (state_of found))
  sent_ok m true full was filled e is = absurd (true≢false (ap is_ok e))
  sent_ok m false true was filled e is = absurd (true≢false (ap is_ok e))
  sent_ok m false false was filled e is = ((was, filled), ap state_of is)

  -- so it puts its message last, or changes nothing
  pub sent_offers : {E : Type 0} (m : T) (result : Result (Result (Unit {0}) (TrySendError T)) E)
      → IfOk result (λ answer. answer ≡ try_send_answer found.closed (is_channel_full found) m) → OnOk result (now ≡ (sending found.closed (is_channel_full found) m found).channel)
      → OnErr result (now ≡ found) → (HasPlace (state_of found) × (state_of now ≡ joined m (state_of found))) ⊎ (state_of now ≡ state_of found)
  sent_offers m (Ok (Ok sent)) reply after unchanged = inl (sent_ok m found.closed (is_channel_full found) refl refl reply after)
  sent_offers m (Ok (Err error)) reply after unchanged = inr (ap state_of (sent_err m error found.closed (is_channel_full found) reply after))
  sent_offers m (Err error) reply after unchanged = inr (ap state_of unchanged)

  -- a forced one puts its message last, for the oldest one if the channel is full, or changes nothing
  pub forced_goes : {E : Type 0} (m : T) (result : Result (Result (Option T) (SendError T)) E) → found.capacity ≢ Some 0
      → OnOk result (now ≡ (forcing found.closed (is_channel_full found) m found).channel) → OnErr result (now ≡ found) → OnErr result (GrowsWithMessages found)
      → Goes found now m found.closed (is_channel_full found)
  forced_goes m result some after unchanged wanted = go found.closed (is_channel_full found) refl refl result after unchanged wanted where
    go : {E : Type 0} (closed full : Bool) → found.closed ≡ closed → is_channel_full found ≡ full → (result : Result (Result (Option T) (SendError T)) E)
        → OnOk result (now ≡ (forcing closed full m found).channel) → OnErr result (now ≡ found) → OnErr result (GrowsWithMessages found) → Goes found now m closed full
    go true full was filled (Ok answer) is unchanged wanted = ap state_of is
    go true full was filled (Err error) after unchanged wanted = ap state_of unchanged
    go false true was filled (Ok answer) is unchanged wanted = displaces found.messages refl where
      displaces : (messages : List T) → found.messages ≡ messages → Goes found now m false true
      displaces [] none = absurd (some (no_room found.capacity found.messages filled (ap (λ l. slice_get l 0) none)))
      displaces (x ∷ xs) held = (x, held ∙ ap (λ l. x ∷ drop 1 l) (sym held), ap state_of is)
    go false true was filled (Err error) after unchanged wanted = absurd (true≢false (sym filled ∙ ap (λ capacity. is_full capacity found.messages) wanted.1))
    go false false was filled (Ok answer) is unchanged wanted = inl ((was, filled), ap state_of is)
    go false false was filled (Err error) after unchanged wanted = inr (ap state_of unchanged)

-- and tells by its answer what the rule says of it
pub forced_tells : {T V W E : Type 0} (core found now : Channel T W) (shows : core ≡ found) (then : V → Option T → T → V → Type 0) (fact : V → State T → Type 0)
    (v v' w : V) (same : v' ≡ v) (m : T) (result : Result (Result (Option T) (SendError T)) E) → forced_or_kept then fact v' found now w
    → IfOk result (λ answer. answer ≡ force_send_answer core.closed (is_channel_full core) (oldest core) m)
    → OnOk result (now ≡ (forcing core.closed (is_channel_full core) m core).channel)
    → IfOk result (λ answer. IfOk answer (λ displaced. then v displaced m w))
forced_tells core found now shows then fact v v' w same m (Err error) told reply after = tt
forced_tells {T} {V} {W} core found now shows then fact v v' w same m (Ok answer) told reply after =
    subst (λ (a : Result (Option T) (SendError T)). IfOk a (λ displaced. then v displaced m w)) (sym reply) (go core.closed (is_channel_full core) here after) where
      here : forced_or_kept then fact v core now w
      here = subst (λ (z : V × Channel T W). forced_or_kept then fact z.0 z.1 now w) (λ i. (same i, sym shows i)) told

      go : (closed full : Bool) → forced_of then fact v core now closed full w → now ≡ (forcing closed full m core).channel
          → IfOk (force_send_answer closed full (oldest core) m) (λ displaced. then v displaced m w)
      go true full t is = tt
      go false true t is = t m (ap (λ (c : Channel T W). c.messages) is)
      go false false t is = t.0 m (ap (λ (c : Channel T W). c.messages) is)

-- what a send that doesn't wait answers is the answer of a poll, unless it is full
module _ {T : Type 0} (m : T) where
  pub sent_polls : (closed full : Bool) → Ok tt ≡ try_send_answer closed full m → Ready (Ok tt) ≡ send_poll (Some m) closed full
  sent_polls true full e = absurd (true≢false (ap is_ok e))
  sent_polls false true e = absurd (true≢false (ap is_ok e))
  sent_polls false false e = refl

  pub closed_polls : (back : T) (closed full : Bool) → Err (Closed back) ≡ try_send_answer closed full m → Ready (Err (send_error back)) ≡ send_poll (Some m) closed full
  closed_polls back true full e = ap (λ (r : Result (Unit {0}) (TrySendError T)). Ready (Err (send_error (message_of (err_of (Closed m) r))))) e
  closed_polls back false true e = absurd (true≢false (ap (λ (r : Result (Unit {0}) (TrySendError T)). was_closed (err_of (Full m) r)) e))
  closed_polls back false false e = absurd (true≢false (sym (ap is_ok e)))

-- and of a receive, unless it is empty
module _ {T : Type 0} where
  pub received_polls : (m : T) (oldest : Option T) (closed : Bool) → Ok m ≡ try_recv_answer oldest closed → Ready (Ok m) ≡ recv_poll oldest closed
  received_polls m (Some x) closed e = ap (λ (r : Result T TryRecvError). Ready (Ok (ok_of m r))) e
  received_polls m None true e = absurd (true≢false (ap is_ok e))
  received_polls m None false e = absurd (true≢false (ap is_ok e))

  pub ended_polls : (oldest : Option T) (closed : Bool) → Err Closed ≡ try_recv_answer oldest closed → Ready (Err (record {})) ≡ recv_poll oldest closed
  ended_polls (Some x) closed e = absurd (true≢false (sym (ap is_ok e)))
  ended_polls None true e = refl
  ended_polls None false e = absurd (true≢false (ap (λ (r : Result T TryRecvError). was_ended (err_of Closed r)) e))
