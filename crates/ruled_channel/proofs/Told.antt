-- What a batch tells by its answer.
use Rattle.futures.specs.declared.task.Poll.{Poll}
use Rattle.futures.specs.declared.task.Poll.TheVariants.{Ready, Pending}
use Rattle.std.proofs.Common.{◌≡◌, ◌⊎◌, ℕ, ◌<◌, Bool, true, false, true≢false, List, [], ◌∷◌, ◌++◌, length, min, take, drop, slice_get, Option, Some, None, Result, Ok, Err, IfOk, IfErr, OnErr, inl, inr, is_ok, sym, refl, ap, ◌∙◌, subst, arith}
use Rattle.futures.specs.Poll.{IfReady}
use Rattle.std.proofs.lemmas.List.{append-nil, take-append-drop}
use Rattle.channel_core.specs.declared.errors.SendError.{SendError}
use Rattle.channel_core.specs.declared.errors.TrySendError.{TrySendError}
use Rattle.channel_core.specs.declared.errors.TryRecvError.{TryRecvError}
use Rattle.channel_core.specs.Tables.{OnReady, OnWait, recv_poll, send_poll, try_recv_answer, try_send_answer}
use Rattle.channel_core.specs.Channel.{Channel, GrowsWithMessages, SendWaits, is_channel_full, oldest}
use Rattle.channel_core.specs.Batches.{counted, moved_count, taken_count}
use Rattle.ruled_channel.specs.State.{State, state_of, IsClosed, IsEmpty, IsFull, IsUnbounded}
use Rattle.ruled_channel.specs.Rule.{TellsEach}
use Rattle.ruled_channel.specs.Passes.{FindsNone, LearnedOf, Refuses, WantsToSend}
use Rattle.ruled_channel.specs.Batches.{counted_poll, counted_send, polled_count}
use Rattle.ruled_channel.specs.Guarded.{received_many_or_kept, sent_many_or_kept, taken_of}
use Rattle.ruled_channel.proofs.Answered.{is_ready, went}

abbrev number_of : ℕ → Poll ℕ → ℕ
number_of d (Ready n) = n
number_of d Pending = d

pub on_ready : {A E X Y : Type 0} (result : Result (Poll A) E) → (X → Y) → OnReady result X → OnReady result Y
on_ready (Ok (Ready answer)) f x = f x
on_ready (Ok Pending) f x = tt
on_ready (Err error) f x = tt

-- what a poll of sends leaves, however it ends
pub sends_held : {T W E : Type 0} (core now : Channel T W) (Fact : W → Type 0) (ticket ticket' : Option ℕ) (first : Option T) (messages : List T) (result : Result (Poll (Result ℕ (SendError (Unit {0})))) E)
    → OnReady result (now.messages ≡ core.messages ++ take (polled_count result) messages)
    → OnWait result ((w : W) × Fact w × SendWaits first ticket core w ticket' now) → OnErr result (now ≡ core)
    → now.messages ≡ core.messages ++ take (polled_count result) messages
sends_held core now Fact ticket ticket' first messages (Ok (Ready answer)) held waits unchanged = held
sends_held core now Fact ticket ticket' (Some m) messages (Ok Pending) held waits unchanged = ap (λ c. c.messages) waits.2.0 ∙ sym (append-nil core.messages)
sends_held core now Fact ticket ticket' None messages (Ok Pending) held waits unchanged = ap (λ c. c.messages) waits.2.0 ∙ sym (append-nil core.messages)
sends_held core now Fact ticket ticket' first messages (Err error) held waits unchanged = ap (λ c. c.messages) unchanged ∙ sym (append-nil core.messages)

module _ {T V W : Type 0} (core held now : Channel T W) (shows : core ≡ held) (v v' w : V) (same : v' ≡ v) (then : V → T → V → Type 0) (fact : V → State T → Type 0) where
  module _ (told : sent_many_or_kept then fact v' held now w) where
    here : sent_many_or_kept then fact v core now w
    here = subst (λ (z : V × Channel T W). sent_many_or_kept then fact z.0 z.1 now w) (λ i. (same i, sym shows i)) told

    -- each message that joined
    pub sends_tell : (messages : List T) → now.messages ≡ core.messages ++ messages → TellsEach then v messages w
    sends_tell messages joins = here.0 messages joins

    none : (messages : List T) → now.messages ≡ core.messages ++ take 0 messages → fact v (state_of core)
    none messages joins = (here.1 (joins ∙ append-nil core.messages)).1

    -- why none did
    pub refuses : {E : Type 0} (messages : List T) (result : Result (Result ℕ (TrySendError (Unit {0}))) E) → now.messages ≡ core.messages ++ take (moved_count result) messages
        → IfOk result (λ answer. answer ≡ counted (moved_count result) (try_send_answer core.closed (is_channel_full core) tt))
        → IfOk result (λ answer. IfErr answer (Refuses (fact v)))
    refuses messages (Ok (Ok count)) joins reply = tt
    refuses messages (Ok (Err error)) joins reply = subst (λ a. IfErr a (Refuses (fact v))) (sym reply) (go core.closed (is_channel_full core) refl refl) where
      go : (closed full : Bool) → core.closed ≡ closed → is_channel_full core ≡ full → IfErr (counted 0 (try_send_answer closed full (tt {0}))) (Refuses (fact v))
      go true full was filled = (state_of core, was, none messages joins)
      go false true was filled = (state_of core, (was, filled), none messages joins)
      go false false was filled = tt
    refuses messages (Err error) joins reply = tt

    pub sends_want : {E : Type 0} (messages : List T) (result : Result (Result ℕ (TrySendError (Unit {0}))) E) → now.messages ≡ core.messages ++ take (moved_count result) messages
        → OnErr result (GrowsWithMessages core) → OnErr result (LearnedOf IsUnbounded (fact v))
    sends_want messages (Ok answer) joins wanted = tt
    sends_want messages (Err error) joins wanted = (state_of core, wanted, none messages joins)

    is_full_then : (messages : List T) → now.messages ≡ core.messages ++ take 0 messages → (all : List T) (closed full : Bool) → 0 < length all → core.closed ≡ closed → is_channel_full core ≡ full
        → counted_send 0 (send_poll (slice_get all 0) closed full) ≡ Pending → LearnedOf IsFull (fact v)
    is_full_then messages joins [] closed full some was filled e = absurd (omega arith)
    is_full_then messages joins (m ∷ rest) true full some was filled e = absurd (true≢false (ap is_ready e))
    is_full_then messages joins (m ∷ rest) false true some was filled e = (state_of core, (was, filled), none messages joins)
    is_full_then messages joins (m ∷ rest) false false some was filled e = absurd (true≢false (ap is_ready e))

    -- of a poll of them
    module _ {E : Type 0} (messages : List T) (result : Result (Poll (Result ℕ (SendError (Unit {0})))) E) (some : 0 < length messages)
        (joins : now.messages ≡ core.messages ++ take (polled_count result) messages)
        (reply : IfOk result (λ poll. poll ≡ counted_send (polled_count result) (send_poll (slice_get messages 0) core.closed (is_channel_full core)))) where
      pub poll_is_refused : IfOk result (λ poll. IfReady poll (λ sent. OnErr sent (LearnedOf IsClosed (fact v))))
      poll_is_refused = go result joins reply where
        go : (result : Result (Poll (Result ℕ (SendError (Unit {0})))) E) → now.messages ≡ core.messages ++ take (polled_count result) messages
            → IfOk result (λ poll. poll ≡ counted_send (polled_count result) (send_poll (slice_get messages 0) core.closed (is_channel_full core)))
            → IfOk result (λ poll. IfReady poll (λ sent. OnErr sent (LearnedOf IsClosed (fact v))))
        go (Ok (Ready (Ok count))) joins reply = tt
        go (Ok (Ready (Err error))) joins reply = by messages core.closed (is_channel_full core) some refl reply where
          by : (all : List T) (closed full : Bool) → 0 < length all → core.closed ≡ closed → Ready (Err error) ≡ counted_send 0 (send_poll (slice_get all 0) closed full) → LearnedOf IsClosed (fact v)
          by [] closed full some was e = absurd (omega arith)
          by (m ∷ rest) true full some was e = (state_of core, was, none messages joins)
          by (m ∷ rest) false true some was e = absurd (true≢false (ap is_ready e))
          by (m ∷ rest) false false some was e = absurd (true≢false (sym (ap went e)))
        go (Ok Pending) joins reply = tt
        go (Err error) joins reply = tt

      pub poll_finds_full : OnWait result (LearnedOf IsFull (fact v))
      poll_finds_full = go result joins reply where
        go : (result : Result (Poll (Result ℕ (SendError (Unit {0})))) E) → now.messages ≡ core.messages ++ take (polled_count result) messages
            → IfOk result (λ poll. poll ≡ counted_send (polled_count result) (send_poll (slice_get messages 0) core.closed (is_channel_full core)))
            → OnWait result (LearnedOf IsFull (fact v))
        go (Ok (Ready answer)) joins reply = tt
        go (Ok Pending) joins reply = is_full_then messages joins messages core.closed (is_channel_full core) some refl refl (sym reply)
        go (Err error) joins reply = tt

      pub poll_wants : OnErr result (GrowsWithMessages core ⊎ (send_poll (slice_get messages 0) core.closed (is_channel_full core) ≡ Pending)) → OnErr result (WantsToSend (fact v))
      poll_wants wanted = go result joins wanted where
        go : (result : Result (Poll (Result ℕ (SendError (Unit {0})))) E) → now.messages ≡ core.messages ++ take (polled_count result) messages
            → OnErr result (GrowsWithMessages core ⊎ (send_poll (slice_get messages 0) core.closed (is_channel_full core) ≡ Pending)) → OnErr result (WantsToSend (fact v))
        go (Ok answer) joins wanted = tt
        go (Err error) joins (inl grows) = inl (state_of core, grows, none messages joins)
        go (Err error) joins (inr waits) = inr (is_full_then messages joins messages core.closed (is_channel_full core) some refl refl (ap (counted_send 0) waits))

  module _ (at_end : V → V → Type 0) (told : received_many_or_kept then at_end fact v' held now w) where
    got : received_many_or_kept then at_end fact v core now w
    got = subst (λ (z : V × Channel T W). received_many_or_kept then at_end fact z.0 z.1 now w) (λ i. (same i, sym shows i)) told

    as_held : (messages : List T) (closed : Bool) → core.messages ≡ messages → core.closed ≡ closed → taken_of then at_end fact v core now (slice_get messages 0) closed w
    as_held messages closed held was = subst (λ (z : List T × Bool). taken_of then at_end fact v core now (slice_get z.0 0) z.1 w) (λ i. (held i, was i)) got

    -- each message that came
    pub receives_tell : {E : Type 0} (limit : ℕ) (result : Result (Result ℕ TryRecvError) E) → now.messages ≡ drop (moved_count result) core.messages
        → IfOk result (λ answer. answer ≡ counted (taken_count limit core) (try_recv_answer (oldest core) core.closed))
        → IfOk result (λ answer. IfOk answer (λ count. TellsEach then v (take count core.messages) w))
    receives_tell limit (Ok (Ok count)) leaves reply = go core.messages core.closed refl refl reply where
      go : (messages : List T) (closed : Bool) → core.messages ≡ messages → core.closed ≡ closed → Ok count ≡ counted (taken_count limit core) (try_recv_answer (slice_get messages 0) closed) → TellsEach then v (take count core.messages) w
      go (m ∷ rest) closed held was e = as_held (m ∷ rest) closed held was (take count core.messages) (sym (take-append-drop count core.messages) ∙ ap (λ l. take count core.messages ++ l) (sym leaves))
      go [] true held was e = absurd (true≢false (ap is_ok e))
      go [] false held was e = absurd (true≢false (ap is_ok e))
    receives_tell limit (Ok (Err error)) leaves reply = tt
    receives_tell limit (Err error) leaves reply = tt

    -- why none did
    pub finds_none : {E : Type 0} (limit : ℕ) (result : Result (Result ℕ TryRecvError) E)
        → IfOk result (λ answer. answer ≡ counted (taken_count limit core) (try_recv_answer (oldest core) core.closed))
        → IfOk result (λ answer. IfErr answer (FindsNone at_end (fact v) v w))
    finds_none limit (Ok (Ok count)) reply = tt
    finds_none limit (Ok (Err error)) reply = subst (λ a. IfErr a (FindsNone at_end (fact v) v w)) (sym reply) (go core.messages core.closed refl refl) where
      go : (messages : List T) (closed : Bool) → core.messages ≡ messages → core.closed ≡ closed → IfErr (counted (taken_count limit core) (try_recv_answer (slice_get messages 0) closed)) (FindsNone at_end (fact v) v w)
      go (m ∷ rest) closed held was = tt
      go [] true held was = as_held [] true held was
      go [] false held was = let kept = as_held [] false held was in (kept.0, (state_of core, (was, held), kept.1))
    finds_none limit (Err error) reply = tt

    -- a batch that wanted memory took none of those that are held
    pub keeps_view : {E : Type 0} (limit : ℕ) (result : Result (Result ℕ TryRecvError) E) → now.messages ≡ drop (moved_count result) core.messages
        → OnErr result (0 < taken_count limit core) → OnErr result (w ≡ v)
    keeps_view limit (Ok answer) leaves some = tt
    keeps_view limit (Err error) leaves some = go core.messages refl where
      go : (messages : List T) → core.messages ≡ messages → w ≡ v
      go [] held = let none : taken_count limit core ≡ 0 = ap (λ l. min limit (length l)) held ∙ omega arith in absurd (omega (arith, some))
      go (m ∷ rest) held = as_held (m ∷ rest) core.closed held refl [] (sym leaves)

    -- of a poll of them
    module _ {E : Type 0} (limit : ℕ) (some : 0 < limit) where
      pub poll_tells : (result : Result (Poll ℕ) E) → OnReady result (now.messages ≡ drop (taken_count limit core) core.messages)
          → IfOk result (λ poll. poll ≡ counted_poll (taken_count limit core) (recv_poll (oldest core) core.closed))
          → IfOk result (λ poll. IfReady poll (λ n. 0 < n → TellsEach then v (take n core.messages) w))
      poll_tells (Ok (Ready n)) leaves reply = by core.messages core.closed refl refl reply where
        by : (all : List T) (closed : Bool) → core.messages ≡ all → core.closed ≡ closed → Ready n ≡ counted_poll (taken_count limit core) (recv_poll (slice_get all 0) closed)
            → 0 < n → TellsEach then v (take n core.messages) w
        by (m ∷ rest) closed held was e more =
            let leaves_n : now.messages ≡ drop n core.messages = leaves ∙ ap (λ k. drop k core.messages) (sym (ap (number_of 0) e)) in
            as_held (m ∷ rest) closed held was (take n core.messages) (sym (take-append-drop n core.messages) ∙ ap (λ l. take n core.messages ++ l) (sym leaves_n))
        by [] true held was e more = let n_is : n ≡ taken_count limit core = ap (number_of 0) e in let zero_is : taken_count limit core ≡ 0 = ap (λ l. min limit (length l)) held ∙ omega arith in absurd (omega arith)
        by [] false held was e more = absurd (true≢false (ap is_ready e))
      poll_tells (Ok Pending) leaves reply = tt
      poll_tells (Err error) leaves reply = tt

      pub poll_ends : (result : Result (Poll ℕ) E)
          → IfOk result (λ poll. poll ≡ counted_poll (taken_count limit core) (recv_poll (oldest core) core.closed))
          → IfOk result (λ poll. IfReady poll (λ n. n ≡ 0 → at_end v w))
      poll_ends (Ok (Ready n)) reply = by core.messages core.closed refl refl reply where
        by : (all : List T) (closed : Bool) → core.messages ≡ all → core.closed ≡ closed → Ready n ≡ counted_poll (taken_count limit core) (recv_poll (slice_get all 0) closed)
            → n ≡ 0 → at_end v w
        by (m ∷ rest) closed held was e none = let n_is : n ≡ taken_count limit core = ap (number_of 0) e in let long : taken_count limit core ≡ min limit (length (m ∷ rest)) = ap (λ l. min limit (length l)) held in absurd (omega arith)
        by [] true held was e none = as_held [] true held was
        by [] false held was e none = absurd (true≢false (ap is_ready e))
      poll_ends (Ok Pending) reply = tt
      poll_ends (Err error) reply = tt

      pub poll_finds_none : (result : Result (Poll ℕ) E)
          → IfOk result (λ poll. poll ≡ counted_poll (taken_count limit core) (recv_poll (oldest core) core.closed))
          → OnWait result ((w ≡ v) × LearnedOf IsEmpty (fact v))
      poll_finds_none (Ok (Ready n)) reply = tt
      poll_finds_none (Ok Pending) reply = waits core.messages core.closed refl refl (sym reply) where
        waits : (all : List T) (closed : Bool) → core.messages ≡ all → core.closed ≡ closed → counted_poll (taken_count limit core) (recv_poll (slice_get all 0) closed) ≡ Pending → (w ≡ v) × LearnedOf IsEmpty (fact v)
        waits (m ∷ rest) closed held was e = absurd (true≢false (ap is_ready e))
        waits [] true held was e = absurd (true≢false (ap is_ready e))
        waits [] false held was e = let kept = as_held [] false held was in (kept.0, (state_of core, (was, held), kept.1))
      poll_finds_none (Err error) reply = tt

      pub poll_keeps_view : (result : Result (Poll ℕ) E) → OnErr result (now ≡ core)
          → OnErr result ((recv_poll (oldest core) core.closed ≡ Pending) ⊎ (0 < taken_count limit core)) → OnErr result (w ≡ v)
      poll_keeps_view (Ok answer) is wanted = tt
      poll_keeps_view (Err error) is wanted = by core.messages core.closed refl refl wanted where
        by : (all : List T) (closed : Bool) → core.messages ≡ all → core.closed ≡ closed → (recv_poll (slice_get all 0) closed ≡ Pending) ⊎ (0 < taken_count limit core) → w ≡ v
        by (m ∷ rest) closed held was wanted = as_held (m ∷ rest) closed held was [] (ap (λ (c : Channel T W). c.messages) (sym is))
        by [] true held was (inl e) = absurd (true≢false (ap is_ready e))
        by [] true held was (inr more) = let zero_is : taken_count limit core ≡ 0 = ap (λ l. min limit (length l)) held ∙ omega arith in absurd (omega arith)
        by [] false held was wanted = (as_held [] false held was).0
