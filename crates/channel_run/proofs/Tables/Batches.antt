-- Many single steps, one after the other, by what a run keeps.
use Rattle.std.proofs.Common.{◌≡◌, ℕ, zero, suc, ◌+◌, ◌<◌, ◌≤◌, inl, inr, List, [], ◌∷◌, ◌++◌, Bool, true, false, Ok, Err, Result, refl, sym, ◌∙◌, ap, subst, length, drop, take, append_assoc, arith}
use Rattle.std.proofs.lemmas.List.{length-append, length-take}
use Rattle.std.specs.Prelude.{IfOk, slice_get}
use Rattle.std.specs.Map.{keys_of}
use Rattle.event_list.specs.Keys.{is_among}
use Rattle.channel_core.specs.declared.errors.TryRecvError.{TryRecvError}
use Rattle.channel_core.specs.declared.errors.TrySendError.{TrySendError}
use Rattle.channel_model.specs.declared.step.Kind.{Kind}
use Rattle.channel_model.specs.declared.step.Step.TheVariants.{TryRecv, TrySend}
use Rattle.channel_model.specs.declared.step.Reply.TheVariants.{Received, TrySent}
use Rattle.channel_model.specs.Past.{Past}
use Rattle.channel_core.specs.Tables.{try_recv_answer, try_send_answer}
use Rattle.channel_core.specs.Channel.{Channel, is_channel_full, received, sending, sent, taking}
use Rattle.channel_core.specs.Batches.{CanSendNoMore, moved_count, received_many, sent_many}
use Rattle.channel_run.specs.StandsFor.{StandsFor}
use Rattle.channel_run.specs.Runs.{ReceivesInTurn, SendsInTurn, SendsNoMore}
use Rattle.channel_run.proofs.Steps.Answered.{Answers, Answers-StepsTo}
use Rattle.channel_run.proofs.Steps.Refused.{StepsTo-made, not_refused}
use Rattle.channel_run.proofs.Tables.Kept.{Kept, Whole, shown_by, with_core}
use Rattle.channel_run.proofs.Tables.PlainSteps.{full_shown, stepped-try_recv, stepped-try_send}

module _ {T : Type 0} where
  -- as many as were taken were held
  pub taken_held : (count : ℕ) (messages old new : List T) → new ≡ old ++ take count messages
      → length new ≡ length old + count → count ≤ length messages
  taken_held count messages old new taken counted =
      omega (arith, ap length taken, length-append old (take count messages), counted, length-take count messages)

  -- nothing is itself with more at its end
  no_more : (messages : List T) (message : T) (rest : List T)
      → messages ≡ messages ++ message ∷ rest → ⊥
  no_more [] message rest is = absurd (cc)
  no_more (first ∷ others) message rest is = no_more others message rest (ap (drop 1) is)

module _ {T W : Type 0} where
  -- ---- receives

  -- a receive of a channel that holds messages leaves the others
  received_left : (core : Channel T W) (message : T) (rest : List T)
      → core.messages ≡ message ∷ rest → (received core).channel.messages ≡ rest
  received_left core message rest is =
      ap (λ (ms : List T). (taking ms core).channel.messages) is ∙ ap (drop 1) is

  abbrev Received_so : Kind → ℕ → Kept T W → ℕ → Type 0
  Received_so kind receiver kept count =
      Whole (with_core kept (received_many count kept.core).channel)
      × ((past : Past T) → StandsFor kind past (shown_by kept)
      → ReceivesInTurn kind past receiver (take count kept.core.messages)
      (shown_by (with_core kept (received_many count kept.core).channel)))

  -- So many receives, of a run that holds as many messages.
  pub received_in_turn : (kind : Kind) (receiver count : ℕ) (kept : Kept T W) → Whole kept
      → is_among receiver (keys_of kept.receivers) ≡ true → count ≤ length kept.core.messages
      → Received_so kind receiver kept count
  received_in_turn kind receiver zero kept whole live some =
      (whole, λ past stands. record { after = past; answers = refl; stands = stands })
  received_in_turn kind receiver (suc count) kept whole live some =
      by (λ few. received_in_turn kind receiver count (with_core kept (received kept.core).channel)
      (stepped-try_recv kept whole receiver).whole live few) kept.core.messages refl
    where
      next : Kept T W
      next = with_core kept (received kept.core).channel

      answered : (message : T) (rest : List T) → kept.core.messages ≡ message ∷ rest
          → (past : Past T) → StandsFor kind past (shown_by kept)
          → Answers kind past (TryRecv receiver) (Received (Ok message)) (shown_by next)
      answered message rest is past stands =
          subst (λ (r : Result T TryRecvError).
          Answers kind past (TryRecv receiver) (Received r) (shown_by next))
          (ap (λ (ms : List T). try_recv_answer (slice_get ms 0) kept.core.closed) is)
          (Answers-StepsTo kind past (shown_by kept) (shown_by next) (TryRecv receiver) _ stands
          (StepsTo-made (shown_by kept) (shown_by next) (TryRecv receiver) _
          (not_refused (shown_by kept) (TryRecv receiver) live refl refl refl) (stepped-try_recv kept whole receiver).made))

      by : (count ≤ length next.core.messages → Received_so kind receiver next count)
          → (messages : List T) → kept.core.messages ≡ messages
          → Received_so kind receiver kept (suc count)
      by others_if [] is = absurd (omega (arith, some, ap length is))
      by others_if (message ∷ rest) is =
          let left = received_left kept.core message rest is in
          let few : count ≤ length next.core.messages =
          omega (arith, some, ap length is, ap length left) in
          let others = others_if few in (
            others.0,
            λ past stands.
                let first = answered message rest is past stands in
                let more = others.1 ((TryRecv receiver, Received (Ok message)) ∷ past) first.stands in
                subst (λ (ms : List T). ReceivesInTurn kind past receiver (take (suc count) ms)
                (shown_by (with_core kept (received_many (suc count) kept.core).channel))) (sym is)
                (subst (λ (ms : List T). ReceivesInTurn kind past receiver (message ∷ take count ms)
                (shown_by (with_core kept (received_many (suc count) kept.core).channel))) left
                (record { after = more.after; answers = (first.answer, more.answers); stands = more.stands })),
          )

  -- ---- sends

  -- if each send is refused, the channel holds what it held
  none_sent : (messages : List T) (core : Channel T W)
      → ((message : T) → (sent message core).channel ≡ core)
      → (sent_many messages core).channel.messages ≡ core.messages
  none_sent [] core same = refl
  none_sent (message ∷ rest) core same =
      ap (λ (c : Channel T W). (sent_many rest c).channel.messages) (same message)
      ∙ none_sent rest core same

  -- A send that is refused is none of those that went in.
  refused_sent : (message : T) (rest : List T) (core : Channel T W)
      → ((message : T) → (sent message core).channel ≡ core)
      → (sent_many (message ∷ rest) core).channel.messages ≡ core.messages ++ message ∷ rest → ⊥
  refused_sent message rest core same held =
      no_more core.messages message rest (sym (none_sent (message ∷ rest) core same) ∙ held)

  abbrev Sent_so : Kind → ℕ → Kept T W → List T → Type 0
  Sent_so kind sender kept messages =
      Whole (with_core kept (sent_many messages kept.core).channel)
      × ((past : Past T) → StandsFor kind past (shown_by kept)
      → SendsInTurn kind past sender messages
      (shown_by (with_core kept (sent_many messages kept.core).channel)))

  -- Sends of messages that are all held in the end.
  pub sent_in_turn : (kind : Kind) (sender : ℕ) (messages : List T) (kept : Kept T W) → Whole kept
      → is_among sender kept.senders ≡ true
      → (sent_many messages kept.core).channel.messages ≡ kept.core.messages ++ messages
      → Sent_so kind sender kept messages
  sent_in_turn kind sender [] kept whole live held =
      (whole, λ past stands. record { after = past; answers = refl; stands = stands })
  sent_in_turn kind sender (message ∷ rest) kept whole live held =
      by (λ held. sent_in_turn kind sender rest (with_core kept (sent message kept.core).channel)
      (stepped-try_send kept whole sender message).whole live held)
      kept.core.closed refl (is_channel_full kept.core) refl
    where
      next : Kept T W
      next = with_core kept (sent message kept.core).channel

      same : (closed full : Bool) → kept.core.closed ≡ closed → is_channel_full kept.core ≡ full
          → (message : T)
          → (sent message kept.core).channel ≡ (sending closed full message kept.core).channel
      same closed full e f message =
          ap (λ (c : Bool). (sending c (is_channel_full kept.core) message kept.core).channel) e
          ∙ ap (λ (u : Bool). (sending closed u message kept.core).channel) f

      answered : kept.core.closed ≡ false → is_channel_full kept.core ≡ false
          → (past : Past T) → StandsFor kind past (shown_by kept)
          → Answers kind past (TrySend sender message) (TrySent (Ok tt)) (shown_by next)
      answered e f past stands =
          subst (λ (r : Result (Unit {0}) (TrySendError T)).
          Answers kind past (TrySend sender message) (TrySent r) (shown_by next))
          (ap (λ (c : Bool). try_send_answer c (is_channel_full kept.core) message) e
          ∙ ap (λ (u : Bool). try_send_answer false u message) f)
          (Answers-StepsTo kind past (shown_by kept) (shown_by next) (TrySend sender message) _ stands
          (StepsTo-made (shown_by kept) (shown_by next) (TrySend sender message) _
          (not_refused (shown_by kept) (TrySend sender message) live refl refl refl) (stepped-try_send kept whole sender message).made))

      by : ((sent_many rest next.core).channel.messages ≡ next.core.messages ++ rest
          → Sent_so kind sender next rest)
          → (closed : Bool) → kept.core.closed ≡ closed → (full : Bool)
          → is_channel_full kept.core ≡ full → Sent_so kind sender kept (message ∷ rest)
      by others_if true e full f = absurd (refused_sent message rest kept.core (same true full e f) held)
      by others_if false e true f = absurd (refused_sent message rest kept.core (same false true e f) held)
      by others_if false e false f =
          let went_in = ap (λ (c : Channel T W). c.messages) (same false false e f message) in
          let others = others_if (held ∙ sym (append_assoc kept.core.messages (message ∷ []) rest)
          ∙ ap (λ (ms : List T). ms ++ rest) (sym went_in)) in (
            others.0,
            λ past stands.
                let first = answered e f past stands in
                let more = others.1 ((TrySend sender message, TrySent (Ok tt)) ∷ past) first.stands in
                record { after = more.after; answers = (first.answer, more.answers); stands = more.stands },
          )

  -- What keeps a send out of the core keeps it out of the run.
  no_more_sent : (messages : List T) (kept : Kept T W) → CanSendNoMore messages kept.core
      → SendsNoMore messages (shown_by kept)
  no_more_sent messages kept (inl none) = inl none
  no_more_sent messages kept (inr (inl closed)) = inr (inl closed)
  no_more_sent messages kept (inr (inr (inl full))) = inr (inr (inl (full_shown kept ∙ full)))
  no_more_sent messages kept (inr (inr (inr grows))) = inr (inr (inr grows.1))

  pub sends_no_more : {E D : Type 0} (limit : ℕ) (messages : List T) (kept : Kept T W)
      (result : Result (Result ℕ E) D) (answer : Result ℕ E) → result ≡ Ok answer
      → (moved_count result < limit → CanSendNoMore messages kept.core)
      → IfOk answer (λ count. count < limit → SendsNoMore messages (shown_by kept))
  sends_no_more {E} {D} limit messages kept result (Ok count) is stops = λ few.
      no_more_sent messages kept
      (stops (subst (λ (r : Result (Result ℕ E) D). moved_count r < limit) (sym is) few))
  sends_no_more limit messages kept result (Err error) is stops = tt
