-- The poll of a told one is made: it wants no memory, and its reply is ready or pending.
use Rattle.std.proofs.Common.{◌≡◌, ℕ, ◌<◌, ◌⊎◌, inl, inr, List, [], ◌∷◌, Bool, true, false, not, ◌&&◌, ◌||◌, Some, None, Option, refl, sym, ◌∙◌, ap, length, arith}
use Rattle.std.specs.Prelude.{MatchOption, is_none, is_some, option_and_then}
use Rattle.futures.specs.declared.task.Poll.{Poll as Answer}
use Rattle.futures.specs.declared.task.Poll.TheVariants.{Ready, Pending}
use Rattle.event_list.specs.Keys.{is_among}
use Rattle.channel_model.specs.declared.step.Kind.{Kind}
use Rattle.channel_model.specs.declared.step.Kind.TheVariants.{Bounded, Unbounded}
use Rattle.channel_model.specs.declared.step.Refusal.{Refusal}
use Rattle.channel_model.specs.declared.step.Refusal.TheVariants.{OutOfMemory}
use Rattle.channel_model.specs.declared.step.Step.TheVariants.{Poll, PollNext}
use Rattle.channel_model.specs.declared.step.Reply.{Reply}
use Rattle.channel_model.specs.declared.step.Reply.TheVariants.{SendPolled, RecvPolled, ClosedPolled, NextPolled}
use Rattle.channel_model.specs.declared.step.Who.{Who}
use Rattle.channel_model.specs.declared.step.Who.TheVariants.{Op, Receiver}
use Rattle.channel_model.specs.Past.{Past}
use Rattle.channel_model.specs.Capacity.{capacity_of}
use Rattle.channel_model.specs.Handles.{live_names, Receivers}
use Rattle.channel_model.specs.Closing.{is_closed, has_none}
use Rattle.channel_model.specs.Legal.{IsLegal}
use Rattle.channel_model.specs.Memory.{may_want_memory, polls_newcomer, may_want_memory_in}
use Rattle.channel_model.specs.Messages.{oldest_message}
use Rattle.channel_model.specs.Notices.{rosters}
use Rattle.channel_model.specs.Operations.{Operation, awaiting_close, is_awaiting, is_finished_send, is_receive, message_of, operation_of, receiving, sending, unsent_message}
use Rattle.channel_model.specs.Refusals.{refusal_of, refusal_in}
use Rattle.channel_model.specs.Polling.{poll_of}
use Rattle.channel_model.specs.Replies.{due_reply, is_pending, is_ready, poll_reply}
use Rattle.channel_model.specs.Rosters.{Rosters, waits_anywhere}
use Rattle.channel_model.specs.View.{View, view_of}
use Rattle.channel_run.specs.StandsFor.{StandsFor}
use Rattle.channel_run.specs.RunSteps.{IsMade, IsRefused, PollsTo, StepsAsAllowed, StepsTo}
use Rattle.channel_model.proofs.AnyOrder.{known_if, told-allowed}
use Rattle.channel_model.proofs.MeasureFalls.{PollsTold, a_closed, a_receive, a_send, a_stream, told_among}
use Rattle.channel_model.proofs.CoveredPasts.{IsCovered-IsLegal}
use Rattle.channel_run.proofs.Alike.SameTables.{may_want_memory_in-StandsFor, refusal_in-StandsFor}
use Rattle.channel_model.proofs.WhoWaits.{AreLive-IsLegal}
use Rattle.channel_model.proofs.ReplyForms.{is_full}

-- ---- it wants no memory

no_wish : (refused brings endless still newcomer pending : Bool)
    → (brings ≡ false) ⊎ (endless ≡ false)
    → newcomer ≡ false
    → (refused && (false || (brings && endless && still) || (newcomer && pending))) ≡ false
no_wish false brings endless still newcomer pending which none = refl
no_wish true brings endless still true pending which none = cc
no_wish true false endless still false pending which none = refl
no_wish true true false still false pending which none = refl
no_wish true true true still false pending (inl e) none = cc
no_wish true true true still false pending (inr e) none = cc

some_wait : (name : ℕ) (names : List ℕ) → is_among name names ≡ true → 0 < length names
some_wait name [] among = cc
some_wait name (first ∷ names) among = omega arith

no_message : {T : Type 0} (operation : Option (Operation T))
    → (is_receive operation ≡ true) ⊎ (is_awaiting operation ≡ true)
    → is_some (option_and_then unsent_message operation) ≡ false
no_message None (inl e) = cc
no_message None (inr e) = cc
no_message (Some (sending sender message)) (inl e) = cc
no_message (Some (sending sender message)) (inr e) = cc
no_message (Some (receiving receiver)) which = refl
no_message (Some (awaiting_close sender)) which = refl

module _ {T : Type 0} (kind : Kind) (past : Past T) (legal : IsLegal kind past) where
  -- on an unbounded channel no send waits
  bounded_if : (name : ℕ) → is_among name (rosters past).sends.names ≡ true → (kind' : Kind)
      → kind ≡ kind'
      → is_none (capacity_of kind') ≡ false
  bounded_if name among (Bounded capacity) e = refl
  bounded_if name among Unbounded e =
      let none = (IsCovered-IsLegal kind past legal).unbounded (ap (λ (k : Kind). capacity_of k) e) in
      let some = some_wait name (rosters past).sends.names among in
      absurd (omega arith)

  waits_here : (op : ℕ) → PollsTold {T = T} (rosters past) (Poll op)
      → waits_anywhere op (rosters past) ≡ true
  waits_here op (a_send other e told) =
      let same : other ≡ op = cc in
      let among : is_among op (rosters past).sends.names ≡ true =
      ap (λ (n : ℕ). is_among n (rosters past).sends.names) (sym same)
      ∙ told_among other (rosters past).sends told in
      first (is_among op (rosters past).sends.names) (is_among op (rosters past).receives.names)
      (is_among op (rosters past).closeds.names) among
    where
      first : (a b c : Bool) → a ≡ true → (a || b || c) ≡ true
      first true b c e = refl
      first false b c e = cc
  waits_here op (a_receive other e told) =
      let same : other ≡ op = cc in
      let among : is_among op (rosters past).receives.names ≡ true =
      ap (λ (n : ℕ). is_among n (rosters past).receives.names) (sym same)
      ∙ told_among other (rosters past).receives told in
      second (is_among op (rosters past).sends.names) (is_among op (rosters past).receives.names)
      (is_among op (rosters past).closeds.names) among
    where
      second : (a b c : Bool) → b ≡ true → (a || b || c) ≡ true
      second true b c e = refl
      second false true c e = refl
      second false false c e = cc
  waits_here op (a_closed other e told) =
      let same : other ≡ op = cc in
      let among : is_among op (rosters past).closeds.names ≡ true =
      ap (λ (n : ℕ). is_among n (rosters past).closeds.names) (sym same)
      ∙ told_among other (rosters past).closeds told in
      third (is_among op (rosters past).sends.names) (is_among op (rosters past).receives.names)
      (is_among op (rosters past).closeds.names) among
    where
      third : (a b c : Bool) → c ≡ true → (a || b || c) ≡ true
      third true b c e = refl
      third false true c e = refl
      third false false true e = refl
      third false false false e = cc
  waits_here op (a_stream other e told) = cc

  no_message_or_bounded : (op : ℕ) → PollsTold {T = T} (rosters past) (Poll op)
      → (is_some (message_of past op) ≡ false) ⊎ (is_none (capacity_of kind) ≡ false)
  no_message_or_bounded op (a_send other e told) =
      inr (bounded_if other (told_among other (rosters past).sends told) kind refl)
  no_message_or_bounded op (a_receive other e told) =
      let same : other ≡ op = cc in
      inl (no_message (operation_of past op) (inl
      (ap (λ (n : ℕ). is_receive (operation_of past n)) (sym same)
      ∙ (AreLive-IsLegal kind past legal).receives other (told_among other (rosters past).receives told))))
  no_message_or_bounded op (a_closed other e told) =
      let same : other ≡ op = cc in
      inl (no_message (operation_of past op) (inr
      (ap (λ (n : ℕ). is_awaiting (operation_of past n)) (sym same)
      ∙ (AreLive-IsLegal kind past legal).closeds other (told_among other (rosters past).closeds told))))
  no_message_or_bounded op (a_stream other e told) = cc

  wants_nothing : (op : ℕ) → PollsTold {T = T} (rosters past) (Poll op)
      → may_want_memory kind past (Poll op) ≡ false
  wants_nothing op told =
      no_wish (is_none (refusal_of kind past (Poll op))) (is_some (message_of past op)) (is_none (capacity_of kind))
      (not (is_closed past)) (polls_newcomer (view_of kind past) (Poll op)) (is_pending (due_reply kind past (Poll op)))
      (no_message_or_bounded op told)
      (ap (λ waits. not waits && not (is_finished_send (operation_of past op))) (waits_here op told))

  -- ---- its reply is ready or pending

  abbrev Answered : Reply T → Type 0
  Answered reply = is_ready reply ≡ not (is_pending reply)

  send_answered : (answer : Answer _) → Answered (SendPolled answer)
  send_answered (Ready result) = refl
  send_answered Pending = refl

  recv_answered : (answer : Answer _) → Answered (RecvPolled answer)
  recv_answered (Ready result) = refl
  recv_answered Pending = refl

  closed_answered : (answer : Answer _) → Answered (ClosedPolled answer)
  closed_answered (Ready done) = refl
  closed_answered Pending = refl

  next_answered : (answer : Answer _) → Answered (NextPolled answer)
  next_answered (Ready item) = refl
  next_answered Pending = refl

  poll_answered : (operation : Option (Operation T)) (closed no_receiver full : Bool) (oldest : Option T)
      → is_some operation ≡ true → Answered (poll_reply closed no_receiver full oldest operation)
  poll_answered None closed no_receiver full oldest known = cc
  poll_answered (Some (sending sender message)) closed no_receiver full oldest known = send_answered _
  poll_answered (Some (receiving receiver)) closed no_receiver full oldest known = recv_answered _
  poll_answered (Some (awaiting_close sender)) closed no_receiver full oldest known = closed_answered _

  known_told : (op : ℕ) → PollsTold {T = T} (rosters past) (Poll op)
      → is_some (operation_of past op) ≡ true
  known_told op (a_send other e told) =
      let same : other ≡ op = cc in
      ap (λ (n : ℕ). is_some (operation_of past n)) (sym same)
      ∙ known_if (operation_of past other) (inl
      ((AreLive-IsLegal kind past legal).sends other (told_among other (rosters past).sends told)))
  known_told op (a_receive other e told) =
      let same : other ≡ op = cc in
      ap (λ (n : ℕ). is_some (operation_of past n)) (sym same)
      ∙ known_if (operation_of past other) (inr
      (inl ((AreLive-IsLegal kind past legal).receives other (told_among other (rosters past).receives told))))
  known_told op (a_closed other e told) =
      let same : other ≡ op = cc in
      ap (λ (n : ℕ). is_some (operation_of past n)) (sym same)
      ∙ known_if (operation_of past other) (inr
      (inr ((AreLive-IsLegal kind past legal).closeds other (told_among other (rosters past).closeds told))))
  known_told op (a_stream other e told) = cc

  pub due_answered : (who : Who) → PollsTold {T = T} (rosters past) (poll_of who)
      → Answered (due_reply kind past (poll_of who))
  due_answered (Op op) told = poll_answered (operation_of past op) (is_closed past) (has_none (live_names Receivers past))
      (is_full kind past) (oldest_message past) (known_told op told)
  due_answered (Receiver receiver) told = next_answered _

  -- ---- it is made

  module _ (run : View T) (stands : StandsFor kind past run) where
    made-op : (op : ℕ) (reply : Reply T) (after : View T)
        → PollsTold {T = T} (rosters past) (Poll op)
        → StepsTo run (Poll op) reply after → IsMade run (Poll op) reply after
    made-op op reply after told steps = go (refusal_in run (Poll op))
        (refusal_in-StandsFor kind past run (Poll op) stands ∙ told-allowed kind past (Poll op) legal told) steps
      where
        go : (found : Option Refusal) → found ≡ None
            → MatchOption found (IsMade run (Poll op) reply after
            ⊎ ((may_want_memory_in run (Poll op) ≡ true) × IsRefused run (Poll op) OutOfMemory reply after))
            (λ refusal. IsRefused run (Poll op) refusal reply after)
            → IsMade run (Poll op) reply after
        go None e (inl made) = made
        go None e (inr wanted) =
            let none : may_want_memory_in run (Poll op) ≡ false =
            may_want_memory_in-StandsFor kind past run (Poll op) stands ∙ wants_nothing op told in cc
        go (Some refusal) e refused = cc

    made-stream : (receiver : ℕ) (reply : Reply T) (after : View T)
        → PollsTold {T = T} (rosters past) (PollNext receiver) → StepsAsAllowed run (PollNext receiver) reply after
        → IsMade run (PollNext receiver) reply after
    made-stream receiver reply after told (inl made) = made
    made-stream receiver reply after (a_stream other e told) (inr wanted) =
        let same : other ≡ receiver = cc in
        let among : is_among receiver run.rosters.streams.names ≡ true =
        ap (λ (all : Rosters). is_among receiver all.streams.names) stands.shows.rosters
        ∙ ap (λ (n : ℕ). is_among n (rosters past).streams.names) (sym same)
        ∙ told_among other (rosters past).streams told in
        let none : not (is_among receiver run.rosters.streams.names) ≡ false = ap (λ (b : Bool). not b) among in
        let some = wanted.0 in
        cc
    made-stream receiver reply after (a_send other e told) (inr wanted) = cc
    made-stream receiver reply after (a_receive other e told) (inr wanted) = cc
    made-stream receiver reply after (a_closed other e told) (inr wanted) = cc

    pub made : (who : Who) (reply : Reply T) (after : View T)
        → PollsTold {T = T} (rosters past) (poll_of who)
        → PollsTo run who reply after → IsMade run (poll_of who) reply after
    made (Op op) reply after told polled = made-op op reply after told polled
    made (Receiver receiver) reply after told polled = made-stream receiver reply after told polled
