-- If two views show the same, in any order of names and operations, every table says the same of both. So a run,
-- which is one view, answers what the past that stands for it decides, which is the other.
use Rattle.std.proofs.Common.{◌≡◌, ℕ, List, Bool, false, not, ◌&&◌, cond, Some, None, Option, refl, ◌∙◌, ap}
use Rattle.std.specs.List.{list_any}
use Rattle.std.specs.Prelude.{is_some, slice_get, nat_lt, is_none, ◌||◌, option_and_then, unwrap_or}
use Rattle.channel_model.specs.declared.step.Kind.{Kind}
use Rattle.channel_model.specs.declared.step.Side.{Side}
use Rattle.channel_model.specs.declared.step.Side.TheVariants.{Sender, Receiver}
use Rattle.channel_model.specs.declared.step.Refusal.{Refusal}
use Rattle.channel_model.specs.declared.step.Refusal.TheVariants.{Unknown, Taken, Borrowed, TooMany}
use Rattle.channel_model.specs.declared.step.Step.{Step}
use Rattle.channel_model.specs.declared.step.Step.TheVariants.{TrySend, ForceSend, TryRecv, Close, IsClosed, IsEmpty, IsFull, IsTerminated, Len, SenderCount, ReceiverCount, Capacity, CloneSender, CloneReceiver, CloneWeakSender, CloneWeakReceiver, DowngradeSender, DowngradeReceiver, UpgradeSender, UpgradeReceiver, DropSender, DropReceiver, DropWeakSender, DropWeakReceiver, StartSend, StartRecv, StartClosed, Poll, PollNext, DropOp}
use Rattle.channel_model.specs.declared.step.Reply.{Reply}
use Rattle.channel_model.specs.declared.step.Reply.TheVariants.{Count}
use Rattle.event_list.specs.Keys.{AreDifferent}
use Rattle.channel_model.specs.Past.{Past}
use Rattle.channel_model.specs.Operations.{Operation, borrows_receiver, borrows_sender, is_finished_send, live_operations, operation_in, unsent_message}
use Rattle.channel_model.specs.Closing.{has_none}
use Rattle.channel_model.specs.Replies.{due_reply, is_full_in, is_pending, poll_reply, reply_in}
use Rattle.channel_core.specs.Tables.{handle_limit}
use Rattle.channel_model.specs.Refusals.{is_borrowed, is_handle, is_known, is_one_too_many, is_operation, is_taken, new_is_live, refusal_in, refusal_of}
use Rattle.channel_model.specs.Rosters.{Rosters, waits_anywhere}
use Rattle.channel_model.specs.Memory.{brings_message, makes_name, may_want_memory, may_want_memory_in, polls_newcomer}
use Rattle.channel_model.specs.View.{AreAlike, View, view_of}
use Rattle.channel_run.specs.StandsFor.{StandsFor}
use Rattle.channel_run.proofs.Alike.LiveNames.{live_operations-AreDifferent, names_of}
use Rattle.channel_run.proofs.Alike.SameNames.{has_none-same}
use Rattle.channel_run.proofs.Alike.SameOperations.{AreDifferent-AreSameOperations, list_any-SameLookUps}

abbrev pub first_refusal : (known taken borrowed many : Bool) → Option Refusal
first_refusal known taken borrowed many =
    cond (not known) (Some Unknown) (cond taken (Some Taken)
    (cond borrowed (Some Borrowed) (cond many (Some TooMany) None)))

abbrev wants : (allowed makes brings bounded closed newcomer pending : Bool) → Bool
wants allowed makes brings bounded closed newcomer pending =
    allowed && (makes || (brings && bounded && not closed) || (newcomer && pending))

module _ {T : Type 0} (view other : View T) (alike : AreAlike view other) where
  -- the other, with the names and operations in the order in which the first one shows them
  abbrev reordered : View T
  reordered = record other {
    senders = view.senders;
    receivers = view.receivers;
    weak_senders = view.weak_senders;
    weak_receivers = view.weak_receivers;
    operations = view.operations;
  }

  is-reordered : view ≡ reordered
  is-reordered =
      ap (λ (capacity : Option ℕ). record view { capacity = capacity }) alike.capacity
      ∙ ap (λ (messages : List T). record view { capacity = other.capacity; messages = messages }) alike.messages
      ∙ ap (λ closed. record reordered { closed = closed; rosters = view.rosters }) alike.closed
      ∙ ap (λ (all : Rosters). record reordered { rosters = all }) alike.rosters

  -- ---- the reply

  reply_in-reordered : (step : Step T) → reply_in reordered step ≡ reply_in other step
  reply_in-reordered (SenderCount side) = ap (λ count. Count count) alike.senders.count
  reply_in-reordered (ReceiverCount side) = ap (λ count. Count count) alike.receivers.count
  reply_in-reordered (Poll op) =
      ap (λ (operation : Option (Operation T)). poll_reply other.closed (has_none view.receivers)
      (is_full_in other) (slice_get other.messages 0) operation) (alike.operations.each op)
      ∙ ap (λ none. poll_reply other.closed none
      (is_full_in other) (slice_get other.messages 0) (operation_in other.operations op)) (has_none-same view.receivers other.receivers alike.receivers)
  reply_in-reordered step = refl

  pub reply_in-AreAlike : (step : Step T) → reply_in view step ≡ reply_in other step
  reply_in-AreAlike step = ap (λ (shown : View T). reply_in shown step) is-reordered ∙ reply_in-reordered step

  -- ---- the numbers that the law of notices speaks of

  -- ---- the refusal

  is_handle-AreAlike : (side : Side) → is_handle view side ≡ is_handle other side
  is_handle-AreAlike (Sender name) = alike.senders.each name
  is_handle-AreAlike (Receiver name) = alike.receivers.each name

  is_operation-AreAlike : (op : ℕ) → is_operation view op ≡ is_operation other op
  is_operation-AreAlike op = ap (λ (operation : Option (Operation T)). is_some operation) (alike.operations.each op)

  is_known-AreAlike : (step : Step T) → is_known view step ≡ is_known other step
  is_known-AreAlike (TrySend sender message) = alike.senders.each sender
  is_known-AreAlike (ForceSend sender message) = alike.senders.each sender
  is_known-AreAlike (TryRecv receiver) = alike.receivers.each receiver
  is_known-AreAlike (Close side) = is_handle-AreAlike side
  is_known-AreAlike (IsClosed side) = is_handle-AreAlike side
  is_known-AreAlike (IsEmpty side) = is_handle-AreAlike side
  is_known-AreAlike (IsFull side) = is_handle-AreAlike side
  is_known-AreAlike (IsTerminated receiver) = alike.receivers.each receiver
  is_known-AreAlike (Len side) = is_handle-AreAlike side
  is_known-AreAlike (SenderCount side) = is_handle-AreAlike side
  is_known-AreAlike (ReceiverCount side) = is_handle-AreAlike side
  is_known-AreAlike (Capacity side) = is_handle-AreAlike side
  is_known-AreAlike (CloneSender of new) = alike.senders.each of
  is_known-AreAlike (CloneReceiver of new) = alike.receivers.each of
  is_known-AreAlike (CloneWeakSender of new) = alike.weak_senders.each of
  is_known-AreAlike (CloneWeakReceiver of new) = alike.weak_receivers.each of
  is_known-AreAlike (DowngradeSender of new) = alike.senders.each of
  is_known-AreAlike (DowngradeReceiver of new) = alike.receivers.each of
  is_known-AreAlike (UpgradeSender of new) = alike.weak_senders.each of
  is_known-AreAlike (UpgradeReceiver of new) = alike.weak_receivers.each of
  is_known-AreAlike (DropSender name) = alike.senders.each name
  is_known-AreAlike (DropReceiver name) = alike.receivers.each name
  is_known-AreAlike (DropWeakSender name) = alike.weak_senders.each name
  is_known-AreAlike (DropWeakReceiver name) = alike.weak_receivers.each name
  is_known-AreAlike (StartSend op sender message) = alike.senders.each sender
  is_known-AreAlike (StartRecv op receiver) = alike.receivers.each receiver
  is_known-AreAlike (StartClosed op sender) = alike.senders.each sender
  is_known-AreAlike (Poll op) = is_operation-AreAlike op
  is_known-AreAlike (PollNext receiver) = alike.receivers.each receiver
  is_known-AreAlike (DropOp op) = is_operation-AreAlike op

  new_is_live-AreAlike : (step : Step T) → new_is_live view step ≡ new_is_live other step
  new_is_live-AreAlike (CloneSender of new) = ap (λ live. Some live) (alike.senders.each new)
  new_is_live-AreAlike (CloneReceiver of new) = ap (λ live. Some live) (alike.receivers.each new)
  new_is_live-AreAlike (CloneWeakSender of new) = ap (λ live. Some live) (alike.weak_senders.each new)
  new_is_live-AreAlike (CloneWeakReceiver of new) = ap (λ live. Some live) (alike.weak_receivers.each new)
  new_is_live-AreAlike (DowngradeSender of new) = ap (λ live. Some live) (alike.weak_senders.each new)
  new_is_live-AreAlike (DowngradeReceiver of new) = ap (λ live. Some live) (alike.weak_receivers.each new)
  new_is_live-AreAlike (UpgradeSender of new) = ap (λ live. Some live) (alike.senders.each new)
  new_is_live-AreAlike (UpgradeReceiver of new) = ap (λ live. Some live) (alike.receivers.each new)
  new_is_live-AreAlike (StartSend op sender message) = ap (λ live. Some live) (is_operation-AreAlike op)
  new_is_live-AreAlike (StartRecv op receiver) = ap (λ live. Some live) (is_operation-AreAlike op)
  new_is_live-AreAlike (StartClosed op sender) = ap (λ live. Some live) (is_operation-AreAlike op)
  new_is_live-AreAlike step = refl

  is_taken-AreAlike : (step : Step T) → is_taken view step ≡ is_taken other step
  is_taken-AreAlike step = ap (λ (live : Option Bool). unwrap_or live false) (new_is_live-AreAlike step)

  is_one_too_many-reordered : (step : Step T)
      → is_one_too_many reordered step ≡ is_one_too_many other step
  is_one_too_many-reordered (CloneSender of new) = ap (λ count. nat_lt handle_limit count) alike.senders.count
  is_one_too_many-reordered (CloneReceiver of new) = ap (λ count. nat_lt handle_limit count) alike.receivers.count
  is_one_too_many-reordered (UpgradeSender of new) =
      ap (λ count. not other.closed && nat_lt handle_limit count) alike.senders.count
  is_one_too_many-reordered (UpgradeReceiver of new) =
      ap (λ count. not other.closed && nat_lt handle_limit count) alike.receivers.count
  is_one_too_many-reordered step = refl

  -- ---- want of memory

  makes_name-AreAlike : (step : Step T) → makes_name view step ≡ makes_name other step
  makes_name-AreAlike (UpgradeSender of new) = ap not alike.closed
  makes_name-AreAlike (UpgradeReceiver of new) = ap not alike.closed
  makes_name-AreAlike step = ap (λ (live : Option Bool). is_some live) (new_is_live-AreAlike step)

  brings_message-AreAlike : (step : Step T) → brings_message view step ≡ brings_message other step
  brings_message-AreAlike (Poll op) =
      ap (λ (operation : Option (Operation T)). is_some (option_and_then unsent_message operation))
      (alike.operations.each op)
  brings_message-AreAlike step = refl

  polls_newcomer-reordered : (step : Step T)
      → polls_newcomer reordered step ≡ polls_newcomer other step
  polls_newcomer-reordered (Poll op) =
      ap (λ (operation : Option (Operation T)). not (waits_anywhere op other.rosters)
      && not (is_finished_send operation)) (alike.operations.each op)
  polls_newcomer-reordered step = refl

  -- ---- if each operation stands once

  module _ (once : AreDifferent (names_of other.operations)) where
    -- a test of the operations, whichever it is
    borrowed-AreAlike : (test : Operation T → Bool)
        → list_any (λ entry. test entry.1) view.operations ≡ list_any (λ entry. test entry.1) other.operations
    borrowed-AreAlike test = list_any-SameLookUps test view.operations other.operations
        (AreDifferent-AreSameOperations view.operations other.operations once alike.operations) once
        alike.operations.each

    is_borrowed-AreAlike : (step : Step T) → is_borrowed view step ≡ is_borrowed other step
    is_borrowed-AreAlike (DropSender name) = borrowed-AreAlike (λ operation. borrows_sender name operation)
    is_borrowed-AreAlike (DropReceiver name) = borrowed-AreAlike (λ operation. borrows_receiver name operation)
    is_borrowed-AreAlike (PollNext receiver) = borrowed-AreAlike (λ operation. borrows_receiver receiver operation)
    is_borrowed-AreAlike step = refl

    pub refusal_in-AreAlike : (step : Step T) → refusal_in view step ≡ refusal_in other step
    refusal_in-AreAlike step =
        ap (λ known. first_refusal known (is_taken view step) (is_borrowed view step) (is_one_too_many view step))
        (is_known-AreAlike step)
        ∙ ap (λ taken. first_refusal (is_known other step) taken (is_borrowed view step) (is_one_too_many view step))
        (is_taken-AreAlike step)
        ∙ ap (λ borrowed. first_refusal (is_known other step) (is_taken other step) borrowed
        (is_one_too_many view step)) (is_borrowed-AreAlike step)
        ∙ ap (λ many. first_refusal (is_known other step) (is_taken other step) (is_borrowed other step) many)
        (ap (λ (shown : View T). is_one_too_many shown step) is-reordered ∙ is_one_too_many-reordered step)

    pub may_want_memory_in-AreAlike : (step : Step T)
        → may_want_memory_in view step ≡ may_want_memory_in other step
    may_want_memory_in-AreAlike step =
        ap (λ (refusal : Option Refusal). wants (is_none refusal) (makes_name view step) (brings_message view step)
        (is_none view.capacity) view.closed (polls_newcomer view step) (is_pending (reply_in view step)))
        (refusal_in-AreAlike step)
        ∙ ap (λ makes. wants (is_none (refusal_in other step)) makes (brings_message view step)
        (is_none view.capacity) view.closed (polls_newcomer view step) (is_pending (reply_in view step)))
        (makes_name-AreAlike step)
        ∙ ap (λ brings. wants (is_none (refusal_in other step)) (makes_name other step) brings
        (is_none view.capacity) view.closed (polls_newcomer view step) (is_pending (reply_in view step)))
        (brings_message-AreAlike step)
        ∙ ap (λ (reply : Reply T). wants (is_none (refusal_in other step)) (makes_name other step)
        (brings_message other step) (is_none view.capacity) view.closed (polls_newcomer view step) (is_pending reply))
        (reply_in-AreAlike step)
        ∙ ap (λ (shown : View T). wants (is_none (refusal_in other step)) (makes_name other step)
        (brings_message other step) (is_none shown.capacity) shown.closed (polls_newcomer shown step)
        (is_pending (reply_in other step))) is-reordered
        ∙ ap (λ newcomer. wants (is_none (refusal_in other step)) (makes_name other step)
        (brings_message other step) (is_none other.capacity) other.closed newcomer (is_pending (reply_in other step)))
        (polls_newcomer-reordered step)

-- ---- a run and a past that stands for it

module _ {T : Type 0} (kind : Kind) (past : Past T) (run : View T) (step : Step T)
    (stands : StandsFor kind past run) where
  once : AreDifferent (names_of (live_operations past))
  once = live_operations-AreDifferent kind past stands.legal

  -- The reply is the one that is due.
  pub reply_in-StandsFor : reply_in run step ≡ due_reply kind past step
  reply_in-StandsFor = reply_in-AreAlike run (view_of kind past) stands.shows step

  -- The refusal that applies, or none, shows in the run.
  pub refusal_in-StandsFor : refusal_in run step ≡ refusal_of kind past step
  refusal_in-StandsFor = refusal_in-AreAlike run (view_of kind past) stands.shows once step

  -- When a step may want memory shows too.
  pub may_want_memory_in-StandsFor : may_want_memory_in run step ≡ may_want_memory kind past step
  may_want_memory_in-StandsFor = may_want_memory_in-AreAlike run (view_of kind past) stands.shows once step
