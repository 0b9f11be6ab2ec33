-- Which steps are refused, want of memory aside.
use Rattle.std.specs.Prelude.{ℕ, List, Option, Some, None, Bool, false, not, ◌&&◌, length, nat_lt, is_some, unwrap_or, if◌then◌else◌}
use Rattle.std.specs.List.{list_any}
use Rattle.channel_model.specs.declared.step.Kind.{Kind}
use Rattle.channel_model.specs.declared.step.Side.{Side}
use Rattle.channel_model.specs.declared.step.Side.TheVariants.{Sender, Receiver}
use Rattle.channel_model.specs.declared.step.Refusal.{Refusal}
use Rattle.channel_model.specs.declared.step.Refusal.TheVariants.{Unknown, Taken, Borrowed, TooMany}
use Rattle.channel_model.specs.declared.step.Step.{Step}
use Rattle.channel_model.specs.declared.step.Step.TheVariants.{TrySend, ForceSend, TryRecv, Close, IsClosed, IsEmpty, IsFull, IsTerminated, Len, SenderCount, ReceiverCount, Capacity, CloneSender, CloneReceiver, CloneWeakSender, CloneWeakReceiver, DowngradeSender, DowngradeReceiver, UpgradeSender, UpgradeReceiver, DropSender, DropReceiver, DropWeakSender, DropWeakReceiver, StartSend, StartRecv, StartClosed, Poll, PollNext, DropOp}
use Rattle.event_list.specs.Keys.{is_among}
use Rattle.channel_core.specs.Tables.{handle_limit}
use Rattle.channel_model.specs.Past.{Past}
use Rattle.channel_model.specs.Operations.{operation_in, borrows_receiver, borrows_sender}
use Rattle.channel_model.specs.View.{View, view_of}

-- ---- whether a name is live

-- a live operation has this name
abbrev pub is_operation : {T : Type 0} → View T → ℕ → Bool
is_operation view name = is_some (operation_in view.operations name)

-- a live sender, or a live receiver, has this name
abbrev pub is_handle : {T : Type 0} → View T → Side → Bool
is_handle view (Sender name) = is_among name view.senders
is_handle view (Receiver name) = is_among name view.receivers

-- ---- the four refusals

-- A handle is made of another: whether that is among these, and the new one among those.
abbrev pub made : (of : ℕ) (names : List ℕ) (new : ℕ) (others : List ℕ) → Bool × Option Bool
made of names new others = (is_among of names, Some (is_among new others))

-- What a step finds live: whether the name by which it acts is, and, if it is to make a name,
-- whether that one is.
abbrev pub live_of : {T : Type 0} → View T → Step T → Bool × Option Bool
live_of view (TrySend sender message) = (is_among sender view.senders, None)
live_of view (ForceSend sender message) = (is_among sender view.senders, None)
live_of view (TryRecv receiver) = (is_among receiver view.receivers, None)
live_of view (Close side) = (is_handle view side, None)
live_of view (IsClosed side) = (is_handle view side, None)
live_of view (IsEmpty side) = (is_handle view side, None)
live_of view (IsFull side) = (is_handle view side, None)
live_of view (IsTerminated receiver) = (is_among receiver view.receivers, None)
live_of view (Len side) = (is_handle view side, None)
live_of view (SenderCount side) = (is_handle view side, None)
live_of view (ReceiverCount side) = (is_handle view side, None)
live_of view (Capacity side) = (is_handle view side, None)
live_of view (CloneSender of new) = made of view.senders new view.senders
live_of view (CloneReceiver of new) = made of view.receivers new view.receivers
live_of view (CloneWeakSender of new) = made of view.weak_senders new view.weak_senders
live_of view (CloneWeakReceiver of new) = made of view.weak_receivers new view.weak_receivers
live_of view (DowngradeSender of new) = made of view.senders new view.weak_senders
live_of view (DowngradeReceiver of new) = made of view.receivers new view.weak_receivers
live_of view (UpgradeSender of new) = made of view.weak_senders new view.senders
live_of view (UpgradeReceiver of new) = made of view.weak_receivers new view.receivers
live_of view (DropSender name) = (is_among name view.senders, None)
live_of view (DropReceiver name) = (is_among name view.receivers, None)
live_of view (DropWeakSender name) = (is_among name view.weak_senders, None)
live_of view (DropWeakReceiver name) = (is_among name view.weak_receivers, None)
live_of view (StartSend op name message) = (is_among name view.senders, Some (is_operation view op))
live_of view (StartRecv op name) = (is_among name view.receivers, Some (is_operation view op))
live_of view (StartClosed op name) = (is_among name view.senders, Some (is_operation view op))
live_of view (Poll op) = (is_operation view op, None)
live_of view (PollNext receiver) = (is_among receiver view.receivers, None)
live_of view (DropOp op) = (is_operation view op, None)

-- The name by which the step acts is live.
abbrev pub is_known : {T : Type 0} → View T → Step T → Bool
is_known view step = (live_of view step).0

-- For a step that is to make a name: whether it is live already.
abbrev pub new_is_live : {T : Type 0} → View T → Step T → Option Bool
new_is_live view step = (live_of view step).1

-- The name that the step is to make is live already.
abbrev pub is_taken : {T : Type 0} → View T → Step T → Bool
is_taken view step = unwrap_or (new_is_live view step) false

-- A live operation borrows the handle that the step gives up, or the receiver whose stream it
-- polls.
abbrev pub is_borrowed : {T : Type 0} → View T → Step T → Bool
is_borrowed view (DropSender name) = list_any (λ entry. borrows_sender name entry.1) view.operations
is_borrowed view (DropReceiver name) =
    list_any (λ entry. borrows_receiver name entry.1) view.operations
is_borrowed view (PollNext receiver) =
    list_any (λ entry. borrows_receiver receiver entry.1) view.operations
is_borrowed view step = false

-- A handle would be copied, or upgraded on an open channel, beside more of its kind than the limit.
abbrev pub is_one_too_many : {T : Type 0} → View T → Step T → Bool
is_one_too_many view (CloneSender of new) = nat_lt handle_limit (length view.senders)
is_one_too_many view (CloneReceiver of new) = nat_lt handle_limit (length view.receivers)
is_one_too_many view (UpgradeSender of new) =
    not view.closed && nat_lt handle_limit (length view.senders)
is_one_too_many view (UpgradeReceiver of new) =
    not view.closed && nat_lt handle_limit (length view.receivers)
is_one_too_many view step = false

-- The first refusal that applies: a name that isn't live, then a new name that is live, then a
-- handle that is borrowed, then one handle too many.
abbrev pub refusal_in : {T : Type 0} → View T → Step T → Option Refusal
refusal_in view step =
    if not (is_known view step) then Some Unknown
    else if is_taken view step then Some Taken
    else if is_borrowed view step then Some Borrowed
    else if is_one_too_many view step then Some TooMany
    else None

-- The refusal that applies after this past.
abbrev pub refusal_of : {T : Type 0} → Kind → Past T → Step T → Option Refusal
refusal_of kind past step = refusal_in (view_of kind past) step
