-- The reply that the past decides. No reply hangs on who was told. Of several cases the first that
-- applies counts.
use Rattle.std.specs.Prelude.{Option, Some, None, Bool, true, false, not, ◌&&◌, length, slice_get}
use Rattle.futures.specs.declared.task.Poll.TheVariants.{Pending, Ready}
use Rattle.channel_model.specs.declared.step.Kind.{Kind}
use Rattle.channel_model.specs.declared.step.Refusal.TheVariants.{Unknown}
use Rattle.channel_model.specs.declared.step.Step.{Step}
use Rattle.channel_model.specs.declared.step.Step.TheVariants.{TrySend, ForceSend, TryRecv, Close, IsClosed, IsEmpty, IsFull, IsTerminated, Len, SenderCount, ReceiverCount, Capacity, UpgradeSender, UpgradeReceiver, Poll, PollNext}
use Rattle.channel_model.specs.declared.step.Reply.{Reply}
use Rattle.channel_model.specs.declared.step.Reply.TheVariants.{TrySent, Forced, Received, Flag, Count, Capacity, Done, Upgraded, SendPolled, RecvPolled, ClosedPolled, NextPolled, Refused}
use Rattle.channel_core.specs.Tables.{try_send_answer, force_send_answer, try_recv_answer, send_poll, recv_poll, next_poll, closed_poll}
use Rattle.channel_model.specs.Past.{Past}
use Rattle.channel_model.specs.Operations.{Operation, awaiting_close, operation_in, receiving, sending}
use Rattle.channel_model.specs.Capacity.{full_at}
use Rattle.channel_model.specs.Closing.{has_none}
use Rattle.channel_model.specs.View.{View, view_of}

-- What a poll looks at decides the reply to it, by the kind of the operation. If none has this
-- name the step is refused, and isn't made.
module _ {T : Type 0} (closed no_receiver full : Bool) (oldest : Option T) where
  abbrev pub poll_reply : Option (Operation T) → Reply T
  poll_reply (Some (sending sender message)) = SendPolled (send_poll message closed full)
  poll_reply (Some (receiving receiver)) = RecvPolled (recv_poll oldest closed)
  poll_reply (Some (awaiting_close sender)) = ClosedPolled (closed_poll no_receiver)
  poll_reply None = Refused Unknown None

-- it holds as many messages as it may
abbrev pub is_full_in : {T : Type 0} → View T → Bool
is_full_in view = full_at view.capacity (length view.messages)

-- The reply to a step by what the channel shows. A question is answered by what it asks for;
-- a step that only makes or gives up a name is answered by `Done`.
abbrev pub reply_in : {T : Type 0} → View T → Step T → Reply T
reply_in view (TrySend sender message) =
    TrySent (try_send_answer view.closed (is_full_in view) message)
reply_in view (ForceSend sender message) =
    Forced (force_send_answer view.closed (is_full_in view) (slice_get view.messages 0) message)
reply_in view (TryRecv receiver) =
    Received (try_recv_answer (slice_get view.messages 0) view.closed)
reply_in view (Close side) = Flag (not view.closed)
reply_in view (IsClosed side) = Flag view.closed
reply_in view (IsEmpty side) = Flag (has_none view.messages)
reply_in view (IsFull side) = Flag (is_full_in view)
reply_in view (IsTerminated receiver) = Flag (view.closed && has_none view.messages)
reply_in view (Len side) = Count (length view.messages)
reply_in view (SenderCount side) = Count (length view.senders)
reply_in view (ReceiverCount side) = Count (length view.receivers)
reply_in view (Capacity side) = Capacity view.capacity
reply_in view (UpgradeSender of new) = Upgraded (not view.closed)
reply_in view (UpgradeReceiver of new) = Upgraded (not view.closed)
reply_in view (Poll op) =
    poll_reply view.closed (has_none view.receivers) (is_full_in view) (slice_get view.messages 0)
    (operation_in view.operations op)
reply_in view (PollNext receiver) = NextPolled (next_poll (slice_get view.messages 0) view.closed)
reply_in view step = Done

-- The reply that is due to a step after this past.
abbrev pub due_reply : {T : Type 0} → Kind → Past T → Step T → Reply T
due_reply kind past step = reply_in (view_of kind past) step

-- a poll that was answered pending
abbrev pub is_pending : {T : Type 0} → Reply T → Bool
is_pending (SendPolled Pending) = true
is_pending (RecvPolled Pending) = true
is_pending (ClosedPolled Pending) = true
is_pending (NextPolled Pending) = true
is_pending reply = false

-- a poll that was answered ready
abbrev pub is_ready : {T : Type 0} → Reply T → Bool
is_ready (SendPolled (Ready outcome)) = true
is_ready (RecvPolled (Ready outcome)) = true
is_ready (ClosedPolled (Ready outcome)) = true
is_ready (NextPolled (Ready outcome)) = true
is_ready reply = false
