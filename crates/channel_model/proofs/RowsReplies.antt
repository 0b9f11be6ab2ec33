-- Rows in which every case of the replies and refusals is met.
use Rattle.std.specs.Prelude.{refl, [], ◌∷◌, Ok, Err, Some, None, true, false}
use Rattle.futures.specs.declared.task.Poll.TheVariants.{Ready, Pending}
use Rattle.channel_core.specs.declared.errors.TrySendError.TheVariants.{Full, Closed}
use Rattle.channel_core.specs.declared.errors.TryRecvError.TheVariants.{Empty, Closed}
use Rattle.channel_model.specs.declared.step.Kind.TheVariants.{Bounded, Unbounded}
use Rattle.channel_model.specs.declared.step.Side.TheVariants.{Sender, Receiver}
use Rattle.channel_model.specs.declared.step.Who.TheVariants.{Op, Receiver}
use Rattle.channel_model.specs.declared.step.Notice.TheVariants.{Absent, Told}
use Rattle.channel_model.specs.declared.step.Refusal.TheVariants.{Unknown, Taken, Borrowed}
use Rattle.channel_model.specs.declared.step.Step.TheVariants.{TrySend, ForceSend, TryRecv, Close, IsClosed, IsEmpty, IsFull, IsTerminated, Len, SenderCount, ReceiverCount, Capacity, CloneSender, CloneReceiver, CloneWeakSender, DowngradeSender, DowngradeReceiver, UpgradeSender, UpgradeReceiver, DropSender, DropReceiver, DropWeakReceiver, StartSend, StartRecv, StartClosed, Poll, PollNext, DropOp}
use Rattle.channel_model.specs.declared.step.Reply.TheVariants.{TrySent, Forced, Received, Flag, Count, Capacity, Done, Upgraded, SendPolled, RecvPolled, ClosedPolled, NextPolled, Refused}
use Rattle.channel_core.specs.Tables.{send_error}
use Rattle.channel_model.proofs.Script.{does, notes, Row, IsRow, EndsLegal}
use Rattle.channel_model.proofs.ScriptLemmas.{legal}

-- every reply of an open channel
abbrev pub every_reply_of_an_open_channel : Row
every_reply_of_an_open_channel = record {
  kind = Bounded 1;
  lines =
      does (TryRecv 0) (Received (Err Empty))
      ∷ does (IsEmpty (Receiver 0)) (Flag true)
      ∷ does (IsFull (Receiver 0)) (Flag false)
      ∷ does (IsClosed (Receiver 0)) (Flag false)
      ∷ does (IsTerminated 0) (Flag false)
      ∷ does (Capacity (Receiver 0)) (Capacity (Some 1))
      ∷ does (SenderCount (Sender 0)) (Count 1)
      ∷ does (ReceiverCount (Receiver 0)) (Count 1)
      ∷ does (TrySend 0 1) (TrySent (Ok tt))
      ∷ does (IsFull (Sender 0)) (Flag true)
      ∷ does (IsEmpty (Sender 0)) (Flag false)
      ∷ does (Len (Receiver 0)) (Count 1)
      ∷ does (TrySend 0 2) (TrySent (Err (Full 2)))
      ∷ does (ForceSend 0 3) (Forced (Ok (Some 1)))
      ∷ does (StartRecv 0 0) Done
      ∷ does (StartSend 1 0 4) Done
      ∷ does (StartClosed 2 0) Done
      ∷ does (Poll 1) (SendPolled Pending)
      ∷ does (Poll 2) (ClosedPolled Pending)
      ∷ does (Poll 0) (RecvPolled (Ready (Ok 3)))
      ∷ notes (Op 1) Told
      ∷ does (Poll 1) (SendPolled (Ready (Ok tt)))
      ∷ notes (Op 1) Absent
      ∷ does (DropOp 0) Done
      ∷ does (PollNext 0) (NextPolled (Ready (Some 4)))
      ∷ does (PollNext 0) (NextPolled Pending)
      ∷ does (CloneSender 0 1) Done
      ∷ does (SenderCount (Receiver 0)) (Count 2)
      ∷ [];
}

row_every_reply_of_an_open_channel : IsRow every_reply_of_an_open_channel
row_every_reply_of_an_open_channel = refl

legal_every_reply_of_an_open_channel : EndsLegal every_reply_of_an_open_channel
legal_every_reply_of_an_open_channel = legal every_reply_of_an_open_channel refl

-- every reply of a closed channel
abbrev pub every_reply_of_a_closed_channel : Row
every_reply_of_a_closed_channel = record {
  kind = Bounded 1;
  lines =
      does (TrySend 0 1) (TrySent (Ok tt))
      ∷ does (StartSend 0 0 2) Done
      ∷ does (StartRecv 1 0) Done
      ∷ does (StartClosed 2 0) Done
      ∷ does (DowngradeSender 0 0) Done
      ∷ does (DowngradeReceiver 0 0) Done
      ∷ does (Close (Receiver 0)) (Flag true)
      ∷ does (Close (Sender 0)) (Flag false)
      ∷ does (IsClosed (Sender 0)) (Flag true)
      ∷ does (IsTerminated 0) (Flag false)
      ∷ does (TrySend 0 3) (TrySent (Err (Closed 3)))
      ∷ does (ForceSend 0 4) (Forced (Err (send_error 4)))
      ∷ does (Poll 0) (SendPolled (Ready (Err (send_error 2))))
      ∷ does (Poll 2) (ClosedPolled Pending)
      ∷ does (UpgradeSender 0 1) (Upgraded false)
      ∷ does (UpgradeReceiver 0 1) (Upgraded false)
      ∷ does (Poll 1) (RecvPolled (Ready (Ok 1)))
      ∷ does (Poll 1) (RecvPolled (Ready (Err (record {}))))
      ∷ does (TryRecv 0) (Received (Err Closed))
      ∷ does (IsTerminated 0) (Flag true)
      ∷ does (DropOp 1) Done
      ∷ does (PollNext 0) (NextPolled (Ready None))
      ∷ does (DropReceiver 0) Done
      ∷ does (Poll 2) (ClosedPolled (Ready tt))
      ∷ does (SenderCount (Sender 0)) (Count 1)
      ∷ does (ReceiverCount (Sender 0)) (Count 0)
      ∷ [];
}

row_every_reply_of_a_closed_channel : IsRow every_reply_of_a_closed_channel
row_every_reply_of_a_closed_channel = refl

legal_every_reply_of_a_closed_channel : EndsLegal every_reply_of_a_closed_channel
legal_every_reply_of_a_closed_channel = legal every_reply_of_a_closed_channel refl

-- every refusal
abbrev pub every_refusal : Row
every_refusal = record {
  kind = Unbounded;
  lines =
      does (ForceSend 1 4) (Refused Unknown (Some 4))
      ∷ does (StartSend 0 1 5) (Refused Unknown (Some 5))
      ∷ does (StartRecv 0 1) (Refused Unknown None)
      ∷ does (StartClosed 0 1) (Refused Unknown None)
      ∷ does (TryRecv 1) (Refused Unknown None)
      ∷ does (Close (Sender 1)) (Refused Unknown None)
      ∷ does (Poll 0) (Refused Unknown None)
      ∷ does (DropOp 0) (Refused Unknown None)
      ∷ does (PollNext 1) (Refused Unknown None)
      ∷ does (CloneSender 1 0) (Refused Unknown None)
      ∷ does (CloneReceiver 0 0) (Refused Taken None)
      ∷ does (DowngradeSender 0 0) Done
      ∷ does (DowngradeSender 0 0) (Refused Taken None)
      ∷ does (CloneWeakSender 0 0) (Refused Taken None)
      ∷ does (UpgradeSender 0 0) (Refused Taken None)
      ∷ does (UpgradeReceiver 0 0) (Refused Unknown None)
      ∷ does (DropWeakReceiver 0) (Refused Unknown None)
      ∷ does (StartRecv 0 0) Done
      ∷ does (StartSend 0 0 6) (Refused Taken (Some 6))
      ∷ does (StartClosed 0 0) (Refused Taken None)
      ∷ does (DropReceiver 0) (Refused Borrowed None)
      ∷ does (PollNext 0) (Refused Borrowed None)
      ∷ does (StartRecv 1 0) Done
      ∷ does (DropOp 0) Done
      ∷ does (DropReceiver 0) (Refused Borrowed None)
      ∷ does (DropOp 1) Done
      ∷ does (DropReceiver 0) Done
      ∷ does (IsClosed (Sender 0)) (Flag true)
      ∷ does (UpgradeSender 0 0) (Refused Taken None)
      ∷ [];
}

row_every_refusal : IsRow every_refusal
row_every_refusal = refl

legal_every_refusal : EndsLegal every_refusal
legal_every_refusal = legal every_refusal refl

-- a finished operation still borrows
abbrev pub a_finished_operation_still_borrows : Row
a_finished_operation_still_borrows = record {
  kind = Bounded 1;
  lines =
      does (StartSend 0 0 7) Done
      ∷ does (Poll 0) (SendPolled (Ready (Ok tt)))
      ∷ does (DropSender 0) (Refused Borrowed None)
      ∷ does (StartClosed 1 0) Done
      ∷ does (DropOp 0) Done
      ∷ does (DropSender 0) (Refused Borrowed None)
      ∷ does (DropOp 1) Done
      ∷ does (DropSender 0) Done
      ∷ does (IsClosed (Receiver 0)) (Flag true)
      ∷ [];
}

row_a_finished_operation_still_borrows : IsRow a_finished_operation_still_borrows
row_a_finished_operation_still_borrows = refl

legal_a_finished_operation_still_borrows : EndsLegal a_finished_operation_still_borrows
legal_a_finished_operation_still_borrows = legal a_finished_operation_still_borrows refl
