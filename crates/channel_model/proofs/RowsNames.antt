-- Worked rows of handles, weak handles and names.
use Rattle.std.specs.Prelude.{refl, [], ◌∷◌, Ok, Err, Some, None, true, false}
use Rattle.futures.specs.declared.task.Poll.TheVariants.{Ready}
use Rattle.channel_core.specs.declared.errors.TryRecvError.TheVariants.{Closed}
use Rattle.channel_model.specs.declared.step.Kind.TheVariants.{Bounded, Unbounded}
use Rattle.channel_model.specs.declared.step.Side.TheVariants.{Sender, Receiver}
use Rattle.channel_model.specs.declared.step.Who.TheVariants.{Receiver}
use Rattle.channel_model.specs.declared.step.Refusal.TheVariants.{Unknown, Taken, Borrowed}
use Rattle.channel_model.specs.declared.step.Step.TheVariants.{TrySend, ForceSend, TryRecv, Close, IsClosed, IsTerminated, SenderCount, ReceiverCount, CloneSender, CloneReceiver, CloneWeakSender, CloneWeakReceiver, DowngradeSender, DowngradeReceiver, UpgradeSender, UpgradeReceiver, DropSender, DropReceiver, DropWeakSender, DropWeakReceiver, StartSend, StartRecv, StartClosed, Poll, PollNext, DropOp}
use Rattle.channel_model.specs.declared.step.Reply.TheVariants.{Forced, Received, Flag, Count, Done, Upgraded, SendPolled, Refused}
use Rattle.channel_model.proofs.Script.{does, Row, IsRow, EndsLegal}
use Rattle.channel_model.proofs.ScriptLemmas.{legal}

-- upgrades
abbrev pub upgrades : Row
upgrades = record {
  kind = Unbounded;
  lines =
      does (DowngradeSender 0 0) Done
      ∷ does (DowngradeReceiver 0 0) Done
      ∷ does (CloneWeakReceiver 0 1) Done
      ∷ does (UpgradeReceiver 1 1) (Upgraded true)
      ∷ does (DropReceiver 1) Done
      ∷ does (ForceSend 0 1) (Forced (Ok None))
      ∷ does (UpgradeSender 0 1) (Upgraded true)
      ∷ does (SenderCount (Receiver 0)) (Count 2)
      ∷ does (Close (Sender 0)) (Flag true)
      ∷ does (UpgradeSender 0 2) (Upgraded false)
      ∷ does (UpgradeReceiver 0 1) (Upgraded false)
      ∷ does (ReceiverCount (Sender 0)) (Count 1)
      ∷ [];
}

row_upgrades : IsRow upgrades
row_upgrades = refl

legal_upgrades : EndsLegal upgrades
legal_upgrades = legal upgrades refl

-- weak copies
abbrev pub weak_copies : Row
weak_copies = record {
  kind = Unbounded;
  lines =
      does (DowngradeSender 0 0) Done
      ∷ does (CloneWeakSender 0 1) Done
      ∷ does (DropWeakSender 0) Done
      ∷ does (UpgradeSender 0 1) (Refused Unknown None)
      ∷ does (UpgradeSender 1 0) (Refused Taken None)
      ∷ does (UpgradeSender 1 1) (Upgraded true)
      ∷ does (DropSender 0) Done
      ∷ does (IsClosed (Receiver 0)) (Flag false)
      ∷ does (DropSender 1) Done
      ∷ does (IsClosed (Receiver 0)) (Flag true)
      ∷ does (UpgradeSender 1 0) (Upgraded false)
      ∷ does (TrySend 0 1) (Refused Unknown (Some 1))
      ∷ does (SenderCount (Receiver 0)) (Count 0)
      ∷ [];
}

row_weak_copies : IsRow weak_copies
row_weak_copies = refl

legal_weak_copies : EndsLegal weak_copies
legal_weak_copies = legal weak_copies refl

-- copies
abbrev pub copies : Row
copies = record {
  kind = Bounded 5;
  lines =
      does (CloneReceiver 0 1) Done
      ∷ does (ReceiverCount (Sender 0)) (Count 2)
      ∷ does (DropReceiver 1) Done
      ∷ does (ReceiverCount (Sender 0)) (Count 1)
      ∷ does (SenderCount (Sender 0)) (Count 1)
      ∷ [];
}

row_copies : IsRow copies
row_copies = refl

legal_copies : EndsLegal copies
legal_copies = legal copies refl

-- borrowed
abbrev pub borrowed : Row
borrowed = record {
  kind = Unbounded;
  lines =
      does (StartRecv 0 0) Done
      ∷ does (PollNext 0) (Refused Borrowed None)
      ∷ does (DropReceiver 0) (Refused Borrowed None)
      ∷ does (DropOp 0) Done
      ∷ does (DropReceiver 0) Done
      ∷ does (IsClosed (Sender 0)) (Flag true)
      ∷ [];
}

row_borrowed : IsRow borrowed
row_borrowed = refl

legal_borrowed : EndsLegal borrowed
legal_borrowed = legal borrowed refl

-- names
abbrev pub names : Row
names = record {
  kind = Unbounded;
  lines =
      does (TrySend 1 4) (Refused Unknown (Some 4))
      ∷ does (CloneSender 0 0) (Refused Taken None)
      ∷ does (DropSender 0) Done
      ∷ does (DropSender 0) (Refused Unknown None)
      ∷ does (TryRecv 0) (Received (Err Closed))
      ∷ [];
}

row_names : IsRow names
row_names = refl

legal_names : EndsLegal names
legal_names = legal names refl

-- names are used again
abbrev pub names_are_used_again : Row
names_are_used_again = record {
  kind = Unbounded;
  lines =
      does (StartRecv 0 0) Done
      ∷ does (StartRecv 0 0) (Refused Taken None)
      ∷ does (Poll 1) (Refused Unknown None)
      ∷ does (DropOp 0) Done
      ∷ does (StartSend 0 0 5) Done
      ∷ does (Poll 0) (SendPolled (Ready (Ok tt)))
      ∷ does (TryRecv 0) (Received (Ok 5))
      ∷ [];
}

row_names_are_used_again : IsRow names_are_used_again
row_names_are_used_again = refl

legal_names_are_used_again : EndsLegal names_are_used_again
legal_names_are_used_again = legal names_are_used_again refl

-- each kind has names of its own: sender 1, receiver 2, weak sender 3, weak receiver 4, operation 5
abbrev pub each_kind_has_names_of_its_own : Row
each_kind_has_names_of_its_own = record {
  kind = Unbounded;
  lines =
      does (CloneSender 0 1) Done
      ∷ does (DropSender 0) Done
      ∷ does (CloneReceiver 0 2) Done
      ∷ does (DropReceiver 0) Done
      ∷ does (DowngradeSender 1 3) Done
      ∷ does (DowngradeReceiver 2 4) Done
      ∷ does (StartRecv 5 2) Done
      ∷ does (CloneSender 1 1) (Refused Taken None)
      ∷ does (UpgradeSender 3 1) (Refused Taken None)
      ∷ does (CloneReceiver 2 2) (Refused Taken None)
      ∷ does (UpgradeReceiver 4 2) (Refused Taken None)
      ∷ does (CloneWeakSender 3 3) (Refused Taken None)
      ∷ does (DowngradeSender 1 3) (Refused Taken None)
      ∷ does (CloneWeakReceiver 4 4) (Refused Taken None)
      ∷ does (DowngradeReceiver 2 4) (Refused Taken None)
      ∷ does (StartSend 5 1 9) (Refused Taken (Some 9))
      ∷ does (StartRecv 5 2) (Refused Taken None)
      ∷ does (StartClosed 5 1) (Refused Taken None)
      ∷ does (ForceSend 1 6) (Forced (Ok None))
      ∷ does (IsTerminated 2) (Flag false)
      ∷ does (TryRecv 2) (Received (Ok 6))
      ∷ does (SenderCount (Receiver 2)) (Count 1)
      ∷ does (DropWeakSender 3) Done
      ∷ does (UpgradeSender 3 6) (Refused Unknown None)
      ∷ [];
}

row_each_kind_has_names_of_its_own : IsRow each_kind_has_names_of_its_own
row_each_kind_has_names_of_its_own = refl

legal_each_kind_has_names_of_its_own : EndsLegal each_kind_has_names_of_its_own
legal_each_kind_has_names_of_its_own = legal each_kind_has_names_of_its_own refl

-- a weak receiver given up: its name is free, and names no other
abbrev pub a_weak_receiver_given_up : Row
a_weak_receiver_given_up = record {
  kind = Unbounded;
  lines =
      does (DowngradeReceiver 0 0) Done
      ∷ does (CloneWeakReceiver 0 1) Done
      ∷ does (DropWeakReceiver 0) Done
      ∷ does (UpgradeReceiver 0 1) (Refused Unknown None)
      ∷ does (DropWeakReceiver 0) (Refused Unknown None)
      ∷ does (DowngradeReceiver 0 0) Done
      ∷ does (UpgradeReceiver 0 1) (Upgraded true)
      ∷ does (UpgradeReceiver 1 2) (Upgraded true)
      ∷ does (ReceiverCount (Sender 0)) (Count 3)
      ∷ [];
}

row_a_weak_receiver_given_up : IsRow a_weak_receiver_given_up
row_a_weak_receiver_given_up = refl

legal_a_weak_receiver_given_up : EndsLegal a_weak_receiver_given_up
legal_a_weak_receiver_given_up = legal a_weak_receiver_given_up refl

-- a receive borrows no sender
abbrev pub a_receive_borrows_no_sender : Row
a_receive_borrows_no_sender = record {
  kind = Unbounded;
  lines =
      does (StartRecv 0 0) Done
      ∷ does (DropSender 0) Done
      ∷ does (IsClosed (Receiver 0)) (Flag true)
      ∷ [];
}

row_a_receive_borrows_no_sender : IsRow a_receive_borrows_no_sender
row_a_receive_borrows_no_sender = refl

legal_a_receive_borrows_no_sender : EndsLegal a_receive_borrows_no_sender
legal_a_receive_borrows_no_sender = legal a_receive_borrows_no_sender refl
