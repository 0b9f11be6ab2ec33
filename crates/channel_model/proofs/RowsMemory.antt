-- Worked rows of steps that may want memory, and of those that want none.
use Rattle.std.specs.Prelude.{refl, [], ◌∷◌, Ok, None, true, false}
use Rattle.futures.specs.declared.task.Poll.TheVariants.{Ready, Pending}
use Rattle.channel_model.specs.declared.step.Kind.TheVariants.{Bounded, Unbounded}
use Rattle.channel_model.specs.declared.step.Side.TheVariants.{Sender}
use Rattle.channel_model.specs.declared.step.Who.TheVariants.{Op}
use Rattle.channel_model.specs.declared.step.Notice.TheVariants.{Told}
use Rattle.channel_model.specs.declared.step.Step.TheVariants.{TrySend, ForceSend, TryRecv, Close, CloneSender, CloneWeakReceiver, DowngradeSender, DowngradeReceiver, UpgradeSender, UpgradeReceiver, DropSender, StartSend, StartRecv, StartClosed, Poll, PollNext}
use Rattle.channel_model.specs.declared.step.Reply.TheVariants.{TrySent, Received, Flag, Done, SendPolled, RecvPolled, ClosedPolled, NextPolled}
use Rattle.channel_model.proofs.Script.{does, notes, wants, Row, IsRow, EndsLegal}
use Rattle.channel_model.proofs.ScriptLemmas.{legal}

-- names and memory
abbrev pub names_and_memory : Row
names_and_memory = record {
  kind = Bounded 1;
  lines =
      wants (CloneSender 0 1) true
      ∷ wants (CloneSender 0 0) false
      ∷ wants (StartSend 0 0 5) true
      ∷ wants (DropSender 0) false
      ∷ does (DowngradeSender 0 0) Done
      ∷ does (DowngradeReceiver 0 0) Done
      ∷ wants (UpgradeSender 0 1) true
      ∷ wants (UpgradeReceiver 0 1) true
      ∷ does (Close (Sender 0)) (Flag true)
      ∷ wants (UpgradeSender 0 1) false
      ∷ wants (UpgradeReceiver 0 1) false
      ∷ wants (CloneWeakReceiver 0 1) true
      ∷ [];
}

row_names_and_memory : IsRow names_and_memory
row_names_and_memory = refl

legal_names_and_memory : EndsLegal names_and_memory
legal_names_and_memory = legal names_and_memory refl

-- a bounded channel wants memory for those who begin to wait alone
abbrev pub waits_of_a_bounded_channel : Row
waits_of_a_bounded_channel = record {
  kind = Bounded 1;
  lines =
      wants (TrySend 0 1) false
      ∷ wants (ForceSend 0 1) false
      ∷ wants (PollNext 0) true
      ∷ does (PollNext 0) (NextPolled Pending)
      ∷ wants (PollNext 0) false
      ∷ does (TrySend 0 1) (TrySent (Ok tt))
      ∷ does (StartClosed 1 0) Done
      ∷ wants (Poll 1) true
      ∷ does (Poll 1) (ClosedPolled Pending)
      ∷ wants (Poll 1) false
      ∷ does (StartSend 0 0 5) Done
      ∷ wants (Poll 0) true
      ∷ does (Poll 0) (SendPolled Pending)
      ∷ wants (Poll 0) false
      ∷ does (TryRecv 0) (Received (Ok 1))
      ∷ does (Poll 0) (SendPolled (Ready (Ok tt)))
      ∷ wants (Poll 0) false
      ∷ does (StartSend 2 0 6) Done
      ∷ does (TryRecv 0) (Received (Ok 5))
      ∷ wants (Poll 2) false
      ∷ [];
}

row_waits_of_a_bounded_channel : IsRow waits_of_a_bounded_channel
row_waits_of_a_bounded_channel = refl

legal_waits_of_a_bounded_channel : EndsLegal waits_of_a_bounded_channel
legal_waits_of_a_bounded_channel = legal waits_of_a_bounded_channel refl

-- an open unbounded channel wants memory for messages, too
abbrev pub messages_of_an_unbounded_channel : Row
messages_of_an_unbounded_channel = record {
  kind = Unbounded;
  lines =
      wants (TrySend 0 5) true
      ∷ wants (TrySend 1 5) false
      ∷ wants (ForceSend 0 5) true
      ∷ does (StartRecv 0 0) Done
      ∷ wants (Poll 0) true
      ∷ does (Poll 0) (RecvPolled Pending)
      ∷ wants (Poll 0) false
      ∷ does (TrySend 0 5) (TrySent (Ok tt))
      ∷ does (TryRecv 0) (Received (Ok 5))
      ∷ notes (Op 0) Told
      ∷ wants (Poll 0) false
      ∷ does (StartSend 1 0 6) Done
      ∷ wants (Poll 1) true
      ∷ does (Close (Sender 0)) (Flag true)
      ∷ wants (Poll 1) false
      ∷ wants (TrySend 0 7) false
      ∷ wants (ForceSend 0 7) false
      ∷ [];
}

row_messages_of_an_unbounded_channel : IsRow messages_of_an_unbounded_channel
row_messages_of_an_unbounded_channel = refl

legal_messages_of_an_unbounded_channel : EndsLegal messages_of_an_unbounded_channel
legal_messages_of_an_unbounded_channel = legal messages_of_an_unbounded_channel refl
