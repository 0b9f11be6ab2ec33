-- The original's tests, in which the order of the steps is given.
use Rattle.std.specs.Prelude.{refl, [], ◌∷◌, Ok, Some, None}
use Rattle.futures.specs.declared.task.Poll.TheVariants.{Ready, Pending}
use Rattle.channel_model.specs.declared.step.Kind.TheVariants.{Bounded}
use Rattle.channel_model.specs.declared.step.Who.TheVariants.{Op}
use Rattle.channel_model.specs.declared.step.Notice.TheVariants.{Told}
use Rattle.channel_model.specs.declared.step.Step.TheVariants.{TrySend, ForceSend, TryRecv, CloneSender, CloneReceiver, DropReceiver, StartSend, StartRecv, StartClosed, Poll}
use Rattle.channel_model.specs.declared.step.Reply.TheVariants.{TrySent, Forced, Received, Done, SendPolled, RecvPolled, ClosedPolled}
use Rattle.channel_model.proofs.Script.{does, notes, Row, IsRow, EndsLegal}
use Rattle.channel_model.proofs.ScriptLemmas.{legal}

-- the test closed
abbrev pub the_test_closed : Row
the_test_closed = record {
  kind = Bounded 1;
  lines =
      does (StartSend 0 0 7) Done
      ∷ does (Poll 0) (SendPolled (Ready (Ok tt)))
      ∷ does (StartClosed 1 0) Done
      ∷ does (Poll 1) (ClosedPolled Pending)
      ∷ does (TryRecv 0) (Received (Ok 7))
      ∷ does (DropReceiver 0) Done
      ∷ does (Poll 1) (ClosedPolled (Ready tt))
      ∷ does (StartClosed 2 0) Done
      ∷ does (Poll 2) (ClosedPolled (Ready tt))
      ∷ [];
}

row_the_test_closed : IsRow the_test_closed
row_the_test_closed = refl

legal_the_test_closed : EndsLegal the_test_closed
legal_the_test_closed = legal the_test_closed refl

-- the test forget_blocked_sender
abbrev pub the_test_forget_blocked_sender : Row
the_test_forget_blocked_sender = record {
  kind = Bounded 2;
  lines =
      does (CloneSender 0 1) Done
      ∷ does (TrySend 0 3) (TrySent (Ok tt))
      ∷ does (TrySend 0 7) (TrySent (Ok tt))
      ∷ does (StartSend 0 0 13) Done
      ∷ does (Poll 0) (SendPolled Pending)
      ∷ does (StartSend 1 1 42) Done
      ∷ does (Poll 1) (SendPolled Pending)
      ∷ does (TryRecv 0) (Received (Ok 3))
      ∷ does (TryRecv 0) (Received (Ok 7))
      ∷ does (Poll 1) (SendPolled (Ready (Ok tt)))
      ∷ does (TryRecv 0) (Received (Ok 42))
      ∷ notes (Op 0) Told
      ∷ [];
}

row_the_test_forget_blocked_sender : IsRow the_test_forget_blocked_sender
row_the_test_forget_blocked_sender = refl

legal_the_test_forget_blocked_sender : EndsLegal the_test_forget_blocked_sender
legal_the_test_forget_blocked_sender = legal the_test_forget_blocked_sender refl

-- the test forget_blocked_receiver
abbrev pub the_test_forget_blocked_receiver : Row
the_test_forget_blocked_receiver = record {
  kind = Bounded 2;
  lines =
      does (CloneReceiver 0 1) Done
      ∷ does (StartRecv 0 0) Done
      ∷ does (Poll 0) (RecvPolled Pending)
      ∷ does (StartRecv 1 1) Done
      ∷ does (Poll 1) (RecvPolled Pending)
      ∷ does (StartSend 2 0 3) Done
      ∷ does (Poll 2) (SendPolled (Ready (Ok tt)))
      ∷ does (StartSend 3 0 7) Done
      ∷ does (Poll 3) (SendPolled (Ready (Ok tt)))
      ∷ notes (Op 1) Told
      ∷ does (Poll 1) (RecvPolled (Ready (Ok 3)))
      ∷ does (TrySend 0 42) (TrySent (Ok tt))
      ∷ notes (Op 0) Told
      ∷ [];
}

row_the_test_forget_blocked_receiver : IsRow the_test_forget_blocked_receiver
row_the_test_forget_blocked_receiver = refl

legal_the_test_forget_blocked_receiver : EndsLegal the_test_forget_blocked_receiver
legal_the_test_forget_blocked_receiver = legal the_test_forget_blocked_receiver refl

-- the test force_send
abbrev pub the_test_force_send : Row
the_test_force_send = record {
  kind = Bounded 1;
  lines =
      does (ForceSend 0 7) (Forced (Ok None))
      ∷ does (ForceSend 0 8) (Forced (Ok (Some 7)))
      ∷ does (StartRecv 0 0) Done
      ∷ does (Poll 0) (RecvPolled (Ready (Ok 8)))
      ∷ does (StartRecv 1 0) Done
      ∷ does (Poll 1) (RecvPolled Pending)
      ∷ does (ForceSend 0 9) (Forced (Ok None))
      ∷ does (Poll 1) (RecvPolled (Ready (Ok 9)))
      ∷ does (StartRecv 2 0) Done
      ∷ does (Poll 2) (RecvPolled Pending)
      ∷ does (ForceSend 0 10) (Forced (Ok None))
      ∷ does (Poll 2) (RecvPolled (Ready (Ok 10)))
      ∷ [];
}

row_the_test_force_send : IsRow the_test_force_send
row_the_test_force_send = refl

legal_the_test_force_send : EndsLegal the_test_force_send
legal_the_test_force_send = legal the_test_force_send refl
