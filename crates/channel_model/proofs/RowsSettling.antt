-- Worked rows of settling.
use Rattle.std.specs.Prelude.{refl, [], ◌∷◌, Ok, Err, None, true}
use Rattle.futures.specs.declared.task.Poll.TheVariants.{Ready, Pending}
use Rattle.channel_model.specs.declared.step.Kind.TheVariants.{Bounded, Unbounded}
use Rattle.channel_model.specs.declared.step.Side.TheVariants.{Sender, Receiver}
use Rattle.channel_model.specs.declared.step.Who.TheVariants.{Op, Receiver}
use Rattle.channel_model.specs.declared.step.Notice.TheVariants.{Absent, Untold}
use Rattle.channel_model.specs.declared.step.Refusal.TheVariants.{Borrowed}
use Rattle.channel_model.specs.declared.step.Step.TheVariants.{TrySend, TryRecv, Close, IsEmpty, IsTerminated, CloneReceiver, DropReceiver, StartSend, StartRecv, StartClosed, Poll, PollNext}
use Rattle.channel_model.specs.declared.step.Reply.TheVariants.{TrySent, Received, Flag, Done, SendPolled, RecvPolled, ClosedPolled, NextPolled, Refused}
use Rattle.channel_core.specs.Tables.{send_error}
use Rattle.channel_model.proofs.Script.{does, notes, settles, Row, IsRow, EndsLegal}
use Rattle.channel_model.proofs.ScriptLemmas.{legal}

-- settling, the stream told in vain
abbrev pub settling_the_stream_told_in_vain : Row
settling_the_stream_told_in_vain = record {
  kind = Unbounded;
  lines =
      does (StartRecv 0 0) Done
      ∷ does (StartRecv 1 0) Done
      ∷ does (StartRecv 2 0) Done
      ∷ does (Poll 0) (RecvPolled Pending)
      ∷ does (Poll 1) (RecvPolled Pending)
      ∷ does (Poll 2) (RecvPolled Pending)
      ∷ does (CloneReceiver 0 1) Done
      ∷ does (PollNext 1) (NextPolled Pending)
      ∷ does (TrySend 0 1) (TrySent (Ok tt))
      ∷ settles 2 ((Op 0, RecvPolled (Ready (Ok 1))) ∷ [])
      ∷ notes (Op 1) Untold
      ∷ notes (Receiver 1) Untold
      ∷ does (IsEmpty (Sender 0)) (Flag true)
      ∷ [];
}

row_settling_the_stream_told_in_vain : IsRow settling_the_stream_told_in_vain
row_settling_the_stream_told_in_vain = refl

legal_settling_the_stream_told_in_vain : EndsLegal settling_the_stream_told_in_vain
legal_settling_the_stream_told_in_vain = legal settling_the_stream_told_in_vain refl

-- closing with every side
abbrev pub closing_with_every_side : Row
closing_with_every_side = record {
  kind = Bounded 1;
  lines =
      does (TrySend 0 1) (TrySent (Ok tt))
      ∷ does (StartSend 0 0 2) Done
      ∷ does (StartClosed 1 0) Done
      ∷ does (Poll 0) (SendPolled Pending)
      ∷ does (Poll 1) (ClosedPolled Pending)
      ∷ does (Close (Receiver 0)) (Flag true)
      ∷ settles 1 ((Op 0, SendPolled (Ready (Err (send_error 2)))) ∷ [])
      ∷ notes (Op 1) Untold
      ∷ does (TryRecv 0) (Received (Ok 1))
      ∷ does (IsTerminated 0) (Flag true)
      ∷ does (DropReceiver 0) Done
      ∷ settles 1 ((Op 1, ClosedPolled (Ready tt)) ∷ [])
      ∷ [];
}

row_closing_with_every_side : IsRow closing_with_every_side
row_closing_with_every_side = refl

legal_closing_with_every_side : EndsLegal closing_with_every_side
legal_closing_with_every_side = legal closing_with_every_side refl

-- the bound is reached
abbrev pub the_bound_is_reached : Row
the_bound_is_reached = record {
  kind = Bounded 1;
  lines =
      does (StartRecv 0 0) Done
      ∷ does (Poll 0) (RecvPolled Pending)
      ∷ does (TrySend 0 1) (TrySent (Ok tt))
      ∷ does (StartSend 1 0 2) Done
      ∷ does (Poll 1) (SendPolled Pending)
      ∷ does (TryRecv 0) (Received (Ok 1))
      ∷ settles 3 ((Op 1, SendPolled (Ready (Ok tt))) ∷ (Op 0, RecvPolled (Ready (Ok 2))) ∷ [])
      ∷ [];
}

row_the_bound_is_reached : IsRow the_bound_is_reached
row_the_bound_is_reached = refl

legal_the_bound_is_reached : EndsLegal the_bound_is_reached
legal_the_bound_is_reached = legal the_bound_is_reached refl

-- told in vain
abbrev pub told_in_vain : Row
told_in_vain = record {
  kind = Unbounded;
  lines =
      does (StartRecv 0 0) Done
      ∷ does (Poll 0) (RecvPolled Pending)
      ∷ does (TrySend 0 1) (TrySent (Ok tt))
      ∷ does (TryRecv 0) (Received (Ok 1))
      ∷ settles 1 []
      ∷ notes (Op 0) Untold
      ∷ settles 0 []
      ∷ [];
}

row_told_in_vain : IsRow told_in_vain
row_told_in_vain = refl

legal_told_in_vain : EndsLegal told_in_vain
legal_told_in_vain = legal told_in_vain refl

-- a stream beside a live receive
abbrev pub a_stream_beside_a_live_receive : Row
a_stream_beside_a_live_receive = record {
  kind = Unbounded;
  lines =
      does (PollNext 0) (NextPolled Pending)
      ∷ does (StartRecv 0 0) Done
      ∷ does (Poll 0) (RecvPolled Pending)
      ∷ does (TrySend 0 1) (TrySent (Ok tt))
      ∷ does (PollNext 0) (Refused Borrowed None)
      ∷ settles 2 ((Op 0, RecvPolled (Ready (Ok 1))) ∷ [])
      ∷ notes (Receiver 0) Untold
      ∷ [];
}

row_a_stream_beside_a_live_receive : IsRow a_stream_beside_a_live_receive
row_a_stream_beside_a_live_receive = refl

legal_a_stream_beside_a_live_receive : EndsLegal a_stream_beside_a_live_receive
legal_a_stream_beside_a_live_receive = legal a_stream_beside_a_live_receive refl

-- settling a stream and a closed operation
abbrev pub settling_a_stream_and_a_closed_operation : Row
settling_a_stream_and_a_closed_operation = record {
  kind = Bounded 1;
  lines =
      does (PollNext 0) (NextPolled Pending)
      ∷ does (StartClosed 0 0) Done
      ∷ does (Poll 0) (ClosedPolled Pending)
      ∷ does (Close (Sender 0)) (Flag true)
      ∷ settles 1 ((Receiver 0, NextPolled (Ready None)) ∷ [])
      ∷ notes (Receiver 0) Absent
      ∷ does (DropReceiver 0) Done
      ∷ settles 1 ((Op 0, ClosedPolled (Ready tt)) ∷ [])
      ∷ notes (Op 0) Absent
      ∷ [];
}

row_settling_a_stream_and_a_closed_operation : IsRow settling_a_stream_and_a_closed_operation
row_settling_a_stream_and_a_closed_operation = refl

legal_settling_a_stream_and_a_closed_operation : EndsLegal settling_a_stream_and_a_closed_operation
legal_settling_a_stream_and_a_closed_operation = legal settling_a_stream_and_a_closed_operation refl
