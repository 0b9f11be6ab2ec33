-- Worked rows of those who wait, and whom each step tells.
use Rattle.std.specs.Prelude.{refl, [], ◌∷◌, Ok, Err, Some, None, true, false}
use Rattle.futures.specs.declared.task.Poll.TheVariants.{Ready, Pending}
use Rattle.channel_model.specs.declared.step.Kind.TheVariants.{Bounded, Unbounded}
use Rattle.channel_model.specs.declared.step.Side.TheVariants.{Sender, Receiver}
use Rattle.channel_model.specs.declared.step.Who.TheVariants.{Op, Receiver}
use Rattle.channel_model.specs.declared.step.Notice.TheVariants.{Absent, Untold, Told}
use Rattle.channel_model.specs.declared.step.Step.TheVariants.{TrySend, ForceSend, TryRecv, Close, IsTerminated, CloneReceiver, DropSender, DropReceiver, StartSend, StartRecv, StartClosed, Poll, PollNext, DropOp}
use Rattle.channel_model.specs.declared.step.Reply.TheVariants.{TrySent, Forced, Received, Flag, Done, SendPolled, RecvPolled, ClosedPolled, NextPolled}
use Rattle.channel_core.specs.Tables.{send_error}
use Rattle.channel_model.proofs.Script.{does, notes, able, Row, IsRow, EndsLegal}
use Rattle.channel_model.proofs.ScriptLemmas.{legal}

-- an untold one steals
abbrev pub an_untold_one_steals : Row
an_untold_one_steals = record {
  kind = Bounded 1;
  lines =
      does (StartRecv 0 0) Done
      ∷ does (StartRecv 1 0) Done
      ∷ does (Poll 0) (RecvPolled Pending)
      ∷ does (Poll 1) (RecvPolled Pending)
      ∷ does (TrySend 0 1) (TrySent (Ok tt))
      ∷ notes (Op 0) Told
      ∷ notes (Op 1) Untold
      ∷ does (Poll 1) (RecvPolled (Ready (Ok 1)))
      ∷ does (Poll 0) (RecvPolled Pending)
      ∷ notes (Op 0) Untold
      ∷ [];
}

row_an_untold_one_steals : IsRow an_untold_one_steals
row_an_untold_one_steals = refl

legal_an_untold_one_steals : EndsLegal an_untold_one_steals
legal_an_untold_one_steals = legal an_untold_one_steals refl

-- a notice handed on
abbrev pub a_notice_handed_on : Row
a_notice_handed_on = record {
  kind = Bounded 1;
  lines =
      does (TrySend 0 1) (TrySent (Ok tt))
      ∷ does (StartSend 0 0 2) Done
      ∷ does (StartSend 1 0 3) Done
      ∷ does (Poll 0) (SendPolled Pending)
      ∷ does (Poll 1) (SendPolled Pending)
      ∷ does (TryRecv 0) (Received (Ok 1))
      ∷ notes (Op 0) Told
      ∷ does (DropOp 0) Done
      ∷ notes (Op 1) Told
      ∷ does (Poll 1) (SendPolled (Ready (Ok tt)))
      ∷ does (TryRecv 0) (Received (Ok 3))
      ∷ [];
}

row_a_notice_handed_on : IsRow a_notice_handed_on
row_a_notice_handed_on = refl

legal_a_notice_handed_on : EndsLegal a_notice_handed_on
legal_a_notice_handed_on = legal a_notice_handed_on refl

-- a forced send tells no send
abbrev pub a_forced_send_tells_no_send : Row
a_forced_send_tells_no_send = record {
  kind = Bounded 1;
  lines =
      does (TrySend 0 1) (TrySent (Ok tt))
      ∷ does (StartSend 0 0 2) Done
      ∷ does (Poll 0) (SendPolled Pending)
      ∷ does (ForceSend 0 3) (Forced (Ok (Some 1)))
      ∷ notes (Op 0) Untold
      ∷ does (Poll 0) (SendPolled Pending)
      ∷ does (TryRecv 0) (Received (Ok 3))
      ∷ notes (Op 0) Told
      ∷ does (Poll 0) (SendPolled (Ready (Ok tt)))
      ∷ does (TryRecv 0) (Received (Ok 2))
      ∷ [];
}

row_a_forced_send_tells_no_send : IsRow a_forced_send_tells_no_send
row_a_forced_send_tells_no_send = refl

legal_a_forced_send_tells_no_send : EndsLegal a_forced_send_tells_no_send
legal_a_forced_send_tells_no_send = legal a_forced_send_tells_no_send refl

-- a told poll in vain loses its place
abbrev pub a_told_poll_in_vain_loses_its_place : Row
a_told_poll_in_vain_loses_its_place = record {
  kind = Unbounded;
  lines =
      does (StartRecv 0 0) Done
      ∷ does (StartRecv 1 0) Done
      ∷ does (Poll 0) (RecvPolled Pending)
      ∷ does (Poll 1) (RecvPolled Pending)
      ∷ does (TrySend 0 1) (TrySent (Ok tt))
      ∷ does (TryRecv 0) (Received (Ok 1))
      ∷ does (Poll 0) (RecvPolled Pending)
      ∷ does (TrySend 0 2) (TrySent (Ok tt))
      ∷ notes (Op 0) Untold
      ∷ notes (Op 1) Told
      ∷ does (Poll 1) (RecvPolled (Ready (Ok 2)))
      ∷ [];
}

row_a_told_poll_in_vain_loses_its_place : IsRow a_told_poll_in_vain_loses_its_place
row_a_told_poll_in_vain_loses_its_place = refl

legal_a_told_poll_in_vain_loses_its_place : EndsLegal a_told_poll_in_vain_loses_its_place
legal_a_told_poll_in_vain_loses_its_place = legal a_told_poll_in_vain_loses_its_place refl

-- a stream to its end
abbrev pub a_stream_to_its_end : Row
a_stream_to_its_end = record {
  kind = Unbounded;
  lines =
      does (TrySend 0 1) (TrySent (Ok tt))
      ∷ does (PollNext 0) (NextPolled (Ready (Some 1)))
      ∷ does (PollNext 0) (NextPolled Pending)
      ∷ notes (Receiver 0) Untold
      ∷ does (DropSender 0) Done
      ∷ notes (Receiver 0) Told
      ∷ does (PollNext 0) (NextPolled (Ready None))
      ∷ notes (Receiver 0) Absent
      ∷ does (IsTerminated 0) (Flag true)
      ∷ [];
}

row_a_stream_to_its_end : IsRow a_stream_to_its_end
row_a_stream_to_its_end = refl

legal_a_stream_to_its_end : EndsLegal a_stream_to_its_end
legal_a_stream_to_its_end = legal a_stream_to_its_end refl

-- a stream and a closed operation
abbrev pub a_stream_and_a_closed_operation : Row
a_stream_and_a_closed_operation = record {
  kind = Bounded 1;
  lines =
      does (StartClosed 0 0) Done
      ∷ does (Poll 0) (ClosedPolled Pending)
      ∷ does (PollNext 0) (NextPolled Pending)
      ∷ does (ForceSend 0 4) (Forced (Ok None))
      ∷ notes (Receiver 0) Told
      ∷ does (ForceSend 0 5) (Forced (Ok (Some 4)))
      ∷ does (PollNext 0) (NextPolled (Ready (Some 5)))
      ∷ notes (Receiver 0) Absent
      ∷ does (PollNext 0) (NextPolled Pending)
      ∷ does (Close (Sender 0)) (Flag true)
      ∷ notes (Receiver 0) Told
      ∷ notes (Op 0) Untold
      ∷ does (Poll 0) (ClosedPolled Pending)
      ∷ does (PollNext 0) (NextPolled (Ready None))
      ∷ [];
}

row_a_stream_and_a_closed_operation : IsRow a_stream_and_a_closed_operation
row_a_stream_and_a_closed_operation = refl

legal_a_stream_and_a_closed_operation : EndsLegal a_stream_and_a_closed_operation
legal_a_stream_and_a_closed_operation = legal a_stream_and_a_closed_operation refl

-- closed waits for the last receiver
abbrev pub closed_waits_for_the_last_receiver : Row
closed_waits_for_the_last_receiver = record {
  kind = Unbounded;
  lines =
      does (CloneReceiver 0 1) Done
      ∷ does (StartClosed 0 0) Done
      ∷ does (Poll 0) (ClosedPolled Pending)
      ∷ does (Close (Sender 0)) (Flag true)
      ∷ does (Poll 0) (ClosedPolled Pending)
      ∷ does (DropReceiver 0) Done
      ∷ notes (Op 0) Untold
      ∷ does (DropReceiver 1) Done
      ∷ notes (Op 0) Told
      ∷ does (Poll 0) (ClosedPolled (Ready tt))
      ∷ notes (Op 0) Absent
      ∷ [];
}

row_closed_waits_for_the_last_receiver : IsRow closed_waits_for_the_last_receiver
row_closed_waits_for_the_last_receiver = refl

legal_closed_waits_for_the_last_receiver : EndsLegal closed_waits_for_the_last_receiver
legal_closed_waits_for_the_last_receiver = legal closed_waits_for_the_last_receiver refl

-- closed between two polls
abbrev pub closed_between_two_polls : Row
closed_between_two_polls = record {
  kind = Bounded 1;
  lines =
      does (TrySend 0 1) (TrySent (Ok tt))
      ∷ does (StartSend 0 0 2) Done
      ∷ does (StartClosed 1 0) Done
      ∷ does (Poll 0) (SendPolled Pending)
      ∷ does (Poll 1) (ClosedPolled Pending)
      ∷ does (Close (Receiver 0)) (Flag true)
      ∷ does (Poll 0) (SendPolled (Ready (Err (send_error 2))))
      ∷ does (Poll 1) (ClosedPolled Pending)
      ∷ does (TryRecv 0) (Received (Ok 1))
      ∷ does (IsTerminated 0) (Flag true)
      ∷ does (DropReceiver 0) Done
      ∷ does (Poll 1) (ClosedPolled (Ready tt))
      ∷ [];
}

row_closed_between_two_polls : IsRow closed_between_two_polls
row_closed_between_two_polls = refl

legal_closed_between_two_polls : EndsLegal closed_between_two_polls
legal_closed_between_two_polls = legal closed_between_two_polls refl

-- a stream hands nothing on
abbrev pub a_stream_hands_nothing_on : Row
a_stream_hands_nothing_on = record {
  kind = Unbounded;
  lines =
      does (CloneReceiver 0 1) Done
      ∷ does (PollNext 0) (NextPolled Pending)
      ∷ does (PollNext 1) (NextPolled Pending)
      ∷ does (TrySend 0 1) (TrySent (Ok tt))
      ∷ does (TryRecv 0) (Received (Ok 1))
      ∷ does (PollNext 1) (NextPolled Pending)
      ∷ notes (Receiver 0) Told
      ∷ notes (Receiver 1) Untold
      ∷ does (DropReceiver 0) Done
      ∷ notes (Receiver 0) Absent
      ∷ notes (Receiver 1) Untold
      ∷ [];
}

row_a_stream_hands_nothing_on : IsRow a_stream_hands_nothing_on
row_a_stream_hands_nothing_on = refl

legal_a_stream_hands_nothing_on : EndsLegal a_stream_hands_nothing_on
legal_a_stream_hands_nothing_on = legal a_stream_hands_nothing_on refl

-- a notice goes to one, and who has none hands none on
abbrev pub a_notice_goes_to_one : Row
a_notice_goes_to_one = record {
  kind = Unbounded;
  lines =
      does (StartRecv 0 0) Done
      ∷ does (StartRecv 1 0) Done
      ∷ does (StartRecv 2 0) Done
      ∷ does (StartRecv 3 0) Done
      ∷ does (Poll 0) (RecvPolled Pending)
      ∷ does (Poll 1) (RecvPolled Pending)
      ∷ does (Poll 2) (RecvPolled Pending)
      ∷ does (Poll 3) (RecvPolled Pending)
      ∷ does (DropOp 0) Done
      ∷ notes (Op 1) Untold
      ∷ does (TrySend 0 1) (TrySent (Ok tt))
      ∷ notes (Op 1) Told
      ∷ does (DropOp 1) Done
      ∷ notes (Op 2) Told
      ∷ notes (Op 3) Untold
      ∷ [];
}

row_a_notice_goes_to_one : IsRow a_notice_goes_to_one
row_a_notice_goes_to_one = refl

legal_a_notice_goes_to_one : EndsLegal a_notice_goes_to_one
legal_a_notice_goes_to_one = legal a_notice_goes_to_one refl

-- an untold one keeps its place
abbrev pub an_untold_one_keeps_its_place : Row
an_untold_one_keeps_its_place = record {
  kind = Unbounded;
  lines =
      does (StartRecv 0 0) Done
      ∷ does (StartRecv 1 0) Done
      ∷ does (Poll 0) (RecvPolled Pending)
      ∷ does (Poll 1) (RecvPolled Pending)
      ∷ does (Poll 0) (RecvPolled Pending)
      ∷ does (TrySend 0 1) (TrySent (Ok tt))
      ∷ notes (Op 0) Told
      ∷ notes (Op 1) Untold
      ∷ [];
}

row_an_untold_one_keeps_its_place : IsRow an_untold_one_keeps_its_place
row_an_untold_one_keeps_its_place = refl

legal_an_untold_one_keeps_its_place : EndsLegal an_untold_one_keeps_its_place
legal_an_untold_one_keeps_its_place = legal an_untold_one_keeps_its_place refl

-- who waits and could go on
abbrev pub who_waits_and_could_go_on : Row
who_waits_and_could_go_on = record {
  kind = Bounded 1;
  lines =
      does (CloneReceiver 0 1) Done
      ∷ does (StartRecv 0 0) Done
      ∷ does (StartClosed 1 0) Done
      ∷ does (Poll 0) (RecvPolled Pending)
      ∷ does (Poll 1) (ClosedPolled Pending)
      ∷ does (PollNext 1) (NextPolled Pending)
      ∷ able (Op 0) false
      ∷ able (Receiver 1) false
      ∷ does (TrySend 0 1) (TrySent (Ok tt))
      ∷ able (Op 0) true
      ∷ able (Receiver 1) true
      ∷ able (Receiver 0) false
      ∷ does (StartSend 2 0 2) Done
      ∷ able (Op 2) false
      ∷ does (Poll 2) (SendPolled Pending)
      ∷ able (Op 2) false
      ∷ does (TryRecv 0) (Received (Ok 1))
      ∷ able (Op 2) true
      ∷ able (Op 0) false
      ∷ does (TrySend 0 3) (TrySent (Ok tt))
      ∷ does (Close (Sender 0)) (Flag true)
      ∷ able (Op 2) true
      ∷ does (TryRecv 0) (Received (Ok 3))
      ∷ able (Op 0) true
      ∷ able (Receiver 1) true
      ∷ able (Op 1) false
      ∷ does (DropOp 0) Done
      ∷ does (DropReceiver 0) Done
      ∷ does (DropReceiver 1) Done
      ∷ able (Op 1) true
      ∷ able (Receiver 1) false
      ∷ [];
}

row_who_waits_and_could_go_on : IsRow who_waits_and_could_go_on
row_who_waits_and_could_go_on = refl

legal_who_waits_and_could_go_on : EndsLegal who_waits_and_could_go_on
legal_who_waits_and_could_go_on = legal who_waits_and_could_go_on refl
