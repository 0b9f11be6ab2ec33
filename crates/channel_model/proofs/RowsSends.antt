-- Worked rows of sends and receives.
use Rattle.std.specs.Prelude.{refl, [], ◌∷◌, Ok, Err, Some, None, true, false}
use Rattle.futures.specs.declared.task.Poll.TheVariants.{Ready, Pending}
use Rattle.channel_core.specs.declared.errors.TrySendError.TheVariants.{Full, Closed}
use Rattle.channel_core.specs.declared.errors.TryRecvError.TheVariants.{Closed}
use Rattle.channel_model.specs.declared.step.Kind.TheVariants.{Bounded, Unbounded}
use Rattle.channel_model.specs.declared.step.Side.TheVariants.{Sender, Receiver}
use Rattle.channel_model.specs.declared.step.Who.TheVariants.{Op}
use Rattle.channel_model.specs.declared.step.Notice.TheVariants.{Absent, Told}
use Rattle.channel_model.specs.declared.step.Refusal.TheVariants.{Unknown}
use Rattle.channel_model.specs.declared.step.Step.TheVariants.{TrySend, ForceSend, TryRecv, Close, IsClosed, IsEmpty, IsFull, IsTerminated, Len, Capacity, DropReceiver, StartSend, StartRecv, Poll, DropOp}
use Rattle.channel_model.specs.declared.step.Reply.TheVariants.{TrySent, Forced, Received, Flag, Count, Capacity, Done, SendPolled, RecvPolled, Refused}
use Rattle.channel_core.specs.Tables.{send_error}
use Rattle.channel_model.proofs.Script.{does, notes, Row, IsRow, EndsLegal}
use Rattle.channel_model.proofs.ScriptLemmas.{legal}

-- documentation of try_send
abbrev pub documentation_of_try_send : Row
documentation_of_try_send = record {
  kind = Bounded 1;
  lines =
      does (TrySend 0 1) (TrySent (Ok tt))
      ∷ does (TrySend 0 2) (TrySent (Err (Full 2)))
      ∷ does (DropReceiver 0) Done
      ∷ does (TrySend 0 3) (TrySent (Err (Closed 3)))
      ∷ [];
}

row_documentation_of_try_send : IsRow documentation_of_try_send
row_documentation_of_try_send = refl

legal_documentation_of_try_send : EndsLegal documentation_of_try_send
legal_documentation_of_try_send = legal documentation_of_try_send refl

-- documentation of force_send
abbrev pub documentation_of_force_send : Row
documentation_of_force_send = record {
  kind = Bounded 3;
  lines =
      does (TrySend 0 1) (TrySent (Ok tt))
      ∷ does (TrySend 0 2) (TrySent (Ok tt))
      ∷ does (ForceSend 0 3) (Forced (Ok None))
      ∷ does (ForceSend 0 4) (Forced (Ok (Some 1)))
      ∷ does (TryRecv 0) (Received (Ok 2))
      ∷ does (TryRecv 0) (Received (Ok 3))
      ∷ does (TryRecv 0) (Received (Ok 4))
      ∷ [];
}

row_documentation_of_force_send : IsRow documentation_of_force_send
row_documentation_of_force_send = refl

legal_documentation_of_force_send : EndsLegal documentation_of_force_send
legal_documentation_of_force_send = legal documentation_of_force_send refl

-- closed before full
abbrev pub closed_before_full : Row
closed_before_full = record {
  kind = Bounded 1;
  lines =
      does (TrySend 0 1) (TrySent (Ok tt))
      ∷ does (Close (Sender 0)) (Flag true)
      ∷ does (Close (Receiver 0)) (Flag false)
      ∷ does (TrySend 0 2) (TrySent (Err (Closed 2)))
      ∷ does (TryRecv 0) (Received (Ok 1))
      ∷ does (TryRecv 0) (Received (Err Closed))
      ∷ [];
}

row_closed_before_full : IsRow closed_before_full
row_closed_before_full = refl

legal_closed_before_full : EndsLegal closed_before_full
legal_closed_before_full = legal closed_before_full refl

-- a finished send
abbrev pub a_finished_send : Row
a_finished_send = record {
  kind = Bounded 1;
  lines =
      does (StartSend 0 0 7) Done
      ∷ does (Poll 0) (SendPolled (Ready (Ok tt)))
      ∷ does (Poll 0) (SendPolled Pending)
      ∷ notes (Op 0) Absent
      ∷ does (Len (Sender 0)) (Count 1)
      ∷ [];
}

row_a_finished_send : IsRow a_finished_send
row_a_finished_send = refl

legal_a_finished_send : EndsLegal a_finished_send
legal_a_finished_send = legal a_finished_send refl

-- a finished receive acts as new
abbrev pub a_finished_receive_acts_as_new : Row
a_finished_receive_acts_as_new = record {
  kind = Unbounded;
  lines =
      does (TrySend 0 1) (TrySent (Ok tt))
      ∷ does (TrySend 0 2) (TrySent (Ok tt))
      ∷ does (StartRecv 0 0) Done
      ∷ does (Poll 0) (RecvPolled (Ready (Ok 1)))
      ∷ does (Poll 0) (RecvPolled (Ready (Ok 2)))
      ∷ does (Poll 0) (RecvPolled Pending)
      ∷ [];
}

row_a_finished_receive_acts_as_new : IsRow a_finished_receive_acts_as_new
row_a_finished_receive_acts_as_new = refl

legal_a_finished_receive_acts_as_new : EndsLegal a_finished_receive_acts_as_new
legal_a_finished_receive_acts_as_new = legal a_finished_receive_acts_as_new refl

-- sends given up in each state
abbrev pub sends_given_up_in_each_state : Row
sends_given_up_in_each_state = record {
  kind = Bounded 1;
  lines =
      does (TrySend 0 1) (TrySent (Ok tt))
      ∷ does (StartSend 0 0 2) Done
      ∷ does (DropOp 0) Done
      ∷ does (StartSend 1 0 3) Done
      ∷ does (Poll 1) (SendPolled Pending)
      ∷ does (DropOp 1) Done
      ∷ does (StartSend 2 0 4) Done
      ∷ does (Poll 2) (SendPolled Pending)
      ∷ does (StartSend 3 0 5) Done
      ∷ does (Poll 3) (SendPolled Pending)
      ∷ does (TryRecv 0) (Received (Ok 1))
      ∷ notes (Op 2) Told
      ∷ does (Close (Sender 0)) (Flag true)
      ∷ does (DropOp 2) Done
      ∷ notes (Op 3) Told
      ∷ does (Poll 3) (SendPolled (Ready (Err (send_error 5))))
      ∷ does (Poll 3) (SendPolled Pending)
      ∷ does (DropOp 3) Done
      ∷ does (Poll 3) (Refused Unknown None)
      ∷ does (Len (Receiver 0)) (Count 0)
      ∷ does (IsTerminated 0) (Flag true)
      ∷ [];
}

row_sends_given_up_in_each_state : IsRow sends_given_up_in_each_state
row_sends_given_up_in_each_state = refl

legal_sends_given_up_in_each_state : EndsLegal sends_given_up_in_each_state
legal_sends_given_up_in_each_state = legal sends_given_up_in_each_state refl

-- the recorder's calls
abbrev pub the_recorder_calls : Row
the_recorder_calls = record {
  kind = Bounded 1;
  lines =
      does (TrySend 0 1) (TrySent (Ok tt))
      ∷ does (TrySend 0 2) (TrySent (Err (Full 2)))
      ∷ does (TryRecv 0) (Received (Ok 1))
      ∷ does (Close (Sender 0)) (Flag true)
      ∷ does (Close (Sender 0)) (Flag false)
      ∷ [];
}

row_the_recorder_calls : IsRow the_recorder_calls
row_the_recorder_calls = refl

legal_the_recorder_calls : EndsLegal the_recorder_calls
legal_the_recorder_calls = legal the_recorder_calls refl

-- a book without calls
abbrev pub a_book_without_calls : Row
a_book_without_calls = record {
  kind = Unbounded;
  lines =
      does (ForceSend 0 1) (Forced (Ok None))
      ∷ does (Len (Sender 0)) (Count 1)
      ∷ does (IsClosed (Sender 0)) (Flag false)
      ∷ [];
}

row_a_book_without_calls : IsRow a_book_without_calls
row_a_book_without_calls = refl

legal_a_book_without_calls : EndsLegal a_book_without_calls
legal_a_book_without_calls = legal a_book_without_calls refl

-- a forced send on a new bounded channel
abbrev pub a_forced_send_on_a_new_bounded_channel : Row
a_forced_send_on_a_new_bounded_channel = record {
  kind = Bounded 1;
  lines =
      does (ForceSend 0 1) (Forced (Ok None))
      ∷ [];
}

row_a_forced_send_on_a_new_bounded_channel : IsRow a_forced_send_on_a_new_bounded_channel
row_a_forced_send_on_a_new_bounded_channel = refl

legal_a_forced_send_on_a_new_bounded_channel : EndsLegal a_forced_send_on_a_new_bounded_channel
legal_a_forced_send_on_a_new_bounded_channel = legal a_forced_send_on_a_new_bounded_channel refl

-- the largest message
abbrev pub the_largest_message : Row
the_largest_message = record {
  kind = Unbounded;
  lines =
      does (TrySend 0 18446744073709551615) (TrySent (Ok tt))
      ∷ does (TryRecv 0) (Received (Ok 18446744073709551615))
      ∷ [];
}

row_the_largest_message : IsRow the_largest_message
row_the_largest_message = refl

legal_the_largest_message : EndsLegal the_largest_message
legal_the_largest_message = legal the_largest_message refl

-- the capacity of a bounded channel
abbrev pub the_capacity_of_a_bounded_channel : Row
the_capacity_of_a_bounded_channel = record {
  kind = Bounded 2;
  lines =
      does (Capacity (Receiver 0)) (Capacity (Some 2))
      ∷ [];
}

row_the_capacity_of_a_bounded_channel : IsRow the_capacity_of_a_bounded_channel
row_the_capacity_of_a_bounded_channel = refl

legal_the_capacity_of_a_bounded_channel : EndsLegal the_capacity_of_a_bounded_channel
legal_the_capacity_of_a_bounded_channel = legal the_capacity_of_a_bounded_channel refl

-- the capacity of an unbounded channel
abbrev pub the_capacity_of_an_unbounded_channel : Row
the_capacity_of_an_unbounded_channel = record {
  kind = Unbounded;
  lines =
      does (Capacity (Sender 0)) (Capacity None)
      ∷ does (Len (Sender 0)) (Count 0)
      ∷ does (IsFull (Sender 0)) (Flag false)
      ∷ [];
}

row_the_capacity_of_an_unbounded_channel : IsRow the_capacity_of_an_unbounded_channel
row_the_capacity_of_an_unbounded_channel = refl

legal_the_capacity_of_an_unbounded_channel : EndsLegal the_capacity_of_an_unbounded_channel
legal_the_capacity_of_an_unbounded_channel = legal the_capacity_of_an_unbounded_channel refl

-- a bounded core takes no memory
abbrev pub a_bounded_core_takes_no_memory : Row
a_bounded_core_takes_no_memory = record {
  kind = Bounded 2;
  lines =
      does (StartRecv 0 0) Done
      ∷ does (Poll 0) (RecvPolled Pending)
      ∷ does (TrySend 0 1) (TrySent (Ok tt))
      ∷ does (TrySend 0 2) (TrySent (Ok tt))
      ∷ does (TrySend 0 3) (TrySent (Err (Full 3)))
      ∷ does (StartSend 1 0 5) Done
      ∷ does (ForceSend 0 4) (Forced (Ok (Some 1)))
      ∷ does (Poll 0) (RecvPolled (Ready (Ok 2)))
      ∷ does (Poll 1) (SendPolled (Ready (Ok tt)))
      ∷ does (Close (Sender 0)) (Flag true)
      ∷ does (TryRecv 0) (Received (Ok 4))
      ∷ does (TryRecv 0) (Received (Ok 5))
      ∷ does (TryRecv 0) (Received (Err Closed))
      ∷ [];
}

row_a_bounded_core_takes_no_memory : IsRow a_bounded_core_takes_no_memory
row_a_bounded_core_takes_no_memory = refl

legal_a_bounded_core_takes_no_memory : EndsLegal a_bounded_core_takes_no_memory
legal_a_bounded_core_takes_no_memory = legal a_bounded_core_takes_no_memory refl

-- each send has its own message
abbrev pub each_send_has_its_own_message : Row
each_send_has_its_own_message = record {
  kind = Bounded 2;
  lines =
      does (StartSend 0 0 5) Done
      ∷ does (StartSend 1 0 6) Done
      ∷ does (Poll 0) (SendPolled (Ready (Ok tt)))
      ∷ does (Poll 1) (SendPolled (Ready (Ok tt)))
      ∷ does (TryRecv 0) (Received (Ok 5))
      ∷ does (TryRecv 0) (Received (Ok 6))
      ∷ [];
}

row_each_send_has_its_own_message : IsRow each_send_has_its_own_message
row_each_send_has_its_own_message = refl

legal_each_send_has_its_own_message : EndsLegal each_send_has_its_own_message
legal_each_send_has_its_own_message = legal each_send_has_its_own_message refl

-- a closed channel that is full
abbrev pub a_closed_channel_that_is_full : Row
a_closed_channel_that_is_full = record {
  kind = Bounded 1;
  lines =
      does (TrySend 0 1) (TrySent (Ok tt))
      ∷ does (Close (Sender 0)) (Flag true)
      ∷ does (IsFull (Sender 0)) (Flag true)
      ∷ does (IsEmpty (Receiver 0)) (Flag false)
      ∷ does (Len (Sender 0)) (Count 1)
      ∷ does (Capacity (Receiver 0)) (Capacity (Some 1))
      ∷ [];
}

row_a_closed_channel_that_is_full : IsRow a_closed_channel_that_is_full
row_a_closed_channel_that_is_full = refl

legal_a_closed_channel_that_is_full : EndsLegal a_closed_channel_that_is_full
legal_a_closed_channel_that_is_full = legal a_closed_channel_that_is_full refl
