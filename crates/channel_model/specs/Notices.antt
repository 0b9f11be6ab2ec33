-- The rule of notices: who waits after a past, and who of them was told.
use Rattle.std.specs.Prelude.{ℕ, List, [], ◌∷◌, Option, Some, None, Bool, true, false, if◌then◌else◌}
use Rattle.futures.specs.declared.task.Poll.TheVariants.{Ready, Pending}
use Rattle.channel_model.specs.declared.step.Who.{Who}
use Rattle.channel_model.specs.declared.step.Who.TheVariants.{Op, Receiver}
use Rattle.channel_model.specs.declared.step.Notice.{Notice}
use Rattle.channel_model.specs.declared.step.Step.{Step}
use Rattle.channel_model.specs.declared.step.Step.TheVariants.{Poll, PollNext, DropOp, DropReceiver}
use Rattle.channel_model.specs.declared.step.Reply.{Reply}
use Rattle.channel_model.specs.declared.step.Reply.TheVariants.{SendPolled, RecvPolled, ClosedPolled, NextPolled}
use Rattle.event_list.specs.Keys.{is_among}
use Rattle.channel_model.specs.Past.{Past}
use Rattle.channel_model.specs.Operations.{Operations, is_finished_send, live_operations, operation_in}
use Rattle.channel_model.specs.Messages.{accepted_by, received_by}
use Rattle.channel_model.specs.Handles.{live_names, Receivers}
use Rattle.channel_model.specs.Closing.{has_none, is_closed}
use Rattle.channel_model.specs.Rosters.{Rosters, hand_on, in_closeds, in_receives, in_sends, in_streams, leave, nobody, notice_in, polled, tell_all, tell_one, wait}

-- ---- First the entry of the one who acts is moved.

-- Whose poll is ready leaves. Whose poll is pending goes last, untold, or keeps its place if it
-- waits untold already; for a finished send nothing changes. Whoever is given up leaves, and a told
-- send or receive hands its notice on. With a receiver its stream leaves.
abbrev pub after_own_move : {T : Type 0} → Operations T → Step T → Reply T → Rosters → Rosters
after_own_move operations (Poll op) (SendPolled (Ready result)) all = in_sends (leave op) all
after_own_move operations (Poll op) (SendPolled Pending) all =
    if is_finished_send (operation_in operations op) then all else in_sends (wait op) all
after_own_move operations (Poll op) (RecvPolled poll) all = in_receives (polled poll op) all
after_own_move operations (Poll op) (ClosedPolled poll) all = in_closeds (polled poll op) all
after_own_move operations (PollNext name) (NextPolled poll) all = in_streams (polled poll name) all
after_own_move operations (DropOp op) reply all =
    in_sends (hand_on op) (in_receives (hand_on op) (in_closeds (leave op) all))
after_own_move operations (DropReceiver receiver) reply all = in_streams (leave receiver) all
after_own_move operations step reply all = all

-- ---- Then the others are told.

-- A message was accepted: one receive and all streams are told.
abbrev pub after_accepting : {T : Type 0} → (accepted : Option T) → Rosters → Rosters
after_accepting (Some message) all = in_receives tell_one (in_streams tell_all all)
after_accepting None all = all

-- A message was received: one send is told. A displaced message leaves no place free and tells no
-- send; the forced one, for which it made room, was accepted and tells one receive and all streams.
abbrev pub after_receiving : {T : Type 0} → (received : Option T) → Rosters → Rosters
after_receiving (Some message) all = in_sends tell_one all
after_receiving None all = all

-- The step closed the channel, by hand or with the last handle of a side: all sends, receives and
-- streams are told.
abbrev pub after_closing : (closed_before closed_now : Bool) → Rosters → Rosters
after_closing false true all = in_sends tell_all (in_receives tell_all (in_streams tell_all all))
after_closing before now all = all

-- The step ended the last receiver: all closed operations are told, also if the channel was
-- closed before.
abbrev pub after_last_receiver : (none_before none_now : Bool) → Rosters → Rosters
after_last_receiver false true all = in_closeds tell_all all
after_last_receiver before now all = all

-- First the own entry is moved; then a message that was accepted or received tells.
abbrev pub after_messages : {T : Type 0} → Operations T → Step T → Reply T → Rosters → Rosters
after_messages operations step reply all =
    after_receiving (received_by reply) (after_accepting (accepted_by operations step reply)
    (after_own_move operations step reply all))

-- Then the closing of the channel tells, and the end of the last of these receivers.
abbrev pub after_ending : (closed_before closed_now : Bool)
    → (receivers_before receivers_now : List ℕ) → Rosters → Rosters
after_ending closed_before closed_now receivers_before receivers_now all =
    after_last_receiver (has_none receivers_before) (has_none receivers_now)
    (after_closing closed_before closed_now all)

-- Who waits after this past, and who was told. On a new channel nobody waits.
abbrev pub rosters : {T : Type 0} → Past T → Rosters
rosters [] = record { sends = nobody; receives = nobody; streams = nobody; closeds = nobody }
rosters ((step, reply) ∷ past) =
    after_ending (is_closed past) (is_closed ((step, reply) ∷ past))
    (live_names Receivers past) (live_names Receivers ((step, reply) ∷ past))
    (after_messages (live_operations past) step reply (rosters past))

-- Whether somebody waits, and was told. An operation is in one roster at most.
abbrev pub notice_of : {T : Type 0} → Past T → Who → Notice
notice_of past (Op op) =
    if is_among op (rosters past).sends.names then notice_in op (rosters past).sends
    else if is_among op (rosters past).receives.names then notice_in op (rosters past).receives
    else notice_in op (rosters past).closeds
notice_of past (Receiver receiver) = notice_in receiver (rosters past).streams
