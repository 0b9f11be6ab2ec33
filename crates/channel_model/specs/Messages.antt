-- Which messages went into a channel, came out of it and are in it.
use Rattle.std.specs.Prelude.{List, [], ◌∷◌, ◌++◌, Option, Some, None, Ok, length, drop, slice_get}
use Rattle.futures.specs.declared.task.Poll.TheVariants.{Ready}
use Rattle.channel_model.specs.declared.step.Step.{Step}
use Rattle.channel_model.specs.declared.step.Step.TheVariants.{TrySend, ForceSend, StartSend, Poll}
use Rattle.channel_model.specs.declared.step.Reply.{Reply}
use Rattle.channel_model.specs.declared.step.Reply.TheVariants.{TrySent, Forced, Received, SendPolled, RecvPolled, NextPolled}
use Rattle.channel_model.specs.Past.{Past}
use Rattle.channel_model.specs.Operations.{Operations, live_operations, message_among}

-- The message that a step brings, and gets back if it is refused.
abbrev pub message_in : {T : Type 0} → Step T → Option T
message_in (TrySend sender message) = Some message
message_in (ForceSend sender message) = Some message
message_in (StartSend op sender message) = Some message
message_in step = None

-- The message that a step with this reply put in, beside these live operations: sent at once,
-- forced in, or sent by a poll.
abbrev pub accepted_by : {T : Type 0} → Operations T → Step T → Reply T → Option T
accepted_by operations (TrySend sender message) (TrySent (Ok done)) = Some message
accepted_by operations (ForceSend sender message) (Forced (Ok displaced)) = Some message
accepted_by operations (Poll op) (SendPolled (Ready (Ok done))) = message_among operations op
accepted_by operations step reply = None

-- The message that a receiver got: at once, by a poll of a receive, or by a poll of a stream.
abbrev pub received_by : {T : Type 0} → Reply T → Option T
received_by (Received (Ok message)) = Some message
received_by (RecvPolled (Ready (Ok message))) = Some message
received_by (NextPolled (Ready (Some message))) = Some message
received_by reply = None

-- The message that a step with this reply took out: one that was received, or one that a forced
-- message displaced, and that went back to its sender.
abbrev pub taken_by : {T : Type 0} → Reply T → Option T
taken_by (Forced (Ok displaced)) = displaced
taken_by reply = received_by reply

-- the list, and behind it this one if there is one
abbrev pub with_last : {T : Type 0} → List T → Option T → List T
with_last items None = items
with_last items (Some last) = items ++ last ∷ []

-- The messages that were accepted, in order.
abbrev pub accepted_messages : {T : Type 0} → Past T → List T
accepted_messages [] = []
accepted_messages ((step, reply) ∷ past) =
    with_last (accepted_messages past) (accepted_by (live_operations past) step reply)

-- The messages that were received or displaced, in order.
abbrev pub taken_messages : {T : Type 0} → Past T → List T
taken_messages [] = []
taken_messages ((step, reply) ∷ past) = with_last (taken_messages past) (taken_by reply)

-- The messages in the channel: those accepted, without as many of the first as were taken.
abbrev pub held_messages : {T : Type 0} → Past T → List T
held_messages past = drop (length (taken_messages past)) (accepted_messages past)

-- the first of them, if there is one
abbrev pub oldest_message : {T : Type 0} → Past T → Option T
oldest_message past = slice_get (held_messages past) 0
