-- Which operations are live, what each borrows, and which sends still have their message.
use Rattle.std.specs.Prelude.{ℕ, List, [], ◌∷◌, Option, Some, None, Bool, true, false, not, ◌==◌, if◌then◌else◌, filter, find, map, option_map, option_and_then}
use Rattle.futures.specs.declared.task.Poll.TheVariants.{Ready}
use Rattle.channel_model.specs.declared.step.Step.{Step}
use Rattle.channel_model.specs.declared.step.Step.TheVariants.{StartSend, StartRecv, StartClosed, Poll, DropOp}
use Rattle.channel_model.specs.declared.step.Reply.{Reply}
use Rattle.channel_model.specs.declared.step.Reply.TheVariants.{SendPolled}
use Rattle.channel_model.specs.Past.{Past, made_by}

-- A send, a receive or a closed operation, with the handle that it borrows until it is given up.
-- A send has its message until a poll of it was answered ready: without a message it is finished.
pub data Operation (T : Type 0) : Type 0 where
  sending : (sender : ℕ) (message : Option T) → Operation T
  receiving : (receiver : ℕ) → Operation T
  awaiting_close : (sender : ℕ) → Operation T

-- Behind a ready poll a send has no message any more. It goes on borrowing.
abbrev pub finished : {T : Type 0} → Operation T → Operation T
finished (sending sender message) = sending sender None
finished operation = operation

-- operations, each with its name
abbrev pub Operations : Type 0 → Type 0
Operations T = List (ℕ × Operation T)

-- the operations but the one of this name
abbrev pub without_operation : {T : Type 0} → ℕ → Operations T → Operations T
without_operation op operations = filter (λ entry. not (entry.0 == op)) operations

-- the operations, of which the one of this name has finished
abbrev pub with_finished : {T : Type 0} → ℕ → Operations T → Operations T
with_finished op operations =
    map (λ entry. if entry.0 == op then (entry.0, finished entry.1) else entry) operations

-- What a step with this reply makes of the operations that were live before it: one that is started
-- is live, a send whose poll was ready has finished, and one that is given up isn't live.
abbrev pub operations_after : {T : Type 0} → Step T → Reply T → Operations T → Operations T
operations_after (StartSend op sender message) reply operations =
    (op, sending sender (Some message)) ∷ operations
operations_after (StartRecv op receiver) reply operations = (op, receiving receiver) ∷ operations
operations_after (StartClosed op sender) reply operations = (op, awaiting_close sender) ∷ operations
operations_after (Poll op) (SendPolled (Ready result)) operations = with_finished op operations
operations_after (DropOp op) reply operations = without_operation op operations
operations_after step reply operations = operations

-- The operations that were started and not given up since, each with its name. A new channel has
-- none.
abbrev pub live_operations : {T : Type 0} → Past T → Operations T
live_operations past = made_by operations_after [] past

-- the operation of this name among these, if there is one
abbrev pub operation_in : {T : Type 0} → Operations T → ℕ → Option (Operation T)
operation_in operations op =
    option_map (λ entry. entry.1) (find (λ entry. entry.0 == op) operations)

-- The operation of this name, if one is live.
abbrev pub operation_of : {T : Type 0} → Past T → ℕ → Option (Operation T)
operation_of past op = operation_in (live_operations past) op

-- the message that a send still has
abbrev pub unsent_message : {T : Type 0} → Operation T → Option T
unsent_message (sending sender message) = message
unsent_message operation = None

-- the message of the send of this name among these, if there is one that has not finished
abbrev pub message_among : {T : Type 0} → Operations T → ℕ → Option T
message_among operations op = option_and_then unsent_message (operation_in operations op)

-- The message of the send of this name, if one is live and not finished.
abbrev pub message_of : {T : Type 0} → Past T → ℕ → Option T
message_of past op = message_among (live_operations past) op

-- ---- what an operation is

-- a send that has its message still
abbrev pub is_unsent : {T : Type 0} → Option (Operation T) → Bool
is_unsent (Some (sending sender (Some message))) = true
is_unsent operation = false

-- a send that was answered
abbrev pub is_finished_send : {T : Type 0} → Option (Operation T) → Bool
is_finished_send (Some (sending sender None)) = true
is_finished_send operation = false

-- a receive
abbrev pub is_receive : {T : Type 0} → Option (Operation T) → Bool
is_receive (Some (receiving receiver)) = true
is_receive operation = false

-- an operation that waits for the last receiver
abbrev pub is_awaiting : {T : Type 0} → Option (Operation T) → Bool
is_awaiting (Some (awaiting_close sender)) = true
is_awaiting operation = false

-- ---- what an operation borrows

-- a send or a closed operation borrows this sender, also after it finished
abbrev pub borrows_sender : {T : Type 0} → ℕ → Operation T → Bool
borrows_sender name (sending sender message) = sender == name
borrows_sender name (awaiting_close sender) = sender == name
borrows_sender name (receiving receiver) = false

-- a receive borrows this receiver
abbrev pub borrows_receiver : {T : Type 0} → ℕ → Operation T → Bool
borrows_receiver name (receiving receiver) = receiver == name
borrows_receiver name operation = false
