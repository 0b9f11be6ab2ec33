-- What a poll of a batch answers, and what it makes of the channel.
use Rattle.std.specs.Prelude.{ℕ, List, Option, Result, Ok, Err}
use Rattle.futures.specs.declared.task.Poll.{Poll}
use Rattle.futures.specs.declared.task.Poll.TheVariants.{Ready, Pending}
use Rattle.channel_core.specs.declared.errors.SendError.{SendError}
use Rattle.channel_core.specs.Tables.{send_error}
use Rattle.channel_core.specs.Channel.{Channel, Change}
use Rattle.channel_core.specs.Tickets.{left}
use Rattle.channel_core.specs.Batches.{received_many, sent_many}

-- the answer of a poll, with a number in the place of what it gives
abbrev pub counted_poll : {A : Type 0} → ℕ → Poll A → Poll ℕ
counted_poll number (Ready answer) = Ready number
counted_poll number Pending = Pending

-- the answer of a poll of a send, with a number in the place of what it gives, and no message in
-- its error
abbrev pub counted_send : {T : Type 0} → ℕ → Poll (Result (Unit {0}) (SendError T))
    → Poll (Result ℕ (SendError (Unit {0})))
counted_send number (Ready (Ok sent)) = Ready (Ok number)
counted_send number (Ready (Err error)) = Ready (Err (send_error tt))
counted_send number Pending = Pending

-- how many messages a poll of a batch of sends moved, by its answer
abbrev pub polled_count : {E D : Type 0} → Result (Poll (Result ℕ E)) D → ℕ
polled_count (Ok (Ready (Ok count))) = count
polled_count (Ok (Ready (Err error))) = 0
polled_count (Ok Pending) = 0
polled_count (Err error) = 0

module _ {T W : Type 0} where
  -- a receive's entry leaves, and then so many messages
  abbrev pub polled_receives : Option ℕ → ℕ → Channel T W → Change T W
  polled_receives ticket count channel =
      received_many count (record channel { receives = left ticket channel.receives })

  -- a send's entry leaves, and then each of these messages is sent
  abbrev pub polled_sends : Option ℕ → List T → Channel T W → Change T W
  polled_sends ticket messages channel =
      sent_many messages (record channel { sends = left ticket channel.sends })
