-- What a call answers, by what it looks at. No answer looks at who was told.
use Rattle.std.specs.Prelude.{⊤, Option, Some, None, Result, Ok, Err, Bool, true, false, ℕ, ◌^◌, ◌-◌}
use Rattle.futures.specs.declared.task.Poll.{Poll}
use Rattle.futures.specs.declared.task.Poll.TheVariants.{Ready, Pending}
use Rattle.channel_core.specs.declared.errors.SendError.{SendError}
use Rattle.channel_core.specs.declared.errors.TrySendError.{TrySendError}
use Rattle.channel_core.specs.declared.errors.TrySendError.TheVariants.{Full, Closed}
use Rattle.channel_core.specs.declared.errors.RecvError.{RecvError}
use Rattle.channel_core.specs.declared.errors.TryRecvError.{TryRecvError}
use Rattle.channel_core.specs.declared.errors.TryRecvError.TheVariants.{Empty, Closed}

-- a fact for a poll that was ready
abbrev pub OnReady : {A E : Type 0} → Result (Poll A) E → Type 0 → Type 0
OnReady (Ok (Ready answer)) Fact = Fact
OnReady (Ok Pending) Fact = ⊤
OnReady (Err error) Fact = ⊤

-- a fact for a poll that was pending
abbrev pub OnWait : {A E : Type 0} → Result (Poll A) E → Type 0 → Type 0
OnWait (Ok (Ready answer)) Fact = ⊤
OnWait (Ok Pending) Fact = Fact
OnWait (Err error) Fact = ⊤

module _ {T : Type 0} where
  -- the error that hands a message back
  abbrev pub send_error : T → SendError T
  send_error message = record { 0 = message }

  -- closed: the message comes back; full: it comes back; else it goes in
  abbrev pub try_send_answer : (closed full : Bool) → T → Result (Unit {0}) (TrySendError T)
  try_send_answer true full message = Err (Closed message)
  try_send_answer false true message = Err (Full message)
  try_send_answer false false message = Ok tt

  -- closed: the message comes back; full: it goes in and the oldest comes out; else it goes in
  abbrev pub force_send_answer : (closed full : Bool) (oldest : Option T) → T
      → Result (Option T) (SendError T)
  force_send_answer true full oldest message = Err (send_error message)
  force_send_answer false true oldest message = Ok oldest
  force_send_answer false false oldest message = Ok None

  -- a message is held: the oldest; else empty, or closed
  abbrev pub try_recv_answer : (oldest : Option T) (closed : Bool) → Result T TryRecvError
  try_recv_answer (Some oldest) closed = Ok oldest
  try_recv_answer None false = Err Empty
  try_recv_answer None true = Err Closed

  -- finished: pending; closed: the message comes back; full: pending; else it goes in
  abbrev pub send_poll : (message : Option T) (closed full : Bool)
      → Poll (Result (Unit {0}) (SendError T))
  send_poll None closed full = Pending
  send_poll (Some message) true full = Ready (Err (send_error message))
  send_poll (Some message) false true = Pending
  send_poll (Some message) false false = Ready (Ok tt)

  -- a message is held: the oldest; closed: an error; else pending
  abbrev pub recv_poll : (oldest : Option T) (closed : Bool) → Poll (Result T RecvError)
  recv_poll (Some oldest) closed = Ready (Ok oldest)
  recv_poll None true = Ready (Err (record {}))
  recv_poll None false = Pending

  -- a message is held: the oldest; closed: the end; else pending
  abbrev pub next_poll : (oldest : Option T) (closed : Bool) → Poll (Option T)
  next_poll (Some oldest) closed = Ready (Some oldest)
  next_poll None true = Ready None
  next_poll None false = Pending

-- no receiver is live: ready; else pending, also on a channel that was closed by hand
abbrev pub closed_poll : (no_receiver : Bool) → Poll (Unit {0})
closed_poll true = Ready tt
closed_poll false = Pending

-- The greatest count beside which one more handle is made: half of the greatest number of 64 bits,
-- rounded down.
abbrev pub handle_limit : ℕ
handle_limit = 2 ^ 63 - 1
