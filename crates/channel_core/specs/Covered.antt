-- The law of notices. It speaks of numbers alone, in the past of a channel or in its present state.
use Rattle.std.specs.Prelude.{◌≡◌, ◌+◌, ◌<◌, ◌≤◌, ℕ, Option, Some, None, Bool, true, false}

-- how many wait in a list and were told, and how many wait there untold
pub record Waiters : Type 0 where
  pub told : ℕ
  pub untold : ℕ

-- what the law looks at: the capacity, how many messages are held, whether the channel is closed,
-- how many senders and receivers there are, and who waits
pub record Standing : Type 0 where
  pub capacity : Option ℕ
  pub held : ℕ
  pub closed : Bool
  pub senders : ℕ
  pub receivers : ℕ
  pub sends : Waiters
  pub receives : Waiters
  pub streams : Waiters
  pub closeds : Waiters

-- all sends, receives and streams that wait were told
pub record AreTransfersTold (now : Standing) : Type 0 where
  pub sends : now.sends.untold ≡ 0
  pub receives : now.receives.untold ≡ 0
  pub streams : now.streams.untold ≡ 0

-- No notice is lost: whoever waits untold could not go on, or enough others were told.
pub record IsCovered (now : Standing) : Type 0 where
  -- beside an untold receive, each held message has a told one
  pub receives : 0 < now.receives.untold → now.held ≤ now.receives.told
  -- beside an untold send, each free place has a told one
  pub sends : (capacity : ℕ) → now.capacity ≡ Some capacity → 0 < now.sends.untold
      → capacity ≤ now.held + now.sends.told
  -- without a capacity no send waits
  pub unbounded : now.capacity ≡ None → now.sends.told + now.sends.untold ≡ 0
  -- an untold stream waits on an empty and open channel
  pub streams : 0 < now.streams.untold → (now.held ≡ 0) × (now.closed ≡ false)
  -- beside an untold closed operation a receiver is live
  pub closeds : 0 < now.closeds.untold → 0 < now.receivers
  -- on a closed channel nobody who sends, receives or reads a stream waits untold
  pub closed : now.closed ≡ true → AreTransfersTold now
  -- an open channel has somebody on each side
  pub open_senders : now.closed ≡ false → 0 < now.senders
  pub open_receivers : now.closed ≡ false → 0 < now.receivers
  -- no more than the capacity is held
  pub within : (capacity : ℕ) → now.capacity ≡ Some capacity → now.held ≤ capacity
