-- What a contract sees of a queue, and what its calls make of it.
use Rattle.std.specs.Prelude.{◌≡◌, ◌≤◌, ℕ, ◌++◌, Bool, false, List, [], ◌∷◌, length, drop, slice_get, nat_le, Option, Some, None, Result, Ok, Err, if◌then◌else◌}

-- the most messages that there may be, if there is a bound, and the messages, the oldest first
pub record Contents (T : Type 0) : Type 0 where
  pub capacity : Option ℕ
  pub messages : List T

module _ {T : Type 0} where
  abbrev pub contents : Option ℕ → List T → Contents T
  contents capacity messages = record { capacity = capacity; messages = messages }

  -- there are as many messages as there may be; without a bound it is never so
  abbrev pub is_full : Option ℕ → List T → Bool
  is_full None messages = false
  is_full (Some capacity) messages = nat_le capacity (length messages)

  -- a full queue hands the message back
  abbrev pub push_reply : Contents T → T → Result (Unit {0}) T
  push_reply queue message = if is_full queue.capacity queue.messages then Err message else Ok tt

  -- a message that fits stands last
  abbrev pub pushed : Contents T → T → Contents T
  pushed queue message =
      if is_full queue.capacity queue.messages then queue
      else contents queue.capacity (queue.messages ++ message ∷ [])

  -- a full queue gives its oldest message for a forced one
  abbrev pub force_push_reply : Contents T → Option T
  force_push_reply queue =
      if is_full queue.capacity queue.messages then slice_get queue.messages 0 else None

  -- a forced message stands last, on a full queue without the oldest one
  abbrev pub force_pushed : Contents T → T → Contents T
  force_pushed queue message =
      if is_full queue.capacity queue.messages
      then contents queue.capacity (drop 1 queue.messages ++ message ∷ [])
      else contents queue.capacity (queue.messages ++ message ∷ [])

  -- there are no more messages than there may be
  abbrev pub IsWithin : Contents T → Type 0
  IsWithin queue =
      (capacity : ℕ) → queue.capacity ≡ Some capacity → length queue.messages ≤ capacity

  -- the oldest message leaves, if there is one
  abbrev pub popped : Contents T → Contents T
  popped queue = contents queue.capacity (drop 1 queue.messages)
