use Rattle.std.proofs.Common.{◌≡◌, ◌⊎◌, None}
use Rattle.std.specs.VecDeque.{deque_len}
use Rattle.futures.specs.Task.{Keeps}
use Rattle.async_channel.specs.Operations.{IsLeftOf}
use Rattle.async_channel.proofs.handles.Sender.poll_send_rounds.Given as goal

-- some have left the front; it waits by its old ticket only if none has
abbrev pub invariant-loop-self : goal.invariant-loop-self
invariant-loop-self g l = record {
  left : IsLeftOf l.from.items l.fn.from.items;
  ticket : (l.ticket ≡ None) ⊎ ((l.ticket ≡ l.fn.ticket) × (l.from.items ≡ l.fn.from.items));
  kept : Keeps l.fn.cx l.cx;
}

abbrev pub decreases-loop-self : goal.decreases-loop-self
decreases-loop-self g l = deque_len l.from
