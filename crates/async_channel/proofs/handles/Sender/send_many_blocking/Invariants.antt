use Rattle.std.proofs.Common.{◌≡◌, ℕ, drop}
use Rattle.std.specs.VecDeque.{deque_len}
use Rattle.async_channel.proofs.handles.Sender.send_many_blocking.Given as goal

-- some have left the front
abbrev pub invariant-loop-from : goal.invariant-loop-from
invariant-loop-from g l = (sent : ℕ) × (l.from.items ≡ drop sent l.fn.from.items)

abbrev pub decreases-loop-from : goal.decreases-loop-from
decreases-loop-from g l = deque_len l.from
