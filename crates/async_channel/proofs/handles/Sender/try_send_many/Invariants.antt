use Rattle.std.proofs.Common.{◌≡◌, ◌≤◌, [], drop, length}
use Rattle.async_channel.proofs.handles.Sender.try_send_many.Given as goal

-- so many have left the front
abbrev pub invariant-loop-round : goal.invariant-loop-round
invariant-loop-round g l = record {
  within : l.sent ≤ length l.fn.from.items;
  rest : l.from.items ≡ drop l.sent l.fn.from.items;
  none : l.sent ≡ 0 → l.fn.from.items ≡ [];
}
