use Rattle.std.proofs.Common.{◌≡◌, ◌+◌, ◌≤◌, length, take}
use Rattle.async_channel.proofs.handles.Receiver.try_recv_many.Given as goal

-- so many were put behind what was there
abbrev pub invariant-loop-round : goal.invariant-loop-round
invariant-loop-round g l = record {
  limit : l.taken ≤ l.fn.limit;
  kept : take (length l.fn.into.items) l.into.items ≡ l.fn.into.items;
  count : length l.into.items ≡ length l.fn.into.items + l.taken;
  none : l.taken ≡ 0 → l.fn.limit ≡ 0;
}
