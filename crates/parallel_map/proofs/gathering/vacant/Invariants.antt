use Rattle.std.proofs.Common.{◌≡◌, replicate, None, vec_len, vec_capacity}
use Rattle.parallel_map.proofs.gathering.vacant.Given as goal

-- so many slots are there, and there is room for the others, and for no more
abbrev pub invariant-loop : goal.invariant-loop
invariant-loop g l = record {
  items : l.slots.items ≡ replicate l.counter None;
  len : vec_len l.slots ≡ l.counter;
  room : vec_capacity l.slots ≡ l.count;
}
