use Rattle.std.proofs.Common.{◌≡◌, ◌+◌, ◌≤◌, ◌++◌, take}
use Rattle.std.specs.Vec.{vec_len, vec_capacity}
use Rattle.event_list.specs.Waiting.{RingsEach}
use Rattle.channel_core.specs.Batches.{received_many}
use Rattle.channel_core.proofs.state.Core.take_held.Given as goal

-- so many receives are made by now, and there is room for those that are left
abbrev pub invariant-loop-turn : goal.invariant-loop-turn
invariant-loop-turn g l = record {
  channel : l.self ≡ (received_many l._turn l.fn.self).channel;
  rung : RingsEach g.B.Bell.rings l.fn.bell (received_many l._turn l.fn.self).rung l.bell;
  taken : l.into.items ≡ l.fn.into.items ++ take l._turn l.fn.self.messages;
  room : vec_len l.into + l.count ≤ vec_capacity l.into + l._turn;
}
