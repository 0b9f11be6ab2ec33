use Rattle.std.proofs.Common.{◌≡◌, ◌++◌, drop, take}
use Rattle.event_list.specs.Waiting.{RingsEach}
use Rattle.channel_core.specs.Batches.{sent_many}
use Rattle.channel_core.proofs.state.Core.send_front.Given as goal

-- so many are sent by now
abbrev pub invariant-loop-count : goal.invariant-loop-count
invariant-loop-count g l = record {
  channel : l.self ≡ (sent_many (take l.count l.fn.from.items) l.fn.self).channel;
  rung : RingsEach g.B.Bell.rings l.fn.bell (sent_many (take l.count l.fn.from.items) l.fn.self).rung l.bell;
  held : l.self.messages ≡ l.fn.self.messages ++ take l.count l.fn.from.items;
  rest : l.from.items ≡ drop l.count l.fn.from.items;
}
