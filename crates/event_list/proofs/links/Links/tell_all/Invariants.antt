use Rattle.std.proofs.Common.{◌≡◌, ◌+◌, length}
use Rattle.event_list.specs.Waiting.{payloads, told_all, RingsEach}
use Rattle.event_list.proofs.links.Links.tell_all.Given as goal

-- this many are told by now, and what is rung from here on completes the whole
abbrev pub invariant-loop-turn : goal.invariant-loop-turn
invariant-loop-turn g l =
    record {
      left : length (payloads l.self) + l._turn ≡ l.untold;
      after : told_all l.self ≡ told_all l.fn.self;
      rung : (last : g.row.B.Denot) → RingsEach g.B.Bell.rings l.bell (payloads l.self) last
          → RingsEach g.B.Bell.rings l.fn.bell (payloads l.fn.self) last;
      counted : l.lookups ≡ l.fn.lookups + l._turn;
    }
