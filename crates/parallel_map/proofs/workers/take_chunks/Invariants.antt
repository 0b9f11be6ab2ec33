use Rattle.std.proofs.Common.{◌≡◌, ◌+◌, length}
use Rattle.ruled_channel_rules.specs.Handles.{got_by}
use Rattle.parallel_map.specs.Workers.{IsCollectorOf}
use Rattle.parallel_map.proofs.workers.take_chunks.Given as goal

-- what came is put together, a chunk at each turn
abbrev pub invariant-loop-turn : goal.invariant-loop-turn
invariant-loop-turn g l = record {
  own : IsCollectorOf l.task.chunks l.collector;
  came : length (got_by l.collector.receiver)
      ≡ length (got_by l.fn.collector.receiver) + l._turn;
}
