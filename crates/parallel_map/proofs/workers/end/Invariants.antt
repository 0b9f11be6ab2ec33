use Rattle.parallel_map.specs.Workers.{IsCollectorOf}
use Rattle.parallel_map.proofs.workers.end.Given as goal

-- what came is put together
abbrev pub invariant-loop : goal.invariant-loop
invariant-loop g l = IsCollectorOf l.task.chunks l.collector
