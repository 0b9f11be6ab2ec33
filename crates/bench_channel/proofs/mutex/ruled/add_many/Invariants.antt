use Rattle.ruled_mutex.specs.Passes.{IsPassOf}
use Rattle.bench_channel.proofs.mutex.ruled.add_many.Given as goal

abbrev pub invariant-loop : goal.invariant-loop
invariant-loop g l = IsPassOf l.mutex l.pass
