use Rattle.std.proofs.Common.{◌≡◌}
use Rattle.bench_channel.specs.Stirring.{stirred}
use Rattle.bench_channel.proofs.job.stir_number.Given as goal

-- so far the number was changed once a round
abbrev pub invariant-loop : goal.invariant-loop
invariant-loop g l = l.state ≡ stirred l.counter l.fn.number
