use Rattle.std.specs.Prelude.{length}
use Rattle.bench_channel.proofs.waiters.Crowd.drop.Given as goal

abbrev pub decreases-loop-ticket : goal.decreases-loop-ticket
decreases-loop-ticket l = length l.middle.items
