use Rattle.futures.specs.Task.{Keeps}
use Rattle.bench_channel.proofs.tasks.ReadyPollsFuture.poll.Given as goal

abbrev pub invariant-loop-number : goal.invariant-loop-number
invariant-loop-number g l = Keeps l.fn.cx l.cx
