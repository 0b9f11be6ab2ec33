use Rattle.std.proofs.Common.{◌≡◌, ◌≤◌, ◌+◌, ◌-◌, length}
use Rattle.ruled_channel_rules.specs.Handles.{sent_by, got_by}
use Rattle.parallel_map.specs.Workers.{IsCollectorOf, IsSenderOf}
use Rattle.parallel_map.proofs.InOrder.{AreBefore}
use Rattle.parallel_map.proofs.workers.send_places.Given as goal

-- the chunks of the inputs before a place were sent, and those that are out are not back
abbrev pub invariant-loop-from : goal.invariant-loop-from
invariant-loop-from g l = record {
  own : IsSenderOf l.task.places l.feeder × IsCollectorOf l.task.chunks l.collector;
  within : l.from ≤ length l.task.inputs.now;
  most : l.out ≤ l.task.most_out;
  out : l.out + length (got_by l.collector.receiver)
      ≡ length (sent_by l.feeder) + length (got_by l.fn.collector.receiver);
  before : AreBefore (length l.task.inputs.now) l.task.size l.from (sent_by l.feeder);
}

abbrev pub decreases-loop-from : goal.decreases-loop-from
decreases-loop-from g l = length l.task.inputs.now - l.from
