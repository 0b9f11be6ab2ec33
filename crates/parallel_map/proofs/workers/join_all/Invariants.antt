use Rattle.std.proofs.Common.{◌≡◌, length, map, true}
use Rattle.std.specs.List.{All}
use Rattle.std.specs.Vec.Iter.{into_iter_items}
use Rattle.ruled_channel_rules.specs.Handles.{known}
use Rattle.parallel_map.specs.Workers.{AreHubsOf, AreBack, AreAllDone}
use Rattle.parallel_map.proofs.workers.join_all.Given as goal

-- the ends of those that were joined are back
abbrev pub invariant-loop-worker : goal.invariant-loop-worker
invariant-loop-worker g l = record {
  own : AreHubsOf l.task.places l.task.chunks l.hubs.places l.hubs.chunks;
  left : All (λ worker. worker.promise.task.now ≡ l.task) (into_iter_items l.worker-iterator);
  back : AreBack (length l.yielded) (known l.hubs.places) (known l.hubs.chunks);
  same : (known l.hubs.places).receivers ≡ (known l.initial.hubs.places).receivers;
  done : l.all_well ≡ true → AreAllDone (map g.J.Job.answer l.task.inputs.now) l.task.size (known l.hubs.places) (known l.hubs.chunks);
}
