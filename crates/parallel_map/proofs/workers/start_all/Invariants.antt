use Rattle.std.proofs.Common.{◌≡◌, vec_len}
use Rattle.std.specs.List.{All}
use Rattle.ruled_channel_rules.specs.Handles.{known}
use Rattle.ruled_channel_rules.specs.Whole.{hub_log}
use Rattle.parallel_map.specs.Workers.{AreHubsOf}
use Rattle.parallel_map.proofs.workers.start_all.Given as goal

-- so many workers were started, each with ends of its own
abbrev pub invariant-loop-turn : goal.invariant-loop-turn
invariant-loop-turn g l = record {
  own : AreHubsOf l.task.places l.task.chunks l.hubs.places l.hubs.chunks;
  promised : All (λ worker. worker.promise.task.now ≡ l.task) l.workers.items;
  count : vec_len l.workers ≡ l._turn;
  made : (known l.hubs.places ≡ hub_log 1 l._turn) × (known l.hubs.chunks ≡ hub_log l._turn 1);
}
