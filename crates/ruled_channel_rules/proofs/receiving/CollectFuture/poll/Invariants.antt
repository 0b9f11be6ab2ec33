use Rattle.std.proofs.Common.{◌≡◌}
use Rattle.futures.specs.Task.{Keeps}
use Rattle.ruled_channel_rules.specs.Collecting.{MayCollect}
use Rattle.ruled_channel_rules.proofs.receiving.CollectFuture.poll.Given as goal

abbrev pub invariant-loop : goal.invariant-loop
invariant-loop g l =
    MayCollect l.self.channel.now l.self.receiver.value l.self.list.value.items l.self.parts × Keeps l.initial.cx l.cx
    × (l.self.channel.now ≡ l.initial.self.channel.now) × (l.self.receiver.value ≡ l.initial.self.receiver.value) × (l.self.list.value ≡ l.initial.self.list.value)
