use Rattle.std.proofs.Common.{ap, ◌∙◌}
use Rattle.ruled_mutex.specs.Passes.{found}
use Rattle.ruled_channel.specs.State.{state_of}
use Rattle.ruled_channel.specs.Passes.{key_of}
use Rattle.ruled_channel.proofs.Steps.{keeps}
use Rattle.ruled_channel.proofs.channel.RuledChannel.upgrade_sender_as.Goals as goal

pub give_back-requires-in-Closed-clause-rule : goal.give_back-requires-in-Closed-clause-rule
give_back-requires-in-Closed-clause-rule g c = let same = c.lock-held.ensures.same in let shows = c.value_mut-core.ensures.value ∙ c.lock-held.ensures.held.1 in
    keeps c.value_mut-core.result.now c.upgrade_sender-upgrade.new.self (found c.lock-held.result) (g.P.Protocol.holds (key_of c.args.self.now)) _ _ _ _ same.0.1 same.1 shows (λ _ _. Unit {0})
    (ap state_of c.in-Closed.ensures.after) (λ _ _ _ _. tt)

pub give_back-requires-in-TooMany-clause-rule : goal.give_back-requires-in-TooMany-clause-rule
give_back-requires-in-TooMany-clause-rule g c = let same = c.lock-held.ensures.same in let shows = c.value_mut-core.ensures.value ∙ c.lock-held.ensures.held.1 in
    keeps c.value_mut-core.result.now c.upgrade_sender-upgrade.new.self (found c.lock-held.result) (g.P.Protocol.holds (key_of c.args.self.now)) _ _ _ _ same.0.1 same.1 shows (λ _ _. Unit {0})
    (ap state_of c.in-TooMany.ensures.after) (λ _ _ _ _. tt)
