use Rattle.std.proofs.Common.{ap, ◌∙◌}
use Rattle.ruled_mutex.specs.Passes.{found}
use Rattle.channel_core.specs.Channel.{given_up}
use Rattle.ruled_channel.specs.State.{state_of}
use Rattle.ruled_channel.specs.Passes.{key_of}
use Rattle.ruled_channel.proofs.Made.{has_made}
use Rattle.ruled_channel.proofs.Waits.{same_given_up}
use Rattle.ruled_channel.proofs.Steps.{keeps}
use Rattle.ruled_channel.proofs.channel.RuledChannel.give_up.Goals as goal

pub give_back-requires-clause-rule : goal.give_back-requires-clause-rule
give_back-requires-clause-rule g c = let same = c.lock-held.ensures.same in let shows = c.value_mut-core.ensures.value ∙ c.lock-held.ensures.held.1 in
    keeps c.value_mut-core.result.now c.withdraw-left.new.self (found c.lock-held.result) (g.P.Protocol.holds (key_of c.args.self.now)) _ _ _ _ same.0.1 same.1 shows (λ _ _. Unit {0})
    (ap state_of c.withdraw-left.ensures.after ∙ same_given_up c.args.group c.args.ticket.now c.value_mut-core.result.now) (λ _ _ _ _. tt)

pub returns-clause-step : goal.returns-clause-step
returns-clause-step g c = let shows = c.value_mut-core.ensures.value ∙ c.lock-held.ensures.held.1 in let here = c.withdraw-left.ensures in let told = c.give_back.ensures in
    has_made c.give_back.new.pass c.value_mut-core.result.now c.withdraw-left.new.self _ _ _ shows c.new-bell.ensures told.found told.made told.woken (given_up c.args.group c.args.ticket.now) here.after here.rung
