use Rattle.ruled_channel.specs.Passes.{key_of}
use Rattle.ruled_channel.proofs.Made.{has_made}
use Rattle.channel_core.specs.Channel.{closing}
use Rattle.std.proofs.Common.{true, ap, refl, ◌∙◌}
use Rattle.ruled_mutex.specs.Passes.{found}
use Rattle.ruled_channel.specs.State.{State, closed_now, state_of}
use Rattle.ruled_channel.proofs.Dropped.{closing_shuts, told_closed}
use Rattle.ruled_channel.proofs.Steps.{shuts}
use Rattle.ruled_channel.proofs.channel.RuledChannel.close_as.Goals as goal

pub returns-clause-step : goal.returns-clause-step
returns-clause-step g c = let shows = c.value_mut-core.ensures.value ∙ c.lock-held.ensures.held.1 in let here = c.close-was_open.ensures in let told = c.give_back.ensures in
    has_made c.give_back.new.pass c.value_mut-core.result.now c.close-was_open.new.self _ _ _ shows c.new-bell.ensures told.found told.made told.woken closing here.after here.rung

pub give_back-requires-clause-rule : goal.give_back-requires-clause-rule
give_back-requires-clause-rule g c = let same = c.lock-held.ensures.same in let shows = c.value_mut-core.ensures.value ∙ c.lock-held.ensures.held.1 in
    shuts c.value_mut-core.result.now c.close-was_open.new.self (found c.lock-held.result) (g.P.Protocol.holds (key_of c.args.self.now)) _ _ _ _ same.0.1 same.1 shows
    closed_now g.M.HasClosed.then (ap state_of c.close-was_open.ensures.after ∙ closing_shuts c.value_mut-core.result.now) refl c.requires.rule

pub returns-clause-closed : goal.returns-clause-closed
returns-clause-closed g c = let shows = c.value_mut-core.ensures.value ∙ c.lock-held.ensures.held.1 in let here = c.close-was_open.ensures in
    told_closed c.value_mut-core.result.now c.close-was_open.new.self (found c.lock-held.result) g.M.HasClosed.then _ _ _ true _
    c.lock-held.ensures.same.1 shows (ap (λ (s : State _). s.closed) (ap state_of here.after ∙ closing_shuts c.value_mut-core.result.now)) here.reply c.give_back.ensures.rule
