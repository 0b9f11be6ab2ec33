use Rattle.std.proofs.Common.{refl, ap, ◌∙◌}
use Rattle.std.specs.Prelude.{◌==◌}
use Rattle.ruled_mutex.specs.Passes.{found}
use Rattle.ruled_channel.specs.State.{State, sender_less}
use Rattle.ruled_channel.specs.Passes.{key_of}
use Rattle.ruled_channel.proofs.Dropped.{sender_gone, told_closed}
use Rattle.ruled_channel.proofs.Steps.{shuts}
use Rattle.ruled_channel.proofs.Made.{has_made}
use Rattle.channel_core.specs.Channel.{sender_dropped}
use Rattle.ruled_channel.proofs.channel.RuledChannel.drop_sender_as.Goals as goal

pub give_back-requires-clause-rule : goal.give_back-requires-clause-rule
give_back-requires-clause-rule g c = let same = c.lock-held.ensures.same in let shows = c.value_mut-core.ensures.value ∙ c.lock-held.ensures.held.1 in
    shuts c.value_mut-core.result.now c.drop_sender-has_closed.new.self (found c.lock-held.result) (g.P.Protocol.holds (key_of c.args.self.now)) _ _ _ _ same.0.1 same.1 shows
    sender_less g.M.HasClosed.then (sender_gone _ _ c.drop_sender-has_closed.ensures.after) refl c.requires.rule

pub returns-clause-step : goal.returns-clause-step
returns-clause-step g c = let shows = c.value_mut-core.ensures.value ∙ c.lock-held.ensures.held.1 in let here = c.drop_sender-has_closed.ensures in let told = c.give_back.ensures in
    has_made c.give_back.new.pass c.value_mut-core.result.now c.drop_sender-has_closed.new.self _ _ _ shows c.new-bell.ensures told.found told.made told.woken sender_dropped here.after here.rung

pub returns-clause-closed : goal.returns-clause-closed
returns-clause-closed g c = let shows = c.value_mut-core.ensures.value ∙ c.lock-held.ensures.held.1 in let here = c.drop_sender-has_closed.ensures in
    told_closed c.value_mut-core.result.now c.drop_sender-has_closed.new.self (found c.lock-held.result) g.M.HasClosed.then _ _ _ (c.value_mut-core.result.now.senders == 1) _
    c.lock-held.ensures.same.1 shows (ap (λ (s : State _). s.closed) (sender_gone c.value_mut-core.result.now c.drop_sender-has_closed.new.self here.after)) here.reply c.give_back.ensures.rule
