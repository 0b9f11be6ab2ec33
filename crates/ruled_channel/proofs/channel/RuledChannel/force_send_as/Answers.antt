use Rattle.std.proofs.Common.{◌∙◌}
use Rattle.ruled_mutex.specs.Passes.{found}
use Rattle.channel_core.specs.Channel.{force_sent}
use Rattle.ruled_channel.specs.Passes.{key_of}
use Rattle.ruled_channel.proofs.Answered.{forced_goes, forced_tells}
use Rattle.ruled_channel.proofs.Made.{has_made, on_ok}
use Rattle.ruled_channel.proofs.Steps.{forces}
use Rattle.ruled_channel.proofs.channel.RuledChannel.force_send_as.Goals as goal

pub give_back-requires-clause-rule : goal.give_back-requires-clause-rule
give_back-requires-clause-rule g c = let same = c.lock-held.ensures.same in let shows = c.value_mut-core.ensures.value ∙ c.lock-held.ensures.held.1 in
    let core = c.value_mut-core.result.now in let here = c.force_send-answer.ensures in
    forces core c.force_send-answer.new.self (found c.lock-held.result) (g.P.Protocol.holds (key_of c.args.self.now)) _ _ _ _ same.0.1 same.1 shows
    c.args.message g.M.Forced.then g.L.Lesson.fact
    (λ place. forced_goes core c.force_send-answer.new.self c.args.message c.force_send-answer.result place here.after here.unchanged here.wanted)
    c.requires.rule c.requires.lesson

pub returns-clause-step : goal.returns-clause-step
returns-clause-step g c = let shows = c.value_mut-core.ensures.value ∙ c.lock-held.ensures.held.1 in let here = c.force_send-answer.ensures in let told = c.give_back.ensures in
    on_ok c.force_send-answer.result (has_made c.give_back.new.pass c.value_mut-core.result.now c.force_send-answer.new.self _ _ _ shows c.new-bell.ensures told.found told.made told.woken (force_sent c.args.message)) here.after here.rung

pub returns-clause-sent : goal.returns-clause-sent
returns-clause-sent g c = let shows = c.value_mut-core.ensures.value ∙ c.lock-held.ensures.held.1 in let here = c.force_send-answer.ensures in
    forced_tells c.value_mut-core.result.now _ c.force_send-answer.new.self shows g.M.Forced.then g.L.Lesson.fact _ _ _ c.lock-held.ensures.same.1 c.args.message c.force_send-answer.result
    c.give_back.ensures.rule here.reply here.after
