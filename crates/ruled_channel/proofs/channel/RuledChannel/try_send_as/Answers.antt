use Rattle.std.proofs.Common.{◌∙◌}
use Rattle.ruled_mutex.specs.Passes.{found}
use Rattle.channel_core.specs.Channel.{sent}
use Rattle.ruled_channel.specs.Passes.{key_of}
use Rattle.ruled_channel.proofs.Answered.{sent_offers}
use Rattle.ruled_channel.proofs.Made.{has_made, on_ok}
use Rattle.ruled_channel.proofs.Steps.{offers}
use Rattle.ruled_channel.proofs.channel.RuledChannel.try_send_as.Goals as goal

pub give_back-requires-clause-rule : goal.give_back-requires-clause-rule
give_back-requires-clause-rule g c = let same = c.lock-held.ensures.same in let shows = c.value_mut-core.ensures.value ∙ c.lock-held.ensures.held.1 in
    let core = c.value_mut-core.result.now in let here = c.try_send-answer.ensures in
    offers core c.try_send-answer.new.self (found c.lock-held.result) (g.P.Protocol.holds (key_of c.args.self.now)) _ _ _ _ same.0.1 same.1 shows
    c.args.message g.M.Sent.then g.L.Lesson.fact
    (sent_offers core c.try_send-answer.new.self c.args.message c.try_send-answer.result here.reply here.after here.unchanged)
    c.requires.rule c.requires.lesson

pub returns-clause-step : goal.returns-clause-step
returns-clause-step g c = let shows = c.value_mut-core.ensures.value ∙ c.lock-held.ensures.held.1 in let here = c.try_send-answer.ensures in let told = c.give_back.ensures in
    on_ok c.try_send-answer.result (has_made c.give_back.new.pass c.value_mut-core.result.now c.try_send-answer.new.self _ _ _ shows c.new-bell.ensures told.found told.made told.woken (sent c.args.message)) here.after here.rung
