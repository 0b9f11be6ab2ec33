use Rattle.std.proofs.Common.{ap, refl, ◌∙◌}
use Rattle.ruled_mutex.specs.Passes.{found}
use Rattle.channel_core.specs.Channel.{received}
use Rattle.ruled_channel.specs.State.{state_of}
use Rattle.ruled_channel.specs.Passes.{key_of}
use Rattle.ruled_channel.proofs.Made.{has_made}
use Rattle.ruled_channel.proofs.Steps.{takes}
use Rattle.ruled_channel.proofs.Taken.{taking_drops}
use Rattle.ruled_channel.proofs.channel.RuledChannel.try_recv_as.Goals as goal

pub give_back-requires-clause-rule : goal.give_back-requires-clause-rule
give_back-requires-clause-rule g c = let same = c.lock-held.ensures.same in let shows = c.value_mut-core.ensures.value ∙ c.lock-held.ensures.held.1 in
    let core = c.value_mut-core.result.now in
    takes core c.try_recv-answer.new.self (found c.lock-held.result) (g.P.Protocol.holds (key_of c.args.self.now)) _ _ _ _ same.0.1 same.1 shows
    g.M.Received.then g.E.AtEnd.then g.L.Lesson.fact (ap state_of c.try_recv-answer.ensures.after ∙ taking_drops core core.messages refl)
    c.requires.rule c.requires.end c.requires.lesson

pub returns-clause-step : goal.returns-clause-step
returns-clause-step g c = let shows = c.value_mut-core.ensures.value ∙ c.lock-held.ensures.held.1 in let here = c.try_recv-answer.ensures in let told = c.give_back.ensures in
    has_made c.give_back.new.pass c.value_mut-core.result.now c.try_recv-answer.new.self _ _ _ shows c.new-bell.ensures told.found told.made told.woken received here.after here.rung
