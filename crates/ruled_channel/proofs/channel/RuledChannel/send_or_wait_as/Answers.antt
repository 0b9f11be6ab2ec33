use Rattle.std.proofs.Common.{◌∙◌}
use Rattle.ruled_mutex.specs.Passes.{found}
use Rattle.ruled_channel.specs.Passes.{key_of}
use Rattle.ruled_channel.proofs.Answered.{polled_offers}
use Rattle.ruled_channel.proofs.Made.{on_err}
use Rattle.ruled_channel.proofs.Steps.{offers}
use Rattle.ruled_channel.proofs.channel.RuledChannel.send_or_wait_as.Goals as goal

pub give_back-requires-clause-rule : goal.give_back-requires-clause-rule
give_back-requires-clause-rule g c = let same = c.lock-held.ensures.same in let shows = c.value_mut-core.ensures.value ∙ c.lock-held.ensures.held.1 in
    let core = c.value_mut-core.result.now in let polled = c.poll_send-sent.ensures in
    offers core c.poll_send-sent.new.core (found c.lock-held.result) (g.P.Protocol.holds (key_of c.args.self.now)) _ _ _ _ same.0.1 same.1 shows
    c.args.message g.M.Sent.then g.L.Lesson.fact
    (polled_offers core c.poll_send-sent.new.core c.args.message c.args.ticket.now _ _ c.poll_send-sent.result polled.reply polled.after polled.waits
    (on_err c.poll_send-sent.result (λ same _. same.0) polled.unchanged polled.unchanged))
    c.requires.rule c.requires.lesson
