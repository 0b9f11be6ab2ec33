use Rattle.std.proofs.Common.{ap, refl, ◌∙◌}
use Rattle.ruled_mutex.specs.Passes.{found}
use Rattle.channel_core.specs.Tables.{next_poll}
use Rattle.channel_core.specs.Channel.{polled_stream}
use Rattle.ruled_channel.specs.State.{state_of}
use Rattle.ruled_channel.specs.Passes.{key_of}
use Rattle.ruled_channel.specs.Rule.{Fitted}
use Rattle.ruled_channel.proofs.Made.{on_err}
use Rattle.ruled_channel.proofs.Steps.{takes}
use Rattle.ruled_channel.proofs.Taken.{polled_drops, next_pending, taking_drops}
use Rattle.ruled_channel.proofs.channel.RuledChannel.next_or_wait_as.Goals as goal

pub give_back-requires-clause-rule : goal.give_back-requires-clause-rule
give_back-requires-clause-rule g c = let same = c.lock-held.ensures.same in let shows = c.value_mut-core.ensures.value ∙ c.lock-held.ensures.held.1 in
    let core = c.value_mut-core.result.now in let polled = c.poll_next-polled.ensures in
    takes core c.poll_next-polled.new.core (found c.lock-held.result) (g.P.Protocol.holds (key_of c.args.self.now)) _ _ _ _ same.0.1 same.1 shows
    g.M.Received.then g.E.AtEnd.then (Fitted g.P.Protocol.holds)
    (polled_drops core c.poll_next-polled.new.core next_poll (polled_stream c.args.ticket.now) _ _ c.poll_next-polled.result (next_pending core.messages core.closed)
    (taking_drops _ core.messages refl) (λ w waits. ap state_of waits.0) polled.reply polled.after polled.waits
    (on_err c.poll_next-polled.result (λ same _. same.0) polled.unchanged polled.unchanged) polled.wanted)
    c.requires.rule c.requires.end (λ state views h at. (_, _, views, h, at))
