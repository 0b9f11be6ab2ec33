use Rattle.std.proofs.Common.{sym, subst, ◌∙◌, ap, take}
use Rattle.channel_core.specs.Batches.{moved_count}
use Rattle.ruled_mutex.specs.Passes.{found}
use Rattle.ruled_channel.specs.Passes.{key_of}
use Rattle.ruled_channel.proofs.Many.{first_sends, fits, left_by_sends}
use Rattle.ruled_channel.proofs.Steps.{offers_many}
use Rattle.ruled_channel.proofs.Told.{refuses, sends_tell, sends_want}
use Rattle.channel_core.specs.Batches.{CanSendNoMore, sent_many}
use Rattle.ruled_channel.proofs.Made.{has_made_by_log}
use Rattle.ruled_channel.proofs.channel.RuledChannel.try_send_many_as.Goals as goal

pub give_back-requires-clause-rule : goal.give_back-requires-clause-rule
give_back-requires-clause-rule g c = let same = c.lock-held.ensures.same in let shows = c.value_mut-core.ensures.value ∙ c.lock-held.ensures.held.1 in
    let core = c.value_mut-core.result.now in let sent = c.send_round-sent.ensures in
    let messages = take (moved_count c.send_round-sent.result) c.args.from.now.items in
    offers_many core c.send_round-sent.new.core (found c.lock-held.result) (g.P.Protocol.holds (key_of c.args.self.now)) _ _ _ _ same.0.1 same.1 shows
    messages g.M.Sent.then g.L.Lesson.fact (fits messages core (ap (λ channel. channel.messages) (sym sent.after) ∙ sent.held)) (left_by_sends messages core _ sent.after sent.held)
    (first_sends _ _ _ (moved_count c.send_round-sent.result) _ _ c.requires.rule) c.requires.lesson

pub returns-clause-step : goal.returns-clause-step
returns-clause-step g c = let told = c.give_back.ensures in let sent = c.send_round-sent.ensures in
    has_made_by_log c.give_back.new.pass c.value_mut-core.result.now c.send_round-sent.new.core _ _ _ (c.value_mut-core.ensures.value ∙ c.lock-held.ensures.held.1)
    c.new-bell.ensures told.found told.made told.woken
    (sent_many (take (moved_count c.send_round-sent.result) c.args.from.now.items)) sent.after sent.rung

pub returns-clause-stops : goal.returns-clause-stops
returns-clause-stops g c less = subst (CanSendNoMore _) (sym c.give_back.ensures.made) (c.send_round-sent.ensures.stops less)

pub returns-clause-sent : goal.returns-clause-sent
returns-clause-sent g c = let shows = c.value_mut-core.ensures.value ∙ c.lock-held.ensures.held.1 in
    sends_tell c.value_mut-core.result.now (found c.lock-held.result) c.send_round-sent.new.core shows _ _ _ c.lock-held.ensures.same.1 g.M.Sent.then g.L.Lesson.fact c.give_back.ensures.rule
    _ c.send_round-sent.ensures.held

pub returns-clause-refused : goal.returns-clause-refused
returns-clause-refused g c = let shows = c.value_mut-core.ensures.value ∙ c.lock-held.ensures.held.1 in
    refuses c.value_mut-core.result.now (found c.lock-held.result) c.send_round-sent.new.core shows _ _ _ c.lock-held.ensures.same.1 g.M.Sent.then g.L.Lesson.fact c.give_back.ensures.rule
    _ c.send_round-sent.result c.send_round-sent.ensures.held c.send_round-sent.ensures.reply

pub returns-clause-memory : goal.returns-clause-memory
returns-clause-memory g c = let shows = c.value_mut-core.ensures.value ∙ c.lock-held.ensures.held.1 in
    sends_want c.value_mut-core.result.now (found c.lock-held.result) c.send_round-sent.new.core shows _ _ _ c.lock-held.ensures.same.1 g.M.Sent.then g.L.Lesson.fact c.give_back.ensures.rule
    _ c.send_round-sent.result c.send_round-sent.ensures.held c.send_round-sent.ensures.wanted
