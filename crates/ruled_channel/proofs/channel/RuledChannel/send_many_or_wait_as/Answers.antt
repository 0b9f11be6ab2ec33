use Rattle.std.proofs.Common.{◌≡◌, None, ◌∙◌, slice_get, take}
use Rattle.ruled_channel.specs.Batches.{polled_count}
use Rattle.ruled_mutex.specs.Passes.{found}
use Rattle.ruled_channel.specs.Passes.{key_of}
use Rattle.ruled_channel.proofs.Many.{first_sends}
use Rattle.ruled_channel.proofs.Told.{poll_finds_full, poll_is_refused, poll_wants, sends_held, sends_tell}
use Rattle.ruled_channel.proofs.Steps.{polls_sends}
use Rattle.channel_core.specs.Channel.{SendWaits}
use Rattle.ruled_channel.specs.Batches.{polled_sends}
use Rattle.ruled_channel.proofs.Made.{has_polled, has_waited, is_refused, on_err, sends_some}
use Rattle.ruled_channel.proofs.channel.RuledChannel.send_many_or_wait_as.Goals as goal

pub give_back-requires-clause-rule : goal.give_back-requires-clause-rule
give_back-requires-clause-rule g c = let same = c.lock-held.ensures.same in let shows = c.value_mut-core.ensures.value ∙ c.lock-held.ensures.held.1 in
    let core = c.value_mut-core.result.now in let polled = c.poll_send_many-polled.ensures in
    polls_sends core c.poll_send_many-polled.new.core (found c.lock-held.result) (g.P.Protocol.holds (key_of c.args.self.now)) _ _ _ _ same.0.1 same.1 shows
    _ _ _ (take (polled_count c.poll_send_many-polled.result) c.args.from.now.items) _ c.poll_send_many-polled.result g.M.Sent.then g.L.Lesson.fact
    polled.after polled.held polled.waits (on_err c.poll_send_many-polled.result (λ same _. same.0) polled.unchanged polled.unchanged)
    (first_sends _ _ _ (polled_count c.poll_send_many-polled.result) _ _ c.requires.rule) c.requires.lesson

pub returns-clause-step : goal.returns-clause-step
returns-clause-step g c = let told = c.give_back.ensures in let polled = c.poll_send_many-polled.ensures in
    has_polled c.give_back.new.pass c.value_mut-core.result.now c.poll_send_many-polled.new.core _ _ _ (c.value_mut-core.ensures.value ∙ c.lock-held.ensures.held.1)
    c.new-bell.ensures told.found told.made told.woken
    (polled_sends c.args.ticket.now (take (polled_count c.poll_send_many-polled.result) c.args.from.now.items)) (c.poll_send_many-polled.new.ticket ≡ None) c.poll_send_many-polled.result polled.finished polled.after polled.rung

pub returns-clause-waits : goal.returns-clause-waits
returns-clause-waits g c = let told = c.give_back.ensures in let polled = c.poll_send_many-polled.ensures in
    has_waited c.give_back.new.pass c.value_mut-core.result.now c.poll_send_many-polled.new.core _ _ _ (c.value_mut-core.ensures.value ∙ c.lock-held.ensures.held.1)
    c.new-bell.ensures told.found told.made told.woken
    c.poll_send_many-polled.result _ (λ channel w after. SendWaits (slice_get c.args.from.now.items 0) c.args.ticket.now channel w c.poll_send_many-polled.new.ticket after) c.poll_send_many-polled.new.ticket
    (λ w. sends_some c.args.from.now.items c.args.ticket.now c.poll_send_many-polled.new.ticket c.value_mut-core.result.now c.poll_send_many-polled.new.core w c.requires.some) polled.waits polled.silent

pub returns-clause-unpolled : goal.returns-clause-unpolled
returns-clause-unpolled g c = let told = c.give_back.ensures in let polled = c.poll_send_many-polled.ensures in
    on_err c.poll_send_many-polled.result (λ ticket same. (
      ticket,
      is_refused c.give_back.new.pass c.value_mut-core.result.now c.poll_send_many-polled.new.core _ _ _ (c.value_mut-core.ensures.value ∙ c.lock-held.ensures.held.1)
          c.new-bell.ensures told.found told.made told.woken same.0 same.1,
    )) polled.unpolled polled.unchanged

pub returns-clause-sent : goal.returns-clause-sent
returns-clause-sent g c = let shows = c.value_mut-core.ensures.value ∙ c.lock-held.ensures.held.1 in
    sends_tell c.value_mut-core.result.now (found c.lock-held.result) c.poll_send_many-polled.new.core shows _ _ _ c.lock-held.ensures.same.1 g.M.Sent.then g.L.Lesson.fact c.give_back.ensures.rule
    _ (sends_held c.value_mut-core.result.now c.poll_send_many-polled.new.core _ _ _ _ c.args.from.now.items c.poll_send_many-polled.result c.poll_send_many-polled.ensures.held c.poll_send_many-polled.ensures.waits (on_err c.poll_send_many-polled.result (λ same _. same.0) c.poll_send_many-polled.ensures.unchanged c.poll_send_many-polled.ensures.unchanged))

pub returns-clause-refused : goal.returns-clause-refused
returns-clause-refused g c = let shows = c.value_mut-core.ensures.value ∙ c.lock-held.ensures.held.1 in
    poll_is_refused c.value_mut-core.result.now (found c.lock-held.result) c.poll_send_many-polled.new.core shows _ _ _ c.lock-held.ensures.same.1 g.M.Sent.then g.L.Lesson.fact c.give_back.ensures.rule
    c.args.from.now.items c.poll_send_many-polled.result c.requires.some (sends_held c.value_mut-core.result.now c.poll_send_many-polled.new.core _ _ _ _ c.args.from.now.items c.poll_send_many-polled.result c.poll_send_many-polled.ensures.held c.poll_send_many-polled.ensures.waits (on_err c.poll_send_many-polled.result (λ same _. same.0) c.poll_send_many-polled.ensures.unchanged c.poll_send_many-polled.ensures.unchanged)) c.poll_send_many-polled.ensures.reply

pub returns-clause-full : goal.returns-clause-full
returns-clause-full g c = let shows = c.value_mut-core.ensures.value ∙ c.lock-held.ensures.held.1 in
    poll_finds_full c.value_mut-core.result.now (found c.lock-held.result) c.poll_send_many-polled.new.core shows _ _ _ c.lock-held.ensures.same.1 g.M.Sent.then g.L.Lesson.fact c.give_back.ensures.rule
    c.args.from.now.items c.poll_send_many-polled.result c.requires.some (sends_held c.value_mut-core.result.now c.poll_send_many-polled.new.core _ _ _ _ c.args.from.now.items c.poll_send_many-polled.result c.poll_send_many-polled.ensures.held c.poll_send_many-polled.ensures.waits (on_err c.poll_send_many-polled.result (λ same _. same.0) c.poll_send_many-polled.ensures.unchanged c.poll_send_many-polled.ensures.unchanged)) c.poll_send_many-polled.ensures.reply

pub returns-clause-memory : goal.returns-clause-memory
returns-clause-memory g c = let shows = c.value_mut-core.ensures.value ∙ c.lock-held.ensures.held.1 in
    poll_wants c.value_mut-core.result.now (found c.lock-held.result) c.poll_send_many-polled.new.core shows _ _ _ c.lock-held.ensures.same.1 g.M.Sent.then g.L.Lesson.fact c.give_back.ensures.rule
    c.args.from.now.items c.poll_send_many-polled.result c.requires.some (sends_held c.value_mut-core.result.now c.poll_send_many-polled.new.core _ _ _ _ c.args.from.now.items c.poll_send_many-polled.result c.poll_send_many-polled.ensures.held c.poll_send_many-polled.ensures.waits (on_err c.poll_send_many-polled.result (λ same _. same.0) c.poll_send_many-polled.ensures.unchanged c.poll_send_many-polled.ensures.unchanged)) c.poll_send_many-polled.ensures.reply c.poll_send_many-polled.ensures.wanted
