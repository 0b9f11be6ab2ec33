use Rattle.std.proofs.Common.{◌≡◌, None, ◌∙◌}
use Rattle.channel_core.specs.Batches.{taken_count}
use Rattle.ruled_mutex.specs.Passes.{found}
use Rattle.ruled_channel.specs.Passes.{key_of}
use Rattle.ruled_channel.specs.Rule.{Fitted}
use Rattle.std.proofs.Common.{◌<◌, inl, inr, sym, subst, ap, take, IfOk, arith, ⊎_elim}
use Rattle.futures.specs.Poll.{IfReady}
use Rattle.ruled_channel.specs.State.{state_of}
use Rattle.ruled_channel.specs.Rule.{TellsEach}
use Rattle.ruled_channel.specs.Passes.{view}
use Rattle.ruled_channel.proofs.Many.{left_by_receives}
use Rattle.ruled_channel.proofs.Told.{on_ready, poll_ends, poll_finds_none, poll_keeps_view, poll_tells}
use Rattle.ruled_channel.proofs.Steps.{polls_receives}
use Rattle.channel_core.specs.Channel.{RecvWaits}
use Rattle.ruled_channel.specs.Batches.{polled_receives}
use Rattle.ruled_channel.proofs.Made.{has_polled, has_waited, is_refused, on_err, recv_some}
use Rattle.ruled_channel.proofs.channel.RuledChannel.recv_many_or_wait_as.Goals as goal

pub give_back-requires-clause-rule : goal.give_back-requires-clause-rule
give_back-requires-clause-rule g c = let same = c.lock-held.ensures.same in let shows = c.value_mut-core.ensures.value ∙ c.lock-held.ensures.held.1 in
    let core = c.value_mut-core.result.now in let polled = c.poll_recv_many-polled.ensures in
    polls_receives core c.poll_recv_many-polled.new.core (found c.lock-held.result) (g.P.Protocol.holds (key_of c.args.self.now)) _ _ _ _ same.0.1 same.1 shows
    _ _ c.args.limit _ c.poll_recv_many-polled.result g.M.Received.then g.E.AtEnd.then (Fitted g.P.Protocol.holds)
    polled.after polled.waits (on_err c.poll_recv_many-polled.result (λ same _. same.0) polled.unchanged polled.unchanged)
    c.requires.rule c.requires.end (λ state views h at. (_, _, views, h, at))

pub returns-clause-waits : goal.returns-clause-waits
returns-clause-waits g c = let told = c.give_back.ensures in let polled = c.poll_recv_many-polled.ensures in
    has_waited c.give_back.new.pass c.value_mut-core.result.now c.poll_recv_many-polled.new.core _ _ _ (c.value_mut-core.ensures.value ∙ c.lock-held.ensures.held.1)
    c.new-bell.ensures told.found told.made told.woken
    c.poll_recv_many-polled.result _ (λ channel w after. RecvWaits c.args.ticket.now channel w c.poll_recv_many-polled.new.ticket after) c.poll_recv_many-polled.new.ticket
    (recv_some c.args.ticket.now c.poll_recv_many-polled.new.ticket c.value_mut-core.result.now c.poll_recv_many-polled.new.core) polled.waits polled.silent

pub returns-clause-unpolled : goal.returns-clause-unpolled
returns-clause-unpolled g c = let told = c.give_back.ensures in let polled = c.poll_recv_many-polled.ensures in
    on_err c.poll_recv_many-polled.result (λ kept same. (
      kept.0,
      kept.1,
      is_refused c.give_back.new.pass c.value_mut-core.result.now c.poll_recv_many-polled.new.core _ _ _ (c.value_mut-core.ensures.value ∙ c.lock-held.ensures.held.1)
          c.new-bell.ensures told.found told.made told.woken same.0 same.1,
    )) polled.unpolled polled.unchanged

pub returns-clause-step : goal.returns-clause-step
returns-clause-step g c = let told = c.give_back.ensures in let polled = c.poll_recv_many-polled.ensures in
    has_polled c.give_back.new.pass c.value_mut-core.result.now c.poll_recv_many-polled.new.core _ _ _ (c.value_mut-core.ensures.value ∙ c.lock-held.ensures.held.1)
    c.new-bell.ensures told.found told.made told.woken
    (λ channel. polled_receives c.args.ticket.now (taken_count c.args.limit channel) channel) (c.poll_recv_many-polled.new.ticket ≡ None) c.poll_recv_many-polled.result polled.finished polled.after polled.rung

pub returns-clause-received : goal.returns-clause-received
returns-clause-received g c = let shows = c.value_mut-core.ensures.value ∙ c.lock-held.ensures.held.1 in
    subst (λ channel. IfOk c.poll_recv_many-polled.result (λ poll. IfReady poll (λ count. 0 < count → TellsEach g.M.Received.then (view c.args.pass.now) (take count channel.messages) (view c.give_back.new.pass))))
    (shows ∙ sym c.give_back.ensures.found)
    (poll_tells c.value_mut-core.result.now (found c.lock-held.result) c.poll_recv_many-polled.new.core shows _ _ _ c.lock-held.ensures.same.1 g.M.Received.then (Fitted g.P.Protocol.holds) g.E.AtEnd.then c.give_back.ensures.rule
    c.args.limit c.requires.limited c.poll_recv_many-polled.result
    (on_ready c.poll_recv_many-polled.result (λ is. ap (λ state. state.messages) (ap state_of is ∙ left_by_receives (taken_count c.args.limit c.value_mut-core.result.now) _)) c.poll_recv_many-polled.ensures.after)
    c.poll_recv_many-polled.ensures.reply)

pub returns-clause-end : goal.returns-clause-end
returns-clause-end g c = let shows = c.value_mut-core.ensures.value ∙ c.lock-held.ensures.held.1 in
    poll_ends c.value_mut-core.result.now (found c.lock-held.result) c.poll_recv_many-polled.new.core shows _ _ _ c.lock-held.ensures.same.1 g.M.Received.then (Fitted g.P.Protocol.holds) g.E.AtEnd.then c.give_back.ensures.rule
    c.args.limit c.requires.limited c.poll_recv_many-polled.result c.poll_recv_many-polled.ensures.reply

pub returns-clause-empty : goal.returns-clause-empty
returns-clause-empty g c = let shows = c.value_mut-core.ensures.value ∙ c.lock-held.ensures.held.1 in
    poll_finds_none c.value_mut-core.result.now (found c.lock-held.result) c.poll_recv_many-polled.new.core shows _ _ _ c.lock-held.ensures.same.1 g.M.Received.then (Fitted g.P.Protocol.holds) g.E.AtEnd.then c.give_back.ensures.rule
    c.args.limit c.requires.limited c.poll_recv_many-polled.result c.poll_recv_many-polled.ensures.reply

pub returns-clause-memory : goal.returns-clause-memory
returns-clause-memory g c = let shows = c.value_mut-core.ensures.value ∙ c.lock-held.ensures.held.1 in
    poll_keeps_view c.value_mut-core.result.now (found c.lock-held.result) c.poll_recv_many-polled.new.core shows _ _ _ c.lock-held.ensures.same.1 g.M.Received.then (Fitted g.P.Protocol.holds) g.E.AtEnd.then c.give_back.ensures.rule
    c.args.limit c.requires.limited c.poll_recv_many-polled.result (on_err c.poll_recv_many-polled.result (λ same _. same.0) c.poll_recv_many-polled.ensures.unchanged c.poll_recv_many-polled.ensures.unchanged)
    (on_err c.poll_recv_many-polled.result (λ wanted _. let room = c.args.into.now.ok.1 in ⊎_elim inl (λ less. inr (omega (arith, less, room))) wanted) c.poll_recv_many-polled.ensures.wanted c.poll_recv_many-polled.ensures.wanted)
