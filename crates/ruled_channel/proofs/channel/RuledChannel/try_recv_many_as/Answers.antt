use Rattle.std.proofs.Common.{◌∙◌, ap}
use Rattle.channel_core.specs.Batches.{moved_count}
use Rattle.ruled_mutex.specs.Passes.{found}
use Rattle.ruled_channel.specs.State.{state_of}
use Rattle.ruled_channel.specs.Passes.{key_of}
use Rattle.ruled_channel.proofs.Many.{left_by_receives}
use Rattle.std.proofs.Common.{sym, subst, IfOk, take, arith}
use Rattle.ruled_channel.specs.Rule.{TellsEach}
use Rattle.ruled_channel.specs.Passes.{view}
use Rattle.ruled_channel.proofs.Made.{on_err}
use Rattle.ruled_channel.proofs.Steps.{takes_many}
use Rattle.ruled_channel.proofs.Told.{finds_none, keeps_view, receives_tell}
use Rattle.channel_core.specs.Batches.{received_many}
use Rattle.ruled_channel.proofs.Made.{has_made_by_log}
use Rattle.ruled_channel.proofs.channel.RuledChannel.try_recv_many_as.Goals as goal

pub give_back-requires-clause-rule : goal.give_back-requires-clause-rule
give_back-requires-clause-rule g c = let same = c.lock-held.ensures.same in let shows = c.value_mut-core.ensures.value ∙ c.lock-held.ensures.held.1 in
    let core = c.value_mut-core.result.now in let taken = c.take_round-taken.ensures in
    takes_many core c.take_round-taken.new.core (found c.lock-held.result) (g.P.Protocol.holds (key_of c.args.self.now)) _ _ _ _ same.0.1 same.1 shows
    (moved_count c.take_round-taken.result) c.args.limit g.M.Received.then g.E.AtEnd.then g.L.Lesson.fact taken.limit
    (ap state_of taken.after ∙ left_by_receives (moved_count c.take_round-taken.result) core)
    c.requires.rule c.requires.end c.requires.lesson

pub returns-clause-step : goal.returns-clause-step
returns-clause-step g c = let told = c.give_back.ensures in let taken = c.take_round-taken.ensures in
    has_made_by_log c.give_back.new.pass c.value_mut-core.result.now c.take_round-taken.new.core _ _ _ (c.value_mut-core.ensures.value ∙ c.lock-held.ensures.held.1)
    c.new-bell.ensures told.found told.made told.woken
    (received_many (moved_count c.take_round-taken.result)) taken.after taken.rung

pub returns-clause-received : goal.returns-clause-received
returns-clause-received g c = let shows = c.value_mut-core.ensures.value ∙ c.lock-held.ensures.held.1 in
    subst (λ channel. IfOk c.take_round-taken.result (λ answer. IfOk answer (λ count. TellsEach g.M.Received.then (view c.args.pass.now) (take count channel.messages) (view c.give_back.new.pass))))
    (shows ∙ sym c.give_back.ensures.found)
    (receives_tell c.value_mut-core.result.now (found c.lock-held.result) c.take_round-taken.new.core shows _ _ _ c.lock-held.ensures.same.1 g.M.Received.then g.L.Lesson.fact g.E.AtEnd.then c.give_back.ensures.rule
    c.args.limit c.take_round-taken.result (ap (λ state. state.messages) (ap state_of c.take_round-taken.ensures.after ∙ left_by_receives (moved_count c.take_round-taken.result) c.value_mut-core.result.now)) c.take_round-taken.ensures.reply)

pub returns-clause-refused : goal.returns-clause-refused
returns-clause-refused g c = let shows = c.value_mut-core.ensures.value ∙ c.lock-held.ensures.held.1 in
    finds_none c.value_mut-core.result.now (found c.lock-held.result) c.take_round-taken.new.core shows _ _ _ c.lock-held.ensures.same.1 g.M.Received.then g.L.Lesson.fact g.E.AtEnd.then c.give_back.ensures.rule
    c.args.limit c.take_round-taken.result c.take_round-taken.ensures.reply

pub returns-clause-memory : goal.returns-clause-memory
returns-clause-memory g c = let shows = c.value_mut-core.ensures.value ∙ c.lock-held.ensures.held.1 in
    keeps_view c.value_mut-core.result.now (found c.lock-held.result) c.take_round-taken.new.core shows _ _ _ c.lock-held.ensures.same.1 g.M.Received.then g.L.Lesson.fact g.E.AtEnd.then c.give_back.ensures.rule
    c.args.limit c.take_round-taken.result (ap (λ state. state.messages) (ap state_of c.take_round-taken.ensures.after ∙ left_by_receives (moved_count c.take_round-taken.result) c.value_mut-core.result.now))
    (on_err c.take_round-taken.result (λ wanted _. let room = c.args.into.now.ok.1 in omega (arith, wanted, room)) c.take_round-taken.ensures.wanted c.take_round-taken.ensures.wanted)
