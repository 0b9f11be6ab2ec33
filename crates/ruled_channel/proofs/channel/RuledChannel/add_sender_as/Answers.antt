use Rattle.std.proofs.Common.{true, sym, refl, ap, ◌≡◌, ◌∙◌}
use Rattle.ruled_mutex.specs.Passes.{found}
use Rattle.channel_core.specs.Counts.{may_add}
use Rattle.ruled_channel.specs.State.{state_of, sender_more}
use Rattle.ruled_channel.specs.Passes.{key_of, view}
use Rattle.ruled_channel.specs.Guarded.{turned}
use Rattle.ruled_channel.proofs.Steps.{keeps, turns}
use Rattle.ruled_channel.proofs.channel.RuledChannel.add_sender_as.Goals as goal

pub give_back-requires-clause-rule : goal.give_back-requires-clause-rule
give_back-requires-clause-rule g c = let same = c.lock-held.ensures.same in let shows = c.value_mut-core.ensures.value ∙ c.lock-held.ensures.held.1 in
    turns c.value_mut-core.result.now c.add_sender-is_counted.new.self (found c.lock-held.result) (g.P.Protocol.holds (key_of c.args.self.now)) _ _ _ _ same.0.1 same.1 shows
    (λ s. may_add s.senders ≡ true) sender_more (λ _ w. g.M.Counted.then (view c.args.pass.now) w) (turned g.M.Counted.then)
    (sym c.if-is_counted.ensures.reply) (ap state_of c.if-is_counted.ensures.after) refl (λ w told. told) c.requires.rule

pub give_back-requires-else-is_counted-clause-rule : goal.give_back-requires-else-is_counted-clause-rule
give_back-requires-else-is_counted-clause-rule g c = let same = c.lock-held.ensures.same in let shows = c.value_mut-core.ensures.value ∙ c.lock-held.ensures.held.1 in
    keeps c.value_mut-core.result.now c.add_sender-is_counted.new.self (found c.lock-held.result) (g.P.Protocol.holds (key_of c.args.self.now)) _ _ _ _ same.0.1 same.1 shows (λ _ _. Unit {0})
    (ap state_of c.if-is_counted.ensures.after) (λ _ _ _ _. tt)
