use Rattle.std.proofs.Common.{refl, ◌∙◌}
use Rattle.ruled_mutex.specs.Passes.{found}
use Rattle.ruled_channel.specs.Passes.{key_of}
use Rattle.ruled_channel.proofs.Steps.{keeps}
use Rattle.ruled_channel.proofs.channel.RuledChannel.learn_as.Goals as goal

pub give_back-requires-clause-rule : goal.give_back-requires-clause-rule
give_back-requires-clause-rule g c = let same = c.lock-held.ensures.same in let now = c.value_mut-core.result.now in
    keeps now now (found c.lock-held.result) (g.P.Protocol.holds (key_of c.args.self.now)) _ _ _ _ same.0.1 same.1 (c.value_mut-core.ensures.value ∙ c.lock-held.ensures.held.1) g.L.Lesson.fact refl c.requires.rule
