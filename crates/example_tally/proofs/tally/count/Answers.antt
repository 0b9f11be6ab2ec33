use Rattle.std.proofs.Common.{◌∙◌}
use Rattle.example_tally.proofs.Sums.{keeps, learns}
use Rattle.example_tally.proofs.tally.count.Goals as goal

pub learn_as-requires-clause-rule : goal.learn_as-requires-clause-rule
learn_as-requires-clause-rule g c = learns _ _ _ _

pub unlock_as-requires-clause-rule : goal.unlock_as-requires-clause-rule
unlock_as-requires-clause-rule g c = keeps _ _ _ _ _ (c.value_mut-value.ensures.value ∙ (c.learn_as.ensures.held.1 ∙ c.lock-held.ensures.held.1))
