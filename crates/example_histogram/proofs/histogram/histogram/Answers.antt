use Rattle.std.proofs.Common.{None, rules}
use Rattle.example_histogram.proofs.Keeps.{begins, forks, merges, learns}
use Rattle.example_histogram.proofs.histogram.histogram.Goals as goal

pub bounded_with-requires-clause-rule : goal.bounded_with-requires-clause-rule
bounded_with-requires-clause-rule g c = begins None

pub another-counts-requires-clause-rule : goal.another-counts-requires-clause-rule
another-counts-requires-clause-rule g c = forks _ _ (search rules) (search rules)

pub absorb-requires-clause-rule : goal.absorb-requires-clause-rule
absorb-requires-clause-rule g c = merges _ _ _ _ (search rules) (search rules)

pub learn_as-requires-clause-rule : goal.learn_as-requires-clause-rule
learn_as-requires-clause-rule g c = learns _ _ (search rules) (search rules) (search rules)
