use Rattle.example_tally.proofs.Sums.{forks, merges}
use Rattle.example_tally.proofs.tally.add_in_pair.Goals as goal

pub another-other-requires-clause-rule : goal.another-other-requires-clause-rule
another-other-requires-clause-rule g c = forks _ _ _

pub absorb-requires-clause-rule : goal.absorb-requires-clause-rule
absorb-requires-clause-rule g c = merges _ _ _ _ _
