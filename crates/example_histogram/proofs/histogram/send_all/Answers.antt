use Rattle.example_histogram.proofs.Keeps.{closes}
use Rattle.example_histogram.proofs.histogram.send_all.Goals as goal

pub close_as-requires-clause-rule : goal.close_as-requires-clause-rule
close_as-requires-clause-rule g c = closes _ _
