use Rattle.std.proofs.Common.{ap, arith}
use Rattle.example_histogram.proofs.Keeps.{sends}
use Rattle.example_histogram.proofs.histogram.send_each.Goals as goal

pub send_blocking_as-requires-clause-rule : goal.send_blocking_as-requires-clause-rule
send_blocking_as-requires-clause-rule g c = sends _ _ _ (omega arith) (ap (λ v. v.sends) c.loop-next.invariant.1)
