use Rattle.std.proofs.Common.{◌++◌}
use Rattle.chanrun.proofs.Known.{appends_more}
use Rattle.chanexplore.proofs.report.write_outcomes.Goals as goal

pub loop-text-preserved : goal.loop-text-preserved
loop-text-preserved g c =
    let before = c.loop-text.invariant in
    let outcome = c.in_ok-write_outcome.ensures in
    (before.0 ++ outcome.0, appends_more _ _ _ before.0 outcome.0 before.1 outcome.1)
