use Rattle.std.proofs.Common.{◌∙◌}
use Rattle.chanexplore.proofs.Preparing.{one_prepared}
use Rattle.chanexplore.proofs.plan.prepare_all.Goals as goal

pub loop-command-preserved : goal.loop-command-preserved
loop-command-preserved c =
    let i = c.loop-command.invariant in
    (_, (c.in_ok-_answer.ensures c.args.kind i.0 i.1).1, one_prepared c.args.kind i.0 c.args.before.now c.loop-command.command-index _ c.loop-command-test.true ∙ i.2)
