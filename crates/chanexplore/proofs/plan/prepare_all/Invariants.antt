use Rattle.std.proofs.Common.{◌≡◌, ℕ, [], drop}
use Rattle.channel_model.specs.Past.{Past}
use Rattle.channel_run.specs.StandsFor.{StandsFor}
use Rattle.chanrun.specs.Script.{past_after_all}
use Rattle.chanexplore.proofs.plan.prepare_all.Given as goal

-- a past stands for the run, and the lines that are left lead from it to the past of them all
abbrev pub invariant-loop-command : goal.invariant-loop-command
invariant-loop-command l =
    (past : Past ℕ) × StandsFor l.fn.kind past l.run
    × (past_after_all l.fn.kind past (drop l.command-index l.before) ≡ past_after_all l.fn.kind [] l.before)
