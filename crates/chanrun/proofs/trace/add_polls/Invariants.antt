use Rattle.std.proofs.Common.{ℕ, ◌≤◌, ◌-◌, ◌^◌}
use Rattle.channel_model.specs.declared.step.Kind.{Kind}
use Rattle.channel_model.specs.Past.{Past}
use Rattle.channel_run.specs.StandsFor.{StandsFor}
use Rattle.chanrun.proofs.Traced.{PolledSoFar}
use Rattle.chanrun.proofs.trace.add_polls.Given as goal

-- the polls so far, their number, their rows, and how many of them were ready
abbrev pub invariant-loop-polls : goal.invariant-loop-polls
invariant-loop-polls l = record {
  came : (kind : Kind) (past : Past ℕ) → StandsFor kind past l.fn.run
      → PolledSoFar kind past l.names l.fn.rows.items l.polls-counter l.ready l.rows.items l.run;
  few : l.ready ≤ l.polls-counter;
}
