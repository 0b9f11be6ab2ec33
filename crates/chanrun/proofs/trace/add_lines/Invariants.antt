use Rattle.std.proofs.Common.{◌≡◌, ℕ, [], ◌++◌, drop, map}
use Rattle.channel_model.specs.declared.step.Kind.{Kind}
use Rattle.channel_model.specs.Past.{Past}
use Rattle.channel_run.specs.StandsFor.{StandsFor}
use Rattle.chanrun.specs.Trace.{rows_after}
use Rattle.chanrun.proofs.trace.add_lines.Given as goal

-- A past stands for the run. The rows so far, and those of the lines that are left, are the rows.
abbrev pub invariant-loop-line : goal.invariant-loop-line
invariant-loop-line l =
    (kind : Kind) → StandsFor kind [] l.fn.run
    → (past : Past ℕ) × StandsFor kind past l.run
    × (l.rows.items ++ rows_after l.names kind past (map (λ line. (line.text.now, line.command)) (drop l.line-index l.lines))
    ≡ l.fn.rows.items ++ rows_after l.names kind [] (map (λ line. (line.text.now, line.command)) l.lines))
