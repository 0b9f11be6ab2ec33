use Rattle.std.proofs.Common.{ℕ, List}
use Rattle.std.specs.Io.KnownBytes.{Appends}
use Rattle.chanexplore.proofs.report.write_outcomes.Given as goal

-- something was written
abbrev pub invariant-loop-text : goal.invariant-loop-text
invariant-loop-text g l = (text : List ℕ) × Appends (g.W.Sink.written l.fn.writer) (g.W.Sink.written l.writer) text
