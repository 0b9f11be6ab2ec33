use Rattle.std.proofs.Common.{◌≡◌, ◌+◌, ◌≤◌, ◌++◌, length, map}
use Rattle.chanrun.specs.Grammar.{lines_of}
use Rattle.chanrun.proofs.grammar.line.lines_of.Given as goal

-- the lines so far, and those of what is left, are the lines
abbrev pub invariant-loop-rest : goal.invariant-loop-rest
invariant-loop-rest l = record {
  all : map (λ line. line.now) l.lines.items ++ lines_of l.rest ≡ lines_of l.bytes;
  few : length l.lines.items + length l.rest ≤ length l.bytes;
}

abbrev pub decreases-loop-rest : goal.decreases-loop-rest
decreases-loop-rest l = length l.rest
