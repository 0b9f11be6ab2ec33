use Rattle.std.proofs.Common.{◌≡◌, [], drop, map}
use Rattle.chanrun.specs.Trace.{polled_by}
use Rattle.chanrun.proofs.trace.polled_by.Given as goal

-- those so far, with those of the lines that are left, are all
abbrev pub invariant-loop-line : goal.invariant-loop-line
invariant-loop-line l =
    polled_by l.names.items (map (λ line. line.command) (drop l.line-index l.lines))
    ≡ polled_by [] (map (λ line. line.command) l.lines)
