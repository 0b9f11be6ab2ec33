use Rattle.std.proofs.Common.{◌≡◌, [], drop, map}
use Rattle.channel_model.specs.declared.step.Kind.{Kind}
use Rattle.channel_run.specs.StandsFor.{StandsFor}
use Rattle.chanrun.proofs.LinesDone.{AreDone}
use Rattle.chanrun.proofs.script.write_answers.Given as goal

-- The lines before those that are left are done, on whichever channel the run began as.
abbrev pub invariant-loop-line : goal.invariant-loop-line
invariant-loop-line g l =
    (kind : Kind) → StandsFor kind [] l.fn.run → AreDone kind l.run (map (λ line. line.command) l.lines)
    (map (λ line. line.command) (drop l.line-index l.lines))
    (g.W.Sink.written l.fn.writer) (g.W.Sink.written l.writer)
    (g.W.Sink.failures l.fn.writer) (g.W.Sink.failures l.writer)
