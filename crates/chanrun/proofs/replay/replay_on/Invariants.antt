use Rattle.std.proofs.Common.{◌≡◌, ℕ, [], ◌++◌, drop, map}
use Rattle.channel_model.specs.declared.step.Kind.{Kind}
use Rattle.channel_model.specs.Past.{Past}
use Rattle.channel_run.specs.StandsFor.{StandsFor}
use Rattle.chanrun.specs.Replayed.{answers_text}
use Rattle.chanrun.specs.Script.{texts_after}
use Rattle.chanrun.proofs.replay.replay_on.Given as goal

-- A past stands for the run. The texts so far, and those of the lines that are left, are the texts.
abbrev pub invariant-loop-line : goal.invariant-loop-line
invariant-loop-line l =
    (kind : Kind) → StandsFor kind [] l.fn.run
    → (past : Past ℕ) × StandsFor kind past l.run
    × (answers_text l.answered.items ++ texts_after kind past (map (λ line. line.command) (drop l.line-index l.lines))
    ≡ texts_after kind [] (map (λ line. line.command) l.lines))
