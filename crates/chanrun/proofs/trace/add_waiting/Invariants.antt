use Rattle.std.proofs.Common.{◌≡◌, ℕ, ◌++◌, drop}
use Rattle.std.specs.List.{flat_map}
use Rattle.channel_model.specs.declared.step.Kind.{Kind}
use Rattle.channel_model.specs.Past.{Past}
use Rattle.channel_model.specs.Notices.{notice_of}
use Rattle.channel_run.specs.StandsFor.{StandsFor}
use Rattle.chanrun.specs.Trace.{waiting_word}
use Rattle.chanrun.proofs.trace.add_waiting.Given as goal

-- the text, with the words of those who are left, is what it is to be
abbrev pub invariant-loop-who : goal.invariant-loop-who
invariant-loop-who l =
    (kind : Kind) (past : Past ℕ) → StandsFor kind past l.run
    → l.text.items ++ flat_map (λ who. waiting_word who (notice_of past who)) (drop l.who-index l.names)
    ≡ l.fn.text.items ++ flat_map (λ who. waiting_word who (notice_of past who)) l.names
