use Rattle.std.proofs.Common.{◌≡◌, ◌++◌, drop}
use Rattle.std.specs.List.{flat_map}
use Rattle.chanrun.specs.Trace.{message_word}
use Rattle.chanrun.proofs.trace.add_held.Given as goal

-- the text, with the words of the messages that are left, is what it is to be
abbrev pub invariant-loop-place : goal.invariant-loop-place
invariant-loop-place l =
    l.text.items ++ flat_map message_word (drop l.place l.run.messages)
    ≡ l.fn.text.items ++ flat_map message_word l.run.messages
