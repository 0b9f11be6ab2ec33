use Rattle.std.proofs.Common.{◌≡◌, ◌+◌, ◌++◌, drop, map}
use Rattle.chanrun.specs.Script.{commands_of, fault_from}
use Rattle.chanrun.specs.Parsed.{lines_said}
use Rattle.chanrun.proofs.parse.commands_in.Given as goal

-- the commands so far, and those of the lines that are left, are the commands; so is the fault
abbrev pub invariant-loop-text : goal.invariant-loop-text
invariant-loop-text l = record {
  number : l.number ≡ l.text-index + 1;
  commands : map (λ line. line.command) l.lines.items ++ commands_of (map (λ text. text.now) (drop l.text-index l.texts))
      ≡ commands_of (map (λ text. text.now) l.texts);
  said : map (λ line. (line.text.now, line.command)) l.lines.items ++ lines_said (map (λ text. text.now) (drop l.text-index l.texts))
      ≡ lines_said (map (λ text. text.now) l.texts);
  fault : fault_from (l.number + 1) (map (λ text. text.now) (drop l.text-index l.texts))
      ≡ fault_from 2 (map (λ text. text.now) l.texts);
}
