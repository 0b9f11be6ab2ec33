use Rattle.std.proofs.Common.{◌≡◌, ◌<◌, ◌^◌, drop}
use Rattle.chanrun.specs.Digits.{digits_from}
use Rattle.chanrun.proofs.grammar.word.digits_of.Given as goal

-- the digits that are left, behind those that were read, spell what all spell
abbrev pub invariant-loop-byte : goal.invariant-loop-byte
invariant-loop-byte l = record {
  spells : digits_from l.number (drop l.byte-index l.word) ≡ digits_from 0 l.word;
  small : l.number < 2 ^ 64;
}
