use Rattle.std.proofs.Common.{◌≤◌, length, arith, ◌∙◌, ap, sym}
use Rattle.std.proofs.lemmas.List.{drop_all}
use Rattle.chanrun.specs.Digits.{digits_from}
use Rattle.chanrun.proofs.Numbers.{no_more}
use Rattle.chanrun.proofs.grammar.word.digits_of.Goals as goal

pub returns : goal.returns
returns c =
    let past : length c.args.word.now ≤ c.loop-byte.byte-index = omega arith in
    sym (no_more c.loop-byte.number c.loop-byte.invariant.small) ∙ (ap (digits_from c.loop-byte.number) (sym (drop_all _ _ past)) ∙ c.loop-byte.invariant.spells)
