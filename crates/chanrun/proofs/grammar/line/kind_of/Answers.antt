use Rattle.std.proofs.Common.{arith}
use Rattle.chanrun.proofs.Words.{has_words, kind_said}
use Rattle.chanrun.proofs.grammar.line.kind_of.Goals as goal

pub returns-clause-said : goal.returns-clause-said
returns-clause-said c =
    kind_said c.args.line.now _ _ _ _ (omega arith) c.kind_with.ensures.said c.as_slice-2.ensures.value
    (has_words c.args.line.now c.in_ok-parts.parts.items _ _ c.in_ok-words.words.items c.as_slice.ensures.value c.in_ok-parts.ensures c.in-len1-up.len_at_least c.in_ok-words.ensures)
