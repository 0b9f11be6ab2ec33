use Rattle.std.proofs.Common.{◌∙◌, ap, arith}
use Rattle.chanrun.specs.Grammar.{command_with}
use Rattle.chanrun.proofs.Words.{command_said, has_words}
use Rattle.chanrun.proofs.grammar.line.command_of.Goals as goal

pub returns : goal.returns
returns c =
    let words = has_words c.args.line.now c.in_ok-parts.parts.items _ _ c.in_ok-words.words.items c.as_slice.ensures.value c.in_ok-parts.ensures c.in-len1-up.len_at_least c.in_ok-words.ensures in
    c.command_with.ensures
    ∙ (ap (command_with c.in-Some.verb) c.as_slice-2.ensures.value
    ∙ command_said c.args.line.now _ c.in-Some.verb _ (omega arith) words c.in-Some.ensures)
