use Rattle.std.proofs.Common.{◌+◌, sym}
use Rattle.std.proofs.lemmas.List.{take_rest}
use Rattle.chanrun.proofs.Lines.{cut_none, first_line, lines_whole}
use Rattle.chanrun.proofs.grammar.line.split_line.Goals as goal

pub returns-in-Some-clause-lines : goal.returns-in-Some-clause-lines
returns-in-Some-clause-lines c =
    rw (take_rest c.args.bytes.now (c.in-Some.end + 1)) (first_line c.args.bytes.now c.in-Some.end (sym c.in-Some.ensures))

pub returns-in-None-clause-lines : goal.returns-in-None-clause-lines
returns-in-None-clause-lines c =
    lines_whole c.args.bytes.now c.requires (cut_none 10 c.args.bytes.now (sym c.in-None.ensures))
