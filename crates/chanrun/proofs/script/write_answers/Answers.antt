use Rattle.std.proofs.lemmas.Result.{err_from_is_err_and}
use Rattle.chanrun.proofs.LinesDone.{ended_at_line, one_left, one_more_done}
use Rattle.chanrun.proofs.script.write_answers.Goals as goal

pub returns-in_err-write_answer : goal.returns-in_err-write_answer
returns-in_err-write_answer g c = λ kind stands.
    let is = c.loop-line.invariant kind stands in
    let p = err_from_is_err_and c.from_residual.result c.from_residual.ensures.1 in
    rw (p.1, p.2)
    (ended_at_line kind _ _ _ _ _ _ _ _ _ _ _ _ is (one_left (λ line. line.command) c.args.lines.now c.loop-line.line-index _ c.loop-line-test.true)
    (c.in_err-write_answer.ensures.err kind is.past is.stands))

pub loop-line-preserved : goal.loop-line-preserved
loop-line-preserved g c = λ kind stands.
    let is = c.loop-line.invariant kind stands in
    let k = c.in_ok-write_answer.ensures.ok kind is.past is.stands in
    one_more_done kind _ _ _ _ _ _ _ _ _ _ _ _ is
    (one_left (λ line. line.command) c.args.lines.now c.loop-line.line-index _ c.loop-line-test.true) k.0 k.1 k.2
