use Rattle.std.proofs.lemmas.Result.{err_from_is_err_and}
use Rattle.chanrun.proofs.Known.{consumes_more}
use Rattle.chanrun.proofs.script.read_script.Goals as goal

pub returns-in_err-extend_from_slice-clause-err : goal.returns-in_err-extend_from_slice-clause-err
returns-in_err-extend_from_slice-clause-err g c =
    let p = err_from_is_err_and c.from_residual.result c.from_residual.ensures.1 in
    rw (p.1, p.2) (_, consumes_more _ _ _ c.loop-block.input.items _ c.loop-block.invariant.bytes c.in-Ok.ensures.bytes.0)
