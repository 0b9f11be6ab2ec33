use Rattle.std.proofs.Common.{arith}
use Rattle.chanrun.proofs.Numbers.{overflows, with_sum}
use Rattle.chanrun.proofs.grammar.word.with_digit.Goals as goal

pub returns-in_err-checked_mul : goal.returns-in_err-checked_mul
returns-in_err-checked_mul c =
    rw c.from_residual.ensures (λ others. overflows c.args.number c.args.byte others (omega arith) (omega arith) (omega (arith, c.in_err-checked_mul.ensures)))

pub returns : goal.returns
returns c =
    with_sum c.args.number c.args.byte c.checked_add.result (omega arith) (omega arith) (rw (c.in_ok-checked_mul.ensures.1, c.from-digit.ensures) at c.checked_add.ensures)
