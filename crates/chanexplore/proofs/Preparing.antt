-- The lines before the parties, one after the other.
use Rattle.std.proofs.Common.{◌≡◌, ℕ, suc, ◌+◌, ◌<◌, List, length, get_or, drop, drop-cons, sym, ap, ◌∙◌, arith}
use Rattle.channel_model.specs.declared.step.Kind.{Kind}
use Rattle.channel_model.specs.Past.{Past}
use Rattle.chanrun.specs.declared.grammar.command.Command.{Command}
use Rattle.chanrun.specs.Script.{past_after_all, past_after_command}

-- the next line's past, and then that of the others, is the past of those that were left
pub one_prepared : (kind : Kind) (past : Past ℕ) (commands : List Command) (index : ℕ) (other : Command) → index < length commands
    → past_after_all kind (past_after_command kind past (get_or commands index other)) (drop (index + 1) commands)
    ≡ past_after_all kind past (drop index commands)
one_prepared kind past commands index other less =
    let same : index + 1 ≡ suc index = omega arith in
    ap (λ n. past_after_all kind (past_after_command kind past (get_or commands index other)) (drop n commands)) same
    ∙ sym (ap (past_after_all kind past) (drop-cons commands index other less))
