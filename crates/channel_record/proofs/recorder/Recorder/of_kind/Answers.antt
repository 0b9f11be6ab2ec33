use Rattle.std.proofs.Common.{sym, subst, ℕ, Option}
use Rattle.std.specs.Prelude.{IsSome}
use Rattle.channel_record.proofs.Lists.{is_left}
use Rattle.channel_record.proofs.recorder.Recorder.of_kind.Goals as goal

pub unwrap-requires : goal.unwrap-requires
unwrap-requires g c =
    subst (λ (next : Option ℕ). IsSome next) (sym c.draw.ensures.given)
    (is_left c.args.maker.now c.is_spent.result c.is_spent.ensures c.if-is_spent.false)
