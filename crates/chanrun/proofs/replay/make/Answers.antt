use Rattle.std.proofs.Common.{sym}
use Rattle.channel_run.proofs.Steps.Decided.{answered, made_after}
use Rattle.chanrun.proofs.replay.make.Goals as goal

pub returns : goal.returns
returns c = λ kind past stands.
    let is = answered kind past c.args.step c.step-reply.result (c.step-reply.ensures.answer kind past stands) (sym c.if-wants_memory.ensures) in
    (is, made_after kind past c.args.step c.step-reply.result _ is (c.step-reply.ensures.stands kind past stands))
