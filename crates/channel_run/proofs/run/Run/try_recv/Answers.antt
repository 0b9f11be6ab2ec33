use Rattle.std.proofs.Common.{◌∙◌, refl, sym, ap}
use Rattle.event_list.specs.Keys.{is_among}
use Rattle.channel_model.specs.declared.step.Step.{Step}
use Rattle.channel_model.specs.View.{View}
use Rattle.channel_run.proofs.Steps.Refused.{StepsTo-made, not_refused}
use Rattle.channel_run.proofs.Tables.PlainSteps.{stepped-try_recv}
use Rattle.channel_run.proofs.Tables.Kept.{kept_of, shown_by}
use Rattle.channel_run.proofs.run.Run.try_recv.Goals as goal

pub invariant_of-self : goal.invariant_of-self
invariant_of-self g c =
    rw c.try_recv.ensures.after (
      (stepped-try_recv (kept_of c.self.inside) c.self.invariant.0
          c.args.receiver).whole,
      c.self.invariant.1,
    )

pub returns : goal.returns
returns g c =
    let run = shown_by (kept_of c.self.inside) in
    let is = stepped-try_recv (kept_of c.self.inside) c.self.invariant.0
    c.args.receiver in
    let known = ap (λ (r : View g.row.T.Denot). is_among c.args.receiver r.receivers) c.self.view_is
    ∙ sym c.has_receiver.ensures ∙ c.if-not-has_receiver.false in
    rw (← c.self.view_is, c.try_recv.ensures.reply, c.try_recv.ensures.after)
    (StepsTo-made run _ (Step.TryRecv c.args.receiver) _
    (not_refused run (Step.TryRecv c.args.receiver) known refl refl refl) is.made)
