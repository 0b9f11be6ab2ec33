use Rattle.std.proofs.Common.{◌∙◌, refl, sym, ap}
use Rattle.channel_model.specs.declared.step.Step.{Step}
use Rattle.channel_model.specs.View.{View}
use Rattle.channel_model.specs.Refusals.{is_handle}
use Rattle.channel_run.proofs.Steps.Refused.{StepsTo-made, not_refused}
use Rattle.channel_run.proofs.Tables.PlainSteps.{stepped-close}
use Rattle.channel_run.proofs.Tables.Kept.{kept_of, shown_by}
use Rattle.channel_run.proofs.run.Run.close.Goals as goal

pub invariant_of-self : goal.invariant_of-self
invariant_of-self g c =
    rw c.close.ensures.after (
      (stepped-close (kept_of c.self.inside) c.self.invariant.0 c.args.side).whole,
      c.self.invariant.1,
    )

pub returns : goal.returns
returns g c =
    let run = shown_by (kept_of c.self.inside) in
    let is = stepped-close (kept_of c.self.inside) c.self.invariant.0
    c.args.side in
    let known = ap (λ (r : View g.row.T.Denot). is_handle r c.args.side) c.self.view_is ∙ sym c.has_handle.ensures
    ∙ c.if-not-has_handle.false in
    rw (← c.self.view_is, c.close.ensures.reply, c.close.ensures.after)
    (StepsTo-made run _ (Step.Close c.args.side) _
    (not_refused run (Step.Close c.args.side) known refl refl refl) is.made)
