use Rattle.std.proofs.Common.{◌≡◌, ◌∙◌, true, refl, sym}
use Rattle.event_list.specs.Keys.{is_among}
use Rattle.channel_model.specs.declared.step.Refusal.{Refusal}
use Rattle.channel_model.specs.declared.step.Step.{Step}
use Rattle.channel_run.proofs.Steps.Wanting.{wants-message}
use Rattle.channel_run.proofs.Steps.Refused.{IsRefused-unchanged, StepsTo-made, StepsTo-wants, not_refused}
use Rattle.channel_run.proofs.Tables.PlainSteps.{stepped-force_send}
use Rattle.channel_run.proofs.Tables.Kept.{kept_of, shown_by}
use Rattle.channel_run.proofs.run.Run.force_send.Goals as goal
use Rattle.channel_run.proofs.run.Run.force_send.Goals.{in-Ok, in-Err}

pub invariant_of-self : goal.invariant_of-self
invariant_of-self g c = elim c.match-force_send.branch [
  | in-Ok w ↦ rw w.in-Ok.ensures.after (
    (stepped-force_send (kept_of c.self.inside) c.self.invariant.0
        c.args.sender c.args.message).whole,
    c.self.invariant.1,
  )
  | in-Err w ↦ rw w.in-Err.ensures.unchanged c.self.invariant
]

pub returns : goal.returns
returns g c =
    let run = shown_by (kept_of c.self.inside) in
    let step = Step.ForceSend c.args.sender c.args.message in
    let is = stepped-force_send (kept_of c.self.inside) c.self.invariant.0
    c.args.sender c.args.message in
    let known : is_among c.args.sender c.self.inside.senders ≡ true = sym c.has.ensures ∙ c.if-not-has.false in
    let allowed = not_refused run step known refl refl refl in
    elim c.match-force_send.branch [
      | in-Ok w ↦ rw (← c.self.view_is, w.result-is, w.in-Ok.ensures.reply, w.in-Ok.ensures.after)
          (StepsTo-made run _ step _ allowed is.made)
      | in-Err w ↦ rw (← c.self.view_is, w.result-is, w.in-Err.ensures.handed_back, w.in-Err.ensures.unchanged)
          (StepsTo-wants run run step _ (wants-message run step allowed refl w.in-Err.ensures.wanted.1
          w.in-Err.ensures.wanted.0) (IsRefused-unchanged run step Refusal.OutOfMemory))
    ]
