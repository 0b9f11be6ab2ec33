use Rattle.std.proofs.Common.{◌≡◌, ◌∙◌, None, true, false, refl, sym, ap}
use Rattle.event_list.specs.Keys.{is_among}
use Rattle.channel_run.specs.declared.operations.Operation.TheVariants.{Closed}
use Rattle.channel_model.specs.declared.step.Refusal.{Refusal}
use Rattle.channel_model.specs.declared.step.Step.{Step}
use Rattle.channel_model.specs.View.{View}
use Rattle.channel_model.specs.Refusals.{is_operation}
use Rattle.channel_run.proofs.Tables.Entries.{is_some-shown}
use Rattle.channel_run.proofs.Outcomes.Operations.{made-start_closed}
use Rattle.channel_run.proofs.Tables.OneEntry.{nothing_at}
use Rattle.channel_run.proofs.Tables.MadeNames.{stepped-started}
use Rattle.channel_run.proofs.Steps.Wanting.{wants-name}
use Rattle.channel_run.proofs.Steps.Refused.{IsRefused-unchanged, StepsTo-made, StepsTo-wants, not_refused}
use Rattle.channel_run.proofs.Tables.Kept.{kept_of, shown_by}
use Rattle.channel_run.proofs.run.Run.start_closed.Goals as goal
use Rattle.channel_run.proofs.run.Run.start_closed.Goals.{in-Ok, in-Err}

pub put-requires-clause-free : goal.put-requires-clause-free
put-requires-clause-free g c = nothing_at c.self.inside.operations.by_name.entries c.args.op
    (sym (is_some-shown c.self.inside.operations.by_name.entries c.args.op)
    ∙ ap (λ (r : View g.row.T.Denot). is_operation r c.args.op) c.self.view_is ∙ sym c.has_operation.ensures
    ∙ c.if-has_operation.false)

pub invariant_of-self : goal.invariant_of-self
invariant_of-self g c =
    let run = shown_by (kept_of c.self.inside) in
    let fresh : is_operation run c.args.op ≡ false =
    ap (λ (r : View g.row.T.Denot). is_operation r c.args.op) c.self.view_is ∙ sym c.has_operation.ensures
    ∙ c.if-has_operation.false in
    let absent = nothing_at c.self.inside.operations.by_name.entries c.args.op
    (sym (is_some-shown c.self.inside.operations.by_name.entries c.args.op) ∙ fresh) in
    elim c.match-put.branch [
      | in-Ok w ↦ (
        (stepped-started (kept_of c.self.inside) c.self.invariant.0
            (Step.StartClosed c.args.op c.args.sender) c.args.op
            (Closed c.args.sender None) c.put.new.self.by_name.entries absent refl refl refl w.in-Ok.ensures.added
            w.in-Ok.ensures.more (made-start_closed run c.args.op c.args.sender fresh)).whole,
        c.put.ensures.counted,
      )
      | in-Err w ↦ (rw w.in-Err.ensures.unchanged c.self.invariant.0, c.put.ensures.counted)
    ]

pub returns : goal.returns
returns g c =
    let run = shown_by (kept_of c.self.inside) in
    let step = Step.StartClosed c.args.op c.args.sender in
    let known : is_among c.args.sender run.senders ≡ true = sym c.has.ensures ∙ c.if-not-has.false in
    let fresh : is_operation run c.args.op ≡ false =
    ap (λ (r : View g.row.T.Denot). is_operation r c.args.op) c.self.view_is ∙ sym c.has_operation.ensures
    ∙ c.if-has_operation.false in
    let absent = nothing_at c.self.inside.operations.by_name.entries c.args.op
    (sym (is_some-shown c.self.inside.operations.by_name.entries c.args.op) ∙ fresh) in
    let allowed = not_refused run step known fresh refl refl in
    elim c.match-put.branch [
      | in-Ok w ↦ rw (← c.self.view_is, w.result-is)
          (StepsTo-made run _ step _ allowed (stepped-started (kept_of c.self.inside) c.self.invariant.0 step c.args.op
          (Closed c.args.sender None) c.put.new.self.by_name.entries absent refl refl refl w.in-Ok.ensures.added
          w.in-Ok.ensures.more (made-start_closed run c.args.op c.args.sender fresh)).made)
      | in-Err w ↦ rw (
        ← c.self.view_is,
        w.result-is,
        w.into_message.ensures,
        w.in-Err.ensures.handed_back,
        w.in-Err.ensures.unchanged,
      )
          (StepsTo-wants run run step _ (wants-name run step allowed refl)
          (IsRefused-unchanged run step Refusal.OutOfMemory))
    ]
