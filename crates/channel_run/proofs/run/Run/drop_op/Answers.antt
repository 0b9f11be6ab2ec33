use Rattle.std.proofs.Common.{◌∙◌, refl, sym, ap}
use Rattle.std.specs.Prelude.{is_some, Option}
use Rattle.channel_run.specs.declared.operations.Operation.{Operation as Started}
use Rattle.channel_model.specs.declared.step.Refusal.{Refusal}
use Rattle.channel_model.specs.declared.step.Step.{Step}
use Rattle.channel_run.specs.RunShown.{dropped}
use Rattle.channel_run.proofs.Tables.Entries.{is_some-shown}
use Rattle.channel_run.proofs.Tables.GivenUp.{stepped-drop_op}
use Rattle.channel_run.proofs.Steps.Refused.{IsRefused-unchanged, StepsTo-made, StepsTo-refused, not_refused, unknown_name}
use Rattle.channel_run.proofs.Tables.Kept.{kept_of, shown_by}
use Rattle.channel_run.proofs.run.Run.drop_op.Goals as goal

pub invariant_of-self : goal.invariant_of-self
invariant_of-self g c = (rw c.in_default.ensures.unchanged c.self.invariant.0, c.take.ensures.counted)

pub returns-in_default : goal.returns-in_default
returns-in_default g c =
    let run = shown_by (kept_of c.self.inside) in
    let step = Step.DropOp c.args.op in
    let unknown = is_some-shown c.self.inside.operations.by_name.entries c.args.op
    ∙ ap (λ (found : Option (Started g.row.T.Denot)). is_some found) (sym c.take.ensures.value ∙ c.in_default.is) in
    rw (← c.self.view_is, c.in_default.ensures.unchanged)
    (StepsTo-refused run run step Refusal.Unknown _ (unknown_name run step unknown)
    (IsRefused-unchanged run step Refusal.Unknown))

pub invariant_of-self-2 : goal.invariant_of-self-2
invariant_of-self-2 g c =
    let there = ap (λ (found : Option (Started g.row.T.Denot)). is_some found)
    (sym c.take.ensures.value ∙ c.in-Some.is) in
    let is = stepped-drop_op (kept_of c.self.inside)
    c.take.new.self.by_name.entries c.self.invariant.0 c.args.op
    c.take.ensures.different there c.take.ensures.left
    (c.take.ensures.fewer (ap (λ (found : Option (Started g.row.T.Denot)). is_some found) c.take.ensures.value
    ∙ there)) in
    let after = c.cancel.ensures ∙ ap (λ (found : Option (Started g.row.T.Denot)). dropped c.self.inside.core found)
    (sym c.in-Some.is ∙ c.take.ensures.value) in
    (rw after is.whole, c.take.ensures.counted)

pub returns : goal.returns
returns g c =
    let run = shown_by (kept_of c.self.inside) in
    let step = Step.DropOp c.args.op in
    let there = ap (λ (found : Option (Started g.row.T.Denot)). is_some found)
    (sym c.take.ensures.value ∙ c.in-Some.is) in
    let is = stepped-drop_op (kept_of c.self.inside)
    c.take.new.self.by_name.entries c.self.invariant.0 c.args.op
    c.take.ensures.different there c.take.ensures.left
    (c.take.ensures.fewer (ap (λ (found : Option (Started g.row.T.Denot)). is_some found) c.take.ensures.value
    ∙ there)) in
    let after = c.cancel.ensures ∙ ap (λ (found : Option (Started g.row.T.Denot)). dropped c.self.inside.core found)
    (sym c.in-Some.is ∙ c.take.ensures.value) in
    rw (← c.self.view_is, after)
    (StepsTo-made run _ step _ (not_refused run step
    (is_some-shown c.self.inside.operations.by_name.entries c.args.op ∙ there) refl refl refl) is.made)
