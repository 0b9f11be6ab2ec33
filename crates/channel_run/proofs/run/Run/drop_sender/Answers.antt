use Rattle.std.proofs.Common.{◌≡◌, ◌∙◌, true, false, refl, sym, length, suc}
use Rattle.event_list.specs.Keys.{is_among}
use Rattle.channel_model.specs.Handles.{without}
use Rattle.channel_model.specs.Operations.{borrows_sender}
use Rattle.channel_model.specs.declared.step.Refusal.{Refusal}
use Rattle.channel_model.specs.declared.step.Step.{Step}
use Rattle.channel_model.specs.Refusals.{is_borrowed}
use Rattle.channel_run.proofs.Tables.Entries.{list_any-shown}
use Rattle.channel_run.proofs.Tables.PlainSteps.{stepped-drop_sender}
use Rattle.channel_run.proofs.Steps.Refused.{IsRefused-unchanged, StepsTo-made, StepsTo-refused, borrowed_handle, not_refused}
use Rattle.channel_run.proofs.Tables.Kept.{kept_of, shown_by}
use Rattle.channel_run.proofs.run.Run.drop_sender.Goals as goal

pub returns-then-is_sender_borrowed : goal.returns-then-is_sender_borrowed
returns-then-is_sender_borrowed g c =
    let run = shown_by (kept_of c.self.inside) in
    let step = Step.DropSender c.args.name in
    let known : is_among c.args.name run.senders ≡ true = sym c.has.ensures ∙ c.if-not-has.false in
    let borrowed : is_borrowed run step ≡ true =
    list_any-shown (λ operation. borrows_sender c.args.name operation) c.self.inside.operations.by_name.entries
    ∙ sym c.is_sender_borrowed.ensures ∙ c.if-is_sender_borrowed.true in
    rw (← c.self.view_is) (StepsTo-refused run run step Refusal.Borrowed _
    (borrowed_handle run step known refl borrowed) (IsRefused-unchanged run step Refusal.Borrowed))

pub invariant_of-self : goal.invariant_of-self
invariant_of-self g c =
    let fewer : length c.self.inside.senders ≡ suc (length (without c.args.name c.self.inside.senders)) =
    rw (← c.remove.ensures.left) (c.remove.ensures.fewer (sym c.has.ensures ∙ c.if-not-has.false)) in
    rw (c.drop_sender.ensures.after, c.remove.ensures.left) (
      (stepped-drop_sender (kept_of c.self.inside) c.self.invariant.0
          c.args.name fewer c.drop_sender.ensures.other_side).whole,
      c.self.invariant.1,
    )

pub returns : goal.returns
returns g c =
    let run = shown_by (kept_of c.self.inside) in
    let step = Step.DropSender c.args.name in
    let known : is_among c.args.name run.senders ≡ true = sym c.has.ensures ∙ c.if-not-has.false in
    let free : is_borrowed run step ≡ false =
    list_any-shown (λ operation. borrows_sender c.args.name operation) c.self.inside.operations.by_name.entries
    ∙ sym c.is_sender_borrowed.ensures ∙ c.if-is_sender_borrowed.false in
    let fewer : length c.self.inside.senders ≡ suc (length (without c.args.name c.self.inside.senders)) =
    rw (← c.remove.ensures.left) (c.remove.ensures.fewer known) in
    rw (← c.self.view_is, c.drop_sender.ensures.after, c.remove.ensures.left)
    (StepsTo-made run _ step _ (not_refused run step known refl free refl)
    (stepped-drop_sender (kept_of c.self.inside) c.self.invariant.0
    c.args.name fewer c.drop_sender.ensures.other_side).made)
