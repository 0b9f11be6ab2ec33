use Rattle.std.proofs.Common.{◌≡◌, ◌∙◌, true, false, refl, sym, ap, subst, None}
use Rattle.event_list.specs.Keys.{is_among}
use Rattle.channel_model.specs.Operations.{borrows_receiver}
use Rattle.channel_model.specs.declared.step.Refusal.{Refusal}
use Rattle.channel_model.specs.declared.step.Step.{Step}
use Rattle.channel_model.specs.View.{View}
use Rattle.channel_model.specs.Refusals.{is_borrowed, refusal_in}
use Rattle.channel_run.proofs.Tables.Entries.{list_any-shown}
use Rattle.channel_run.proofs.Steps.Refused.{StepsTo-allowed, IsRefused-unchanged, StepsTo-refused, borrowed_handle, not_refused}
use Rattle.channel_run.proofs.Tables.Kept.{kept_of, shown_by}
use Rattle.channel_run.proofs.run.Run.poll_next.Goals as goal

pub returns-then-is_receiver_borrowed : goal.returns-then-is_receiver_borrowed
returns-then-is_receiver_borrowed g c =
    let run = shown_by (kept_of c.self.inside) in
    let step = Step.PollNext c.args.receiver in
    let known = ap (λ (r : View g.row.T.Denot). is_among c.args.receiver r.receivers) c.self.view_is
    ∙ sym c.has_receiver.ensures ∙ c.if-not-has_receiver.false in
    let borrowed : is_borrowed run step ≡ true =
    list_any-shown (λ operation. borrows_receiver c.args.receiver operation) c.self.inside.operations.by_name.entries
    ∙ sym c.is_receiver_borrowed.ensures ∙ c.if-is_receiver_borrowed.true in
    rw (← c.self.view_is) (StepsTo-refused run run step Refusal.Borrowed _
    (borrowed_handle run step known refl borrowed) (IsRefused-unchanged run step Refusal.Borrowed))

pub returns : goal.returns
returns g c =
    let run = shown_by (kept_of c.self.inside) in
    let step = Step.PollNext c.args.receiver in
    let known = ap (λ (r : View g.row.T.Denot). is_among c.args.receiver r.receivers) c.self.view_is
    ∙ sym c.has_receiver.ensures ∙ c.if-not-has_receiver.false in
    let free : is_borrowed run step ≡ false =
    list_any-shown (λ operation. borrows_receiver c.args.receiver operation) c.self.inside.operations.by_name.entries
    ∙ sym c.is_receiver_borrowed.ensures ∙ c.if-is_receiver_borrowed.false in
    StepsTo-allowed c.args.self.now _ step _
    (subst (λ (r : View g.row.T.Denot). refusal_in r step ≡ None) c.self.view_is
    (not_refused run step known refl free refl)) c.poll_stream.ensures
