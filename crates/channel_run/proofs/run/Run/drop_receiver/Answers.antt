use Rattle.std.proofs.Common.{◌≡◌, ◌∙◌, true, false, refl, sym, ap}
use Rattle.std.specs.Prelude.{is_some}
use Rattle.std.specs.Option.{option_flatten}
use Rattle.event_list.specs.Keys.{is_among}
use Rattle.channel_model.specs.Operations.{borrows_receiver}
use Rattle.channel_model.specs.declared.step.Refusal.{Refusal}
use Rattle.channel_model.specs.declared.step.Step.{Step}
use Rattle.channel_model.specs.View.{View}
use Rattle.channel_model.specs.Refusals.{is_borrowed}
use Rattle.channel_run.specs.RunShown.{entry_at, stream_ticket, ticket_at}
use Rattle.channel_run.proofs.Tables.Entries.{is_among-entry_at, list_any-shown}
use Rattle.channel_run.proofs.Tables.OneEntry.{flat}
use Rattle.channel_run.proofs.Tables.GivenUp.{stepped-drop_receiver}
use Rattle.channel_run.proofs.Steps.Refused.{IsRefused-unchanged, StepsTo-made, StepsTo-refused, borrowed_handle, not_refused}
use Rattle.channel_run.proofs.Tables.Kept.{kept_of, shown_by}
use Rattle.channel_run.proofs.run.Run.drop_receiver.Goals as goal

pub returns-then-is_receiver_borrowed : goal.returns-then-is_receiver_borrowed
returns-then-is_receiver_borrowed g c =
    let run = shown_by (kept_of c.self.inside) in
    let step = Step.DropReceiver c.args.name in
    let known = ap (λ (r : View g.row.T.Denot). is_among c.args.name r.receivers) c.self.view_is
    ∙ sym c.has_receiver.ensures ∙ c.if-not-has_receiver.false in
    let borrowed : is_borrowed run step ≡ true =
    list_any-shown (λ operation. borrows_receiver c.args.name operation) c.self.inside.operations.by_name.entries
    ∙ sym c.is_receiver_borrowed.ensures ∙ c.if-is_receiver_borrowed.true in
    rw (← c.self.view_is) (StepsTo-refused run run step Refusal.Borrowed _
    (borrowed_handle run step known refl borrowed) (IsRefused-unchanged run step Refusal.Borrowed))

pub invariant_of-self : goal.invariant_of-self
invariant_of-self g c =
    let known = ap (λ (r : View g.row.T.Denot). is_among c.args.name r.receivers) c.self.view_is
    ∙ sym c.has_receiver.ensures ∙ c.if-not-has_receiver.false in
    let is = stepped-drop_receiver (kept_of c.self.inside) c.take.new.entries.entries c.self.invariant.0 c.args.name
    c.take.ensures.different known c.take.ensures.left
    (c.take.ensures.fewer (ap (λ found. is_some found) c.take.ensures.value
    ∙ is_among-entry_at c.self.inside.receivers.entries c.args.name ∙ known))
    c.drop_receiver.ensures.other_side in
    let ticket : c.flatten-ticket.result ≡ ticket_at stream_ticket c.self.inside.receivers.entries c.args.name =
    c.flatten-ticket.ensures ∙ ap (λ found. option_flatten found) c.take.ensures.value
    ∙ flat (entry_at c.self.inside.receivers.entries c.args.name) in
    rw (c.drop_receiver.ensures.after, ticket) (is.whole, c.self.invariant.1)

pub returns : goal.returns
returns g c =
    let run = shown_by (kept_of c.self.inside) in
    let step = Step.DropReceiver c.args.name in
    let known = ap (λ (r : View g.row.T.Denot). is_among c.args.name r.receivers) c.self.view_is
    ∙ sym c.has_receiver.ensures ∙ c.if-not-has_receiver.false in
    let free : is_borrowed run step ≡ false =
    list_any-shown (λ operation. borrows_receiver c.args.name operation) c.self.inside.operations.by_name.entries
    ∙ sym c.is_receiver_borrowed.ensures ∙ c.if-is_receiver_borrowed.false in
    let is = stepped-drop_receiver (kept_of c.self.inside) c.take.new.entries.entries c.self.invariant.0 c.args.name
    c.take.ensures.different known c.take.ensures.left
    (c.take.ensures.fewer (ap (λ found. is_some found) c.take.ensures.value
    ∙ is_among-entry_at c.self.inside.receivers.entries c.args.name ∙ known))
    c.drop_receiver.ensures.other_side in
    let ticket : c.flatten-ticket.result ≡ ticket_at stream_ticket c.self.inside.receivers.entries c.args.name =
    c.flatten-ticket.ensures ∙ ap (λ found. option_flatten found) c.take.ensures.value
    ∙ flat (entry_at c.self.inside.receivers.entries c.args.name) in
    rw (← c.self.view_is, c.drop_receiver.ensures.after, ticket)
    (StepsTo-made run _ step _ (not_refused run step known refl free refl) is.made)
