use Rattle.std.proofs.Common.{◌∙◌, ℕ, Some, None, Option, sym, ap}
use Rattle.std.specs.Prelude.{option_and_then}
use Rattle.channel_run.specs.declared.operations.Operation.{Operation as Started}
use Rattle.channel_model.specs.declared.step.Who.TheVariants.{Op, Receiver}
use Rattle.channel_run.specs.RunShown.{stream_ticket}
use Rattle.channel_run.proofs.Alike.SameNotices.{notice_shown-StandsFor}
use Rattle.channel_run.proofs.Told.TicketNotices.{notice-closed, notice-none, notice-recv, notice-send, notice-stream}
use Rattle.channel_run.proofs.Tables.Kept.{kept_of, shown_by}
use Rattle.channel_run.proofs.run.Run.notice_of.Goals as goal

pub returns-in-Some-Send : goal.returns-in-Some-Send
returns-in-Some-Send g c = λ kind past s.
    let run = shown_by (kept_of c.self.inside) in
    let stands = rw (← c.self.view_is) at s in
    rw c.in-Op.is (c.notice.ensures ∙ notice-send
    (kept_of c.self.inside) c.self.invariant.0 c.in-Op.op c.in-Some-Send.field-0-0 c.in-Some-Send.field-0-1
    c.in-Some-Send.ticket (sym c.in-Some-Send.ensures.value
    ∙ ap (λ (o : Started g.row.T.Denot). Some o) c.in-Some-Send.field-0-is)
    ∙ notice_shown-StandsFor kind past run (Op c.in-Op.op) stands)

pub returns-in-Some-Recv : goal.returns-in-Some-Recv
returns-in-Some-Recv g c = λ kind past s.
    let run = shown_by (kept_of c.self.inside) in
    let stands = rw (← c.self.view_is) at s in
    rw c.in-Op.is (c.notice-in-Some-Recv.ensures
    ∙ notice-recv (kept_of c.self.inside) c.self.invariant.0
    c.in-Op.op c.in-Some-Recv.field-0-0 c.in-Some-Recv.ticket
    (sym c.in-Some-Recv.ensures.value ∙ ap (λ (o : Started g.row.T.Denot). Some o) c.in-Some-Recv.field-0-is)
    ∙ notice_shown-StandsFor kind past run (Op c.in-Op.op) stands)

pub returns-in-Some-Closed : goal.returns-in-Some-Closed
returns-in-Some-Closed g c = λ kind past s.
    let run = shown_by (kept_of c.self.inside) in
    let stands = rw (← c.self.view_is) at s in
    rw c.in-Op.is (c.notice-in-Some-Closed.ensures
    ∙ notice-closed (kept_of c.self.inside) c.self.invariant.0
    c.in-Op.op c.in-Some-Closed.field-0-0 c.in-Some-Closed.ticket
    (sym c.in-Some-Closed.ensures.value ∙ ap (λ (o : Started g.row.T.Denot). Some o) c.in-Some-Closed.field-0-is)
    ∙ notice_shown-StandsFor kind past run (Op c.in-Op.op) stands)

pub returns-in-None : goal.returns-in-None
returns-in-None g c = λ kind past s.
    let run = shown_by (kept_of c.self.inside) in
    let stands = rw (← c.self.view_is) at s in
    rw c.in-Op.is (notice-none (kept_of c.self.inside) c.self.invariant.0
    c.in-Op.op (sym c.in-None.ensures.value) ∙ notice_shown-StandsFor kind past run (Op c.in-Op.op) stands)

pub returns-in-Some : goal.returns-in-Some
returns-in-Some g c = λ kind past s.
    let run = shown_by (kept_of c.self.inside) in
    let stands = rw (← c.self.view_is) at s in
    rw c.in-Receiver.is (c.notice-in-Some.ensures
    ∙ notice-stream (kept_of c.self.inside) c.self.invariant.0
    c.in-Receiver.receiver c.in-Some.ticket.now
    (ap (λ (f : Option (Option ℕ)). option_and_then stream_ticket f) (sym c.in-Some.ensures.value))
    ∙ notice_shown-StandsFor kind past run (Receiver c.in-Receiver.receiver) stands)

pub returns-in-None-get : goal.returns-in-None-get
returns-in-None-get g c = λ kind past s.
    let run = shown_by (kept_of c.self.inside) in
    let stands = rw (← c.self.view_is) at s in
    rw c.in-Receiver.is (notice-stream (kept_of c.self.inside) c.self.invariant.0
    c.in-Receiver.receiver None (ap (λ (f : Option (Option ℕ)). option_and_then stream_ticket f)
    (sym c.in-None-get.ensures.value)) ∙ notice_shown-StandsFor kind past run
    (Receiver c.in-Receiver.receiver) stands)
