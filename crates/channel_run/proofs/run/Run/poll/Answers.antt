use Rattle.std.proofs.Common.{◌≡◌, ◌∙◌, Some, refl, sym, ap}
use Rattle.std.specs.Prelude.{Option, is_some}
use Rattle.channel_run.specs.declared.operations.Operation.{Operation as Started}
use Rattle.channel_run.specs.declared.operations.Operation.TheVariants.{Send, Recv, Closed}
use Rattle.channel_model.specs.declared.step.Refusal.{Refusal}
use Rattle.channel_model.specs.declared.step.Reply.TheVariants.{SendPolled, RecvPolled, ClosedPolled}
use Rattle.channel_model.specs.declared.step.Step.{Step}
use Rattle.channel_run.specs.RunShown.{entry_at}
use Rattle.channel_run.proofs.Tables.Entries.{is_some-shown}
use Rattle.channel_run.proofs.Polls.Outcome.{first_on_err, is_there, polled}
use Rattle.channel_run.proofs.Polls.Closeds.{polled-closed}
use Rattle.channel_run.proofs.Polls.Receives.{polled-recv}
use Rattle.channel_run.proofs.Polls.Sends.{polled-send}
use Rattle.channel_run.proofs.Tables.Borrowing.{counted_set}
use Rattle.channel_run.proofs.Tables.OneEntry.{changed}
use Rattle.channel_run.proofs.Steps.Refused.{IsRefused-unchanged, StepsTo-refused, unknown_name}
use Rattle.channel_run.proofs.Tables.Kept.{kept_of, shown_by}
use Rattle.channel_run.proofs.run.Run.poll.Goals as goal
use Rattle.channel_run.proofs.run.Run.poll.Goals.{in-Ok, in-Err, in-Ok-poll_recv, in-Err-poll_recv, in-Ok-poll_closed, in-Err-poll_closed}

pub returns-in_default : goal.returns-in_default
returns-in_default g c =
    let run = shown_by (kept_of c.self.inside) in
    let step = Step.Poll c.args.op in
    let unknown = is_some-shown c.self.inside.operations.by_name.entries c.args.op
    ∙ ap (λ (found : Option (Started g.row.T.Denot)). is_some found) (sym c.in_default.ensures.value) in
    rw (← c.self.view_is, c.get_mut.follows.holds-at-none)
    (StepsTo-refused run run step Refusal.Unknown _ (unknown_name run step unknown)
    (IsRefused-unchanged run step Refusal.Unknown))

pub invariant_of-self-in-Send : goal.invariant_of-self-in-Send
invariant_of-self-in-Send g c =
    let now : Started g.row.T.Denot = Send c.in-Send.sender c.poll_send.new.m c.poll_send.new.t in
    let entries = (c.get_mut.follows.lender now).entries in
    let was : entry_at c.self.inside.operations.by_name.entries c.args.op
    ≡ Some (Send c.in-Send.sender c.in-Send.message c.in-Send.ticket) = sym c.in-Some.ensures.value
    ∙ ap (λ (o : Started g.row.T.Denot). Some o) c.in-Send.is in
    let kept = c.get_mut.follows.holds now in
    let written = kept.3 (is_there _ _ was) in
    let change = changed c.args.op c.self.inside.operations.by_name.entries entries (Some now) written.1 written.2 in
    let outcome = polled-send (kept_of c.self.inside) c.self.invariant.0 c.args.op entries kept.2
    c.in-Send.sender c.in-Send.message c.poll_send.new.m c.in-Send.ticket
    c.poll_send.new.t was change c.poll_send.result c.poll_send.new.self tt c.poll_send.ensures.reply
    c.poll_send.ensures.after c.poll_send.ensures.finished c.poll_send.ensures.waits c.poll_send.ensures.kept
    (first_on_err _ _ c.poll_send.result c.poll_send.ensures.unchanged) c.poll_send.ensures.unpolled
    c.poll_send.ensures.wanted in (
      outcome.whole,
      counted_set c.args.op c.self.inside.operations.by_name.entries entries _ now was
          (λ name. refl) (λ name. refl) kept.0 _ _ c.self.invariant.1,
    )

pub returns-after-poll_send : goal.returns-after-poll_send
returns-after-poll_send g c =
    let now : Started g.row.T.Denot = Send c.in-Send.sender c.poll_send.new.m c.poll_send.new.t in
    let entries = (c.get_mut.follows.lender now).entries in
    let was : entry_at c.self.inside.operations.by_name.entries c.args.op
    ≡ Some (Send c.in-Send.sender c.in-Send.message c.in-Send.ticket) = sym c.in-Some.ensures.value
    ∙ ap (λ (o : Started g.row.T.Denot). Some o) c.in-Send.is in
    let kept = c.get_mut.follows.holds now in
    let written = kept.3 (is_there _ _ was) in
    let change = changed c.args.op c.self.inside.operations.by_name.entries entries (Some now) written.1 written.2 in
    let outcome = polled-send (kept_of c.self.inside) c.self.invariant.0 c.args.op entries kept.2
    c.in-Send.sender c.in-Send.message c.poll_send.new.m c.in-Send.ticket
    c.poll_send.new.t was change c.poll_send.result c.poll_send.new.self tt c.poll_send.ensures.reply
    c.poll_send.ensures.after c.poll_send.ensures.finished c.poll_send.ensures.waits c.poll_send.ensures.kept
    (first_on_err _ _ c.poll_send.result c.poll_send.ensures.unchanged) c.poll_send.ensures.unpolled
    c.poll_send.ensures.wanted in
    let replied : c.match-poll_send.result ≡ polled SendPolled c.poll_send.result = elim c.match-poll_send.branch [
      | in-Ok w ↦ w.result-is ∙ sym (ap (λ r. polled SendPolled r) w.in-Ok.is)
      | in-Err w ↦ w.result-is ∙ sym (ap (λ r. polled SendPolled r) w.in-Err.is)
    ] in
    rw (← c.self.view_is, replied) outcome.steps

pub invariant_of-self-in-Recv : goal.invariant_of-self-in-Recv
invariant_of-self-in-Recv g c =
    let now : Started g.row.T.Denot = Recv c.in-Recv.receiver c.poll_recv.new.t in
    let entries = (c.get_mut.follows.lender now).entries in
    let was : entry_at c.self.inside.operations.by_name.entries c.args.op ≡ Some
    (Recv c.in-Recv.receiver c.in-Recv.ticket) =
    sym c.in-Some.ensures.value ∙ ap (λ (o : Started g.row.T.Denot). Some o) c.in-Recv.is in
    let kept = c.get_mut.follows.holds now in
    let written = kept.3 (is_there _ _ was) in
    let change = changed c.args.op c.self.inside.operations.by_name.entries entries (Some now) written.1 written.2 in
    let outcome = polled-recv (kept_of c.self.inside) c.self.invariant.0 c.args.op entries kept.2
    c.in-Recv.receiver c.in-Recv.ticket c.poll_recv.new.t was change
    c.poll_recv.result c.poll_recv.new.self tt c.poll_recv.ensures.reply c.poll_recv.ensures.after
    c.poll_recv.ensures.finished c.poll_recv.ensures.waits
    (first_on_err _ _ c.poll_recv.result c.poll_recv.ensures.unchanged) c.poll_recv.ensures.unpolled
    c.poll_recv.ensures.wanted in (
      outcome.whole,
      counted_set c.args.op c.self.inside.operations.by_name.entries entries _ now was
          (λ name. refl) (λ name. refl) kept.0 _ _ c.self.invariant.1,
    )

pub returns-after-poll_recv : goal.returns-after-poll_recv
returns-after-poll_recv g c =
    let now : Started g.row.T.Denot = Recv c.in-Recv.receiver c.poll_recv.new.t in
    let entries = (c.get_mut.follows.lender now).entries in
    let was : entry_at c.self.inside.operations.by_name.entries c.args.op ≡ Some
    (Recv c.in-Recv.receiver c.in-Recv.ticket) =
    sym c.in-Some.ensures.value ∙ ap (λ (o : Started g.row.T.Denot). Some o) c.in-Recv.is in
    let kept = c.get_mut.follows.holds now in
    let written = kept.3 (is_there _ _ was) in
    let change = changed c.args.op c.self.inside.operations.by_name.entries entries (Some now) written.1 written.2 in
    let outcome = polled-recv (kept_of c.self.inside) c.self.invariant.0 c.args.op entries kept.2
    c.in-Recv.receiver c.in-Recv.ticket c.poll_recv.new.t was change
    c.poll_recv.result c.poll_recv.new.self tt c.poll_recv.ensures.reply c.poll_recv.ensures.after
    c.poll_recv.ensures.finished c.poll_recv.ensures.waits
    (first_on_err _ _ c.poll_recv.result c.poll_recv.ensures.unchanged) c.poll_recv.ensures.unpolled
    c.poll_recv.ensures.wanted in
    let replied : c.match-poll_recv.result ≡ polled RecvPolled c.poll_recv.result = elim c.match-poll_recv.branch [
      | in-Ok-poll_recv w ↦ w.result-is ∙ sym (ap (λ r. polled RecvPolled r) w.in-Ok-poll_recv.is)
      | in-Err-poll_recv w ↦ w.result-is ∙ sym (ap (λ r. polled RecvPolled r) w.in-Err-poll_recv.is)
    ] in
    rw (← c.self.view_is, replied) outcome.steps

pub invariant_of-self-in-Closed : goal.invariant_of-self-in-Closed
invariant_of-self-in-Closed g c =
    let now : Started g.row.T.Denot = Closed c.in-Closed.sender c.poll_closed.new.t in
    let entries = (c.get_mut.follows.lender now).entries in
    let was : entry_at c.self.inside.operations.by_name.entries c.args.op
    ≡ Some (Closed c.in-Closed.sender c.in-Closed.ticket) = sym c.in-Some.ensures.value
    ∙ ap (λ (o : Started g.row.T.Denot). Some o) c.in-Closed.is in
    let kept = c.get_mut.follows.holds now in
    let written = kept.3 (is_there _ _ was) in
    let change = changed c.args.op c.self.inside.operations.by_name.entries entries (Some now) written.1 written.2 in
    let outcome = polled-closed (kept_of c.self.inside) c.self.invariant.0 c.args.op entries kept.2
    c.in-Closed.sender c.in-Closed.ticket c.poll_closed.new.t was change
    c.poll_closed.result c.poll_closed.new.self tt c.poll_closed.ensures.reply c.poll_closed.ensures.after
    c.poll_closed.ensures.finished c.poll_closed.ensures.waits c.poll_closed.ensures.unchanged
    c.poll_closed.ensures.unpolled c.poll_closed.ensures.wanted in (
      outcome.whole,
      counted_set c.args.op c.self.inside.operations.by_name.entries entries _ now was
          (λ name. refl) (λ name. refl) kept.0 _ _ c.self.invariant.1,
    )

pub returns-after-poll_closed : goal.returns-after-poll_closed
returns-after-poll_closed g c =
    let now : Started g.row.T.Denot = Closed c.in-Closed.sender c.poll_closed.new.t in
    let entries = (c.get_mut.follows.lender now).entries in
    let was : entry_at c.self.inside.operations.by_name.entries c.args.op
    ≡ Some (Closed c.in-Closed.sender c.in-Closed.ticket) = sym c.in-Some.ensures.value
    ∙ ap (λ (o : Started g.row.T.Denot). Some o) c.in-Closed.is in
    let kept = c.get_mut.follows.holds now in
    let written = kept.3 (is_there _ _ was) in
    let change = changed c.args.op c.self.inside.operations.by_name.entries entries (Some now) written.1 written.2 in
    let outcome = polled-closed (kept_of c.self.inside) c.self.invariant.0 c.args.op entries kept.2
    c.in-Closed.sender c.in-Closed.ticket c.poll_closed.new.t was change
    c.poll_closed.result c.poll_closed.new.self tt c.poll_closed.ensures.reply c.poll_closed.ensures.after
    c.poll_closed.ensures.finished c.poll_closed.ensures.waits c.poll_closed.ensures.unchanged
    c.poll_closed.ensures.unpolled c.poll_closed.ensures.wanted in
    let replied : c.match-poll_closed.result ≡ polled ClosedPolled c.poll_closed.result =
    elim c.match-poll_closed.branch [
      | in-Ok-poll_closed w ↦ w.result-is ∙ sym (ap (λ r. polled ClosedPolled r) w.in-Ok-poll_closed.is)
      | in-Err-poll_closed w ↦ w.result-is ∙ sym (ap (λ r. polled ClosedPolled r) w.in-Err-poll_closed.is)
    ] in
    rw (← c.self.view_is, replied) outcome.steps
