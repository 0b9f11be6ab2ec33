use Rattle.std.proofs.Common.{◌≡◌, ◌∙◌, Some, sym, ap}
use Rattle.std.specs.Prelude.{is_some, Option}
use Rattle.event_list.specs.Keys.{is_among}
use Rattle.channel_model.specs.declared.step.Reply.TheVariants.{NextPolled}
use Rattle.channel_model.specs.View.{View}
use Rattle.channel_run.specs.RunShown.{entry_at}
use Rattle.channel_run.proofs.Tables.Entries.{is_among-entry_at}
use Rattle.channel_run.proofs.Polls.Outcome.{first_on_err, is_there, polled}
use Rattle.channel_run.proofs.Polls.Streams.{polled-stream}
use Rattle.channel_run.proofs.Tables.OneEntry.{changed}
use Rattle.channel_run.proofs.Tables.Kept.{kept_of}
use Rattle.channel_run.proofs.run.Run.poll_stream.Goals as goal
use Rattle.channel_run.proofs.run.Run.poll_stream.Goals.{in-Ok, in-Err}

pub returns-in_default : goal.returns-in_default
returns-in_default g c =
    let there = ap (λ (r : View g.row.T.Denot). is_among c.args.receiver r.receivers) c.self.view_is ∙ c.requires in
    let gone = sym (is_among-entry_at c.self.inside.receivers.entries c.args.receiver)
    ∙ ap (λ (found : Option (Option _)). is_some found) (sym c.in_default.ensures.value) in
    cc

pub invariant_of-self-2 : goal.invariant_of-self-2
invariant_of-self-2 g c =
    let now = c.poll_next.new.t in
    let entries = (c.get_mut.follows.lender now).entries in
    let was : entry_at c.self.inside.receivers.entries c.args.receiver ≡ Some c.in-Some.ticket.now =
    sym c.in-Some.ensures.value in
    let kept = c.get_mut.follows.holds now in
    let written = kept.3 (is_there _ _ was) in
    let change = changed c.args.receiver c.self.inside.receivers.entries entries (Some now) written.1 written.2 in
    let outcome = polled-stream (kept_of c.self.inside) c.self.invariant.0 c.args.receiver entries kept.1 kept.2
    c.in-Some.ticket.now now was change
    c.poll_next.result c.poll_next.new.self tt c.poll_next.ensures.reply c.poll_next.ensures.after
    c.poll_next.ensures.finished c.poll_next.ensures.waits
    (first_on_err _ _ c.poll_next.result c.poll_next.ensures.unchanged) c.poll_next.ensures.unpolled
    c.poll_next.ensures.wanted in
    (outcome.whole, c.self.invariant.1)

pub returns : goal.returns
returns g c =
    let now = c.poll_next.new.t in
    let entries = (c.get_mut.follows.lender now).entries in
    let was : entry_at c.self.inside.receivers.entries c.args.receiver ≡ Some c.in-Some.ticket.now =
    sym c.in-Some.ensures.value in
    let kept = c.get_mut.follows.holds now in
    let written = kept.3 (is_there _ _ was) in
    let change = changed c.args.receiver c.self.inside.receivers.entries entries (Some now) written.1 written.2 in
    let outcome = polled-stream (kept_of c.self.inside) c.self.invariant.0 c.args.receiver entries kept.1 kept.2
    c.in-Some.ticket.now now was change
    c.poll_next.result c.poll_next.new.self tt c.poll_next.ensures.reply c.poll_next.ensures.after
    c.poll_next.ensures.finished c.poll_next.ensures.waits
    (first_on_err _ _ c.poll_next.result c.poll_next.ensures.unchanged) c.poll_next.ensures.unpolled
    c.poll_next.ensures.wanted in
    let replied : c.match-poll_next.result ≡ polled NextPolled c.poll_next.result = elim c.match-poll_next.branch [
      | in-Ok w ↦ w.result-is ∙ sym (ap (λ r. polled NextPolled r) w.in-Ok.is)
      | in-Err w ↦ w.result-is ∙ sym (ap (λ r. polled NextPolled r) w.in-Err.is)
    ] in
    rw (← c.self.view_is, replied) outcome.polls
