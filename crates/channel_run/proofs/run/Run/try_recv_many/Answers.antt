use Rattle.std.proofs.Common.{◌≡◌, ◌∙◌, refl, sym, ap, subst}
use Rattle.event_list.specs.Keys.{is_among}
use Rattle.channel_model.specs.declared.step.Kind.{Kind}
use Rattle.channel_model.specs.View.{View}
use Rattle.channel_core.specs.Batches.{moved_count}
use Rattle.channel_run.specs.StandsFor.{StandsFor}
use Rattle.channel_run.proofs.Tables.Batches.{received_in_turn, taken_held}
use Rattle.channel_run.proofs.Tables.Kept.{kept_of}
use Rattle.channel_run.proofs.run.Run.try_recv_many.Goals as goal
use Rattle.channel_run.proofs.run.Run.try_recv_many.Goals.{in-Ok, in-Err}

pub returns-clause-in_turn : goal.returns-clause-in_turn
returns-clause-in_turn g c = λ kind past stands.
    let known = ap (λ (r : View g.row.T.Denot). is_among c.args.receiver r.receivers) c.self.view_is
    ∙ sym c.has_receiver.ensures ∙ c.if-not-has_receiver.false in
    let done = received_in_turn kind c.args.receiver (moved_count c.try_recv_many.result)
    (kept_of c.self.inside) c.self.invariant.0 known
    (taken_held (moved_count c.try_recv_many.result) c.self.inside.core.messages c.args.into.now.items
    c.try_recv_many.new.into.items c.try_recv_many.ensures.taken c.try_recv_many.ensures.count) in
    let same : moved_count c.match-try_recv_many.result ≡ moved_count c.try_recv_many.result =
    elim c.match-try_recv_many.branch [
      | in-Ok w ↦ rw (w.result-is, w.in-Ok.is) refl
      | in-Err w ↦ rw (w.result-is, w.in-Err.is) refl
    ] in
    let before = subst (λ (r : View g.row.T.Denot). StandsFor kind past r) (sym c.self.view_is) stands in
    rw (same, ← c.self.view_is, c.try_recv_many.ensures.after) (done.1 past before)

pub invariant_of-self : goal.invariant_of-self
invariant_of-self g c =
    let known = ap (λ (r : View g.row.T.Denot). is_among c.args.receiver r.receivers) c.self.view_is
    ∙ sym c.has_receiver.ensures ∙ c.if-not-has_receiver.false in
    let done = received_in_turn Kind.Unbounded c.args.receiver (moved_count c.try_recv_many.result)
    (kept_of c.self.inside) c.self.invariant.0 known
    (taken_held (moved_count c.try_recv_many.result) c.self.inside.core.messages c.args.into.now.items
    c.try_recv_many.new.into.items c.try_recv_many.ensures.taken c.try_recv_many.ensures.count) in
    rw c.try_recv_many.ensures.after (done.0, c.self.invariant.1)
