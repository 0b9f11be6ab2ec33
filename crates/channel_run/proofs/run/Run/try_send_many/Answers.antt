use Rattle.std.proofs.Common.{◌≡◌, ◌∙◌, refl, sym, ap, subst, take}
use Rattle.channel_model.specs.declared.step.Kind.{Kind}
use Rattle.channel_model.specs.View.{View}
use Rattle.channel_core.specs.Channel.{Channel}
use Rattle.channel_core.specs.Batches.{moved_count}
use Rattle.channel_run.specs.StandsFor.{StandsFor}
use Rattle.channel_run.proofs.Tables.Batches.{sends_no_more, sent_in_turn}
use Rattle.channel_run.proofs.Tables.Kept.{kept_of, with_core}
use Rattle.channel_run.proofs.run.Run.try_send_many.Goals as goal
use Rattle.channel_run.proofs.run.Run.try_send_many.Goals.{in-Ok, in-Err}

pub returns-clause-in_turn : goal.returns-clause-in_turn
returns-clause-in_turn g c = λ kind past stands.
    let known = sym c.has.ensures ∙ c.if-not-has.false in
    let done = sent_in_turn kind c.args.sender
    (take (moved_count c.try_send_many.result) c.args.from.now.items) (kept_of c.self.inside)
    c.self.invariant.0 known
    (ap (λ (core : Channel g.row.T.Denot (Unit {0})). core.messages) (sym c.try_send_many.ensures.after)
    ∙ c.try_send_many.ensures.held) in
    let same : moved_count c.match-try_send_many.result ≡ moved_count c.try_send_many.result =
    elim c.match-try_send_many.branch [
      | in-Ok w ↦ rw (w.result-is, w.in-Ok.is) refl
      | in-Err w ↦ rw (w.result-is, w.in-Err.is) refl
    ] in
    let before = subst (λ (r : View g.row.T.Denot). StandsFor kind past r) (sym c.self.view_is) stands in
    rw (same, c.try_send_many.ensures.after) (done.1 past before)

pub invariant_of-self : goal.invariant_of-self
invariant_of-self g c =
    let known = sym c.has.ensures ∙ c.if-not-has.false in
    let done = sent_in_turn Kind.Unbounded c.args.sender
    (take (moved_count c.try_send_many.result) c.args.from.now.items) (kept_of c.self.inside)
    c.self.invariant.0 known
    (ap (λ (core : Channel g.row.T.Denot (Unit {0})). core.messages) (sym c.try_send_many.ensures.after)
    ∙ c.try_send_many.ensures.held) in
    rw c.try_send_many.ensures.after (done.0, c.self.invariant.1)

pub returns-clause-stops : goal.returns-clause-stops
returns-clause-stops g c = elim c.match-try_send_many.branch [
  | in-Ok w ↦ rw w.result-is
      (sends_no_more c.args.limit c.try_send_many.new.from.items
      (with_core (kept_of c.self.inside) c.try_send_many.new.self) c.try_send_many.result w.in-Ok.answer w.in-Ok.is
      c.try_send_many.ensures.stops)
  | in-Err w ↦ rw w.result-is tt
]
