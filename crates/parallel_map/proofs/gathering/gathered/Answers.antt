use Rattle.std.proofs.Common.{◌++◌, sym, ap, ◌∙◌, inr, length, arith}
use Rattle.std.proofs.lemmas.Result.{err_from_is_err_and, IfOk-weaker, IfErr-weaker}
use Rattle.parallel_map.proofs.Filling.{taken_front, taken_all, written, none_filled, none_sound, more_sound, more_filled, refused_is_fault}
use Rattle.parallel_map.proofs.gathering.gathered.Goals as goal

pub loop-piece-init : goal.loop-piece-init
loop-piece-init g c = (
  none_sound c.args.inputs.now,
  rw c.in-Ok-vacant.ensures.empty
      (none_filled g.J.Job.answer c.args.inputs.now),
)

pub loop-piece-preserved : goal.loop-piece-preserved
loop-piece-preserved g c =
    let i = c.loop-piece.invariant in
    let filled = rw c.as_mut_slice.ensures.value at c.in_ok-fill.ensures.ok in
    let more = more_filled g.J.Job.answer c.args.inputs.now c.loop-piece.yielded
    c.loop-piece.slots.items c.in-Some.piece i.1 filled.0 in (
      more_sound g.J.Job.answer c.args.inputs.now c.loop-piece.yielded c.loop-piece.slots.items
          c.in-Some.piece i.0 i.1 filled.0 filled.1,
      rw (
        written c.fill.new.slots c.loop-piece.slots.items c.loop-piece.slots.len
            c.loop-piece.slots.ok.0
            (omega (arith, ap length c.as_mut_slice.ensures.value)),
        filled.2,
      ) more,
    )

pub returns-in_err-fill-clause-fault : goal.returns-in_err-fill-clause-fault
returns-in_err-fill-clause-fault g c =
    let i = c.loop-piece.invariant in
    let whole = sym c.into_iter-piece-iterator.ensures.into_iter_gives.0
    ∙ (taken_front _ _ _ c.loop-piece.yielded_by
    ∙ ap (λ ps. c.loop-piece.yielded ++ ps) c.in-Some.ensures.steps.0) in
    let p = err_from_is_err_and c.from_residual.result c.from_residual.ensures.1 in
    rw (p.1, p.2)
    (inr
    (refused_is_fault g.J.Job.answer c.args.inputs.now c.args.pieces.items c.loop-piece.yielded _
    c.loop-piece.slots.items c.in-Some.piece _ whole i.0 i.1
    (rw c.as_mut_slice.ensures.value at c.in_err-fill.ensures.err)))

pub returns-clause-whole : goal.returns-clause-whole
returns-clause-whole g c =
    let i = c.loop-piece.invariant in
    let gives = c.into_iter-piece-iterator.ensures.into_iter_gives in
    let whole = taken_all _ _ _ c.args.pieces.items gives.0 (gives.1
    ∙ c.args.pieces.ok.0) c.in-None.ensures.steps.0 c.loop-piece.yielded_by in
    IfOk-weaker c.answers_of.result _ _ (λ answers h. rw whole h.0)
    (c.answers_of.ensures.ok c.loop-piece.yielded i.0 i.1)

pub returns-clause-mapped : goal.returns-clause-mapped
returns-clause-mapped g c =
    let i = c.loop-piece.invariant in
    IfOk-weaker c.answers_of.result _ _ (λ answers h. h.1)
    (c.answers_of.ensures.ok c.loop-piece.yielded i.0 i.1)

pub returns-clause-fault : goal.returns-clause-fault
returns-clause-fault g c =
    let i = c.loop-piece.invariant in
    let gives = c.into_iter-piece-iterator.ensures.into_iter_gives in
    let whole = taken_all _ _ _ c.args.pieces.items gives.0 (gives.1
    ∙ c.args.pieces.ok.0) c.in-None.ensures.steps.0 c.loop-piece.yielded_by in
    IfErr-weaker c.answers_of.result _ _ (λ error h. inr (rw whole h))
    (c.answers_of.ensures.err c.loop-piece.yielded i.0 i.1)
