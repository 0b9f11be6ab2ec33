use Rattle.std.proofs.Common.{rules, ◌≡◌, ◌∷◌, [], length, sym, ap, ◌∙◌, append_assoc, append-nil, arith, refl}
use Rattle.std.specs.Vec.Iter.{into_iter_items}
use Rattle.channel_run.specs.Runs.{ComesTo}
use Rattle.channel_run.proofs.Steps.StepLists.{AreAnswers-more, conserved-StandsFor, length-AreAnswers}
use Rattle.channel_run.proofs.Tables.NewRun.{nothing_left}
use Rattle.channel_run.proofs.run.run_all.Goals as goal

pub loop-step-preserved : goal.loop-step-preserved
loop-step-preserved g c =
    let at = c.loop-step in
    let kind = c.args.kind in
    let step = c.in-Some.step in
    let reply = c.step-reply.result in
    let steps : into_iter_items at.step-iterator ≡ step ∷ into_iter_items c.next.new.self = c.in-Some.ensures.steps.0 in
    let came = at.invariant.came in
    let stands = c.step-reply.ensures.stands kind came.past came.stands in
    record {
      order = append_assoc at.yielded (step ∷ []) _ ∙ rw (← steps) at.invariant.order;
      left = (let was = at.invariant.left in let gone = c.in-Some.ensures.steps.1 in
          let short = ap length steps in omega arith);
      came = rw c.in-Ok-push.ensures.items (record {
        past = _;
        answers = AreAnswers-more kind [] at.yielded at.replies.items came.past step reply came.answers
            (c.step-reply.ensures.answer kind came.past came.stands);
        stands = stands;
        conserved = conserved-StandsFor kind _ _ stands;
      });
      room = (let was = at.invariant.room in let gone = c.in-Some.ensures.steps.1 in
          let more = c.in-Ok-push.ensures.len in let kept = c.in-Ok-push.ensures.capacity in omega arith);
    }

pub loop-step-init : goal.loop-step-init
loop-step-init g c =
    let stands = c.in-Ok-new.ensures in
    let none = c.in-Ok.ensures.items in
    let made : ComesTo c.args.kind [] [] c.in-Ok-new.run' =
    record { past = []; answers = refl; stands = stands; conserved = conserved-StandsFor c.args.kind [] _ stands }
    in
    record {
      order = refl;
      left = search rules;
      came = rw none made;
      room = search rules;
    }

pub returns-clause-made : goal.returns-clause-made
returns-clause-made g c =
    let at = c.loop-step in
    let none = c.in-None.ensures.steps in
    let empty : into_iter_items at.step-iterator ≡ [] = nothing_left _ (sym at.invariant.left ∙ none.0) in
    let all : at.yielded ≡ c.args.steps.items = sym (append-nil at.yielded) ∙ rw empty at at.invariant.order
    ∙ c.into_iter-step-iterator.ensures.into_iter_gives.0 in
    rw (← all) at.invariant.came

pub returns-clause-count : goal.returns-clause-count
returns-clause-count g c =
    let at = c.loop-step in
    let none = c.in-None.ensures.steps in
    let empty : into_iter_items at.step-iterator ≡ [] = nothing_left _ (sym at.invariant.left ∙ none.0) in
    let all : at.yielded ≡ c.args.steps.items = sym (append-nil at.yielded) ∙ rw empty at at.invariant.order
    ∙ c.into_iter-step-iterator.ensures.into_iter_gives.0 in
    let came = at.invariant.came in
    rw (← all) (length-AreAnswers c.args.kind [] at.yielded at.replies.items came.past came.answers)
