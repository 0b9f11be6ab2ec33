use Rattle.std.proofs.Common.{◌≡◌, Bool, true, false, true≢false, map, ap, ◌∙◌, subst}
use Rattle.std.specs.List.{All}
use Rattle.std.proofs.lemmas.List.Elements.{All-head, All-tail}
use Rattle.ruled_channel_rules.specs.Handles.{known, sender_closed, receiver_closed, has_ended, sent_by, got_by}
use Rattle.parallel_map.specs.Workers.{AreEndsOf, AreDone}
use Rattle.parallel_map.proofs.Back.{one_back, one_done}
use Rattle.parallel_map.proofs.workers.join_all.Goals as goal

pub take_back-requires-clause-ends : goal.take_back-requires-clause-ends
take_back-requires-clause-ends g c =
    let left = subst (All (λ worker. worker.promise.task.now ≡ c.args.task.now)) c.in-Some.ensures.steps.0 c.loop-worker.invariant.left in
    let here = All-head (λ worker. worker.promise.task.now ≡ c.args.task.now) _ _ left in
    let ends = c.join-ends.result.0 in
    subst (λ task. AreEndsOf task.places task.chunks ends.places ends.chunks) here c.join-ends.ensures.0

pub loop-worker-preserved-then-all_well : goal.loop-worker-preserved-then-all_well
loop-worker-preserved-then-all_well g c =
    let i = c.loop-worker.invariant in
    let left = subst (All (λ worker. worker.promise.task.now ≡ c.args.task.now)) c.in-Some.ensures.steps.0 i.left in
    let here = All-head (λ worker. worker.promise.task.now ≡ c.args.task.now) _ _ left in
    let ends = c.join-ends.result.0 in
    record {
      own = c.take_back.ensures.own;
      left = All-tail (λ worker. worker.promise.task.now ≡ c.args.task.now) _ _ left;
      back = one_back (known c.loop-worker.hubs.places) (known c.loop-worker.hubs.chunks) (sender_closed ends.chunks) (receiver_closed ends.places) (has_ended ends.places) (got_by ends.places) (sent_by ends.chunks) _ _
          c.take_back.ensures.places c.take_back.ensures.chunks c.loop-worker.yielded c.in-Some.worker i.back;
      same = ap (λ jobs. jobs.receivers) c.take_back.ensures.places ∙ i.same;
      done = λ well.
          let of = subst (λ task. AreDone (map g.J.Job.answer task.inputs.now) task.size ends.places ends.chunks) here (c.join-ends.ensures.1 well) in
          one_done (known c.loop-worker.hubs.places) (known c.loop-worker.hubs.chunks) (sender_closed ends.chunks) (receiver_closed ends.places) (has_ended ends.places) (got_by ends.places) (sent_by ends.chunks) _ _
          c.take_back.ensures.places c.take_back.ensures.chunks (map g.J.Job.answer c.args.task.now.inputs.now) c.args.task.now.size
          (i.done c.if-all_well.true) of.0 of.1;
    }

pub loop-worker-preserved : goal.loop-worker-preserved
loop-worker-preserved g c =
    let i = c.loop-worker.invariant in
    let left = subst (All (λ worker. worker.promise.task.now ≡ c.args.task.now)) c.in-Some.ensures.steps.0 i.left in
    let ends = c.join-ends.result.0 in
    let gave_up = c.if-all_well.false in
    record {
      own = c.take_back.ensures.own;
      left = All-tail (λ worker. worker.promise.task.now ≡ c.args.task.now) _ _ left;
      back = one_back (known c.loop-worker.hubs.places) (known c.loop-worker.hubs.chunks) (sender_closed ends.chunks) (receiver_closed ends.places) (has_ended ends.places) (got_by ends.places) (sent_by ends.chunks) _ _
          c.take_back.ensures.places c.take_back.ensures.chunks c.loop-worker.yielded c.in-Some.worker i.back;
      same = ap (λ jobs. jobs.receivers) c.take_back.ensures.places ∙ i.same;
      done = λ well. let clash : ◌≡◌ {A = Bool} true false = cc in absurd (true≢false clash);
    }
