use Rattle.std.proofs.Common.{rules, ◌≡◌, ◌+◌, ◌-◌, ◌∙◌, min, ◌++◌, ◌∷◌, [], length, sym, ap, subst, arith}
use Rattle.std.proofs.lemmas.List.{length_push}
use Rattle.ruled_channel_rules.specs.Handles.{sent_by, got_by}
use Rattle.parallel_map.proofs.InOrder.{AreBefore, one_more, to_the_end}
use Rattle.parallel_map.proofs.workers.send_places.Goals as goal

pub loop-from-preserved : goal.loop-from-preserved
loop-from-preserved g c =
    let i = c.loop-from.invariant in
    let from = c.loop-from.from in
    let count = length c.args.task.now.inputs.now in
    let size = c.args.task.now.size in
    let low = c.loop-from-test.true in
    let within = i.within in
    let sent : sent_by c.send_place.new.feeder ≡ sent_by c.loop-from.feeder ++ from ∷ [] = search rules in
    let more : length (sent_by c.send_place.new.feeder) ≡ length (sent_by c.loop-from.feeder) + 1 =
    ap length sent ∙ length_push (sent_by c.loop-from.feeder) from in
    let moved : c.in_ok-out.out + length (got_by c.send_place.new.collector.receiver)
    ≡ c.loop-from.out + 1 + length (got_by c.loop-from.collector.receiver) = search rules in
    let before = i.out in
    let step : c.min-from.result ≡ min size (count - from) = search rules in record {
      own = (c.send_place.ensures.own, search rules);
      within = omega (arith, within, step, low);
      most = search rules;
      out = omega (arith, moved, more, before);
      before = subst (AreBefore count size (from + c.min-from.result)) (sym sent)
          (one_more count size from (from + c.min-from.result) (sent_by c.loop-from.feeder) i.before (ap (λ n. from + n) step));
    }

pub returns-clause-all : goal.returns-clause-all
returns-clause-all g c = λ _. to_the_end (length c.args.task.now.inputs.now) c.args.task.now.size c.loop-from.from (sent_by c.loop-from.feeder) c.loop-from.invariant.before c.loop-from-test.false
