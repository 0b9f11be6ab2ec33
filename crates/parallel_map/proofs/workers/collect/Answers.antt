use Rattle.std.proofs.Common.{rules, sym, subst, map}
use Rattle.std.proofs.lemmas.List.{length-map}
use Rattle.std.specs.BTreeMap.{get}
use Rattle.std.specs.Ordering.{nat_cmp}
use Rattle.ruled_channel_rules.specs.Handles.{known, sender_closed, receiver_closed, has_ended, sent_by, got_by}
use Rattle.parallel_map.specs.Chunks.{AreStartsOf}
use Rattle.parallel_map.proofs.Back.{found_all}
use Rattle.parallel_map.proofs.InOrder.{all_there}
use Rattle.parallel_map.proofs.workers.collect.Goals as goal

pub returns : goal.returns
returns g c =
    let inputs = c.args.task.now.inputs.now in
    let size = c.args.task.now.size in
    let all = map g.J.Job.answer inputs in
    let last = c.end.new.collector in
    let got = got_by last.receiver in
    let sent = sent_by c.args.feeder in
    let state = c.in_ok-end.ensures.own.joined in
    all_there all size sent got last.joined.answers.items (get nat_cmp last.joined.early) c.requires.size (state.kept all size) state.none
    (subst (λ n. AreStartsOf n size sent) (sym (length-map inputs g.J.Job.answer)) c.requires.all)
    (found_all (known c.args.hubs.now.places) (known c.args.hubs.now.chunks) c.requires.back (sender_closed c.args.feeder) sent _ c.take_sender.ensures.known
    (receiver_closed last.receiver) (has_ended last.receiver) got _ c.take_receiver.ensures.known
    all size c.requires.done (c.settle.ensures.each_once (search rules)) (c.settle-2.ensures.each_once (search rules)))
