use Rattle.std.proofs.Common.{◌∙◌, map, sym, ap}
use Rattle.std.proofs.lemmas.Result.{IfOk-weaker}
use Rattle.parallel_map.proofs.InOrder.{answered_part}
use Rattle.parallel_map.proofs.workers.answer.Goals as goal

pub returns : goal.returns
returns g c = IfOk-weaker c.make.result _ _
    (λ chunk is. is ∙ ap (λ answers. record { from = c.args.from; answers = answers })
    (ap (map g.J.Job.answer) c.part_at-part.ensures.part ∙ sym (answered_part g.J.Job.answer c.args.task.now.inputs.now c.args.task.now.size c.args.from)))
    c.make.ensures
