use Rattle.std.proofs.lemmas.Result.{on_ok_weaker}
use Rattle.chanexplore.proofs.Trails.{at_start, due_first, end_from, start_of}
use Rattle.chanexplore.proofs.search.make_order.Goals as goal

pub returns-in-None-clause-first : goal.returns-in-None-clause-first
returns-in-None-clause-first c = λ tree of no none empty stands.
    let turns = c.args.turns.now.items in
    on_ok_weaker c.complete.result
    (λ end. end_from tree (start_of tree) _ c.complete.new.turns.items c.complete.new.choices.items turns (due_first tree turns empty) end)
    (c.complete.ensures tree (start_of tree) of (at_start tree c.args.choices.now.items turns none empty) stands)
