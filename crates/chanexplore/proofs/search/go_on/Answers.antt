use Rattle.std.proofs.Common.{List, ◌∷◌, ◌+◌, sym, subst}
use Rattle.std.proofs.lemmas.Result.{on_ok_weaker}
use Rattle.chanexplore.specs.declared.party.Turn.{Turn}
use Rattle.chanexplore.specs.declared.search.Choice.{Choice}
use Rattle.chanexplore.specs.Orders.{turns_from}
use Rattle.chanexplore.specs.Trail.{IsAt, begun}
use Rattle.chanexplore.proofs.Trails.{next_end}
use Rattle.chanexplore.proofs.search.go_on.Goals as goal

pub returns : goal.returns
returns c = λ tree orders of next empty stands.
    let sliced : IsAt tree next.spot c.as_slice.result.now next.turns = subst (λ (cs : List Choice). IsAt tree next.spot cs next.turns) (sym c.as_slice.ensures.value) next.at in
    let made = c.in_ok-again.ensures tree next.spot next.turns of sliced empty stands in
    let at : IsAt tree next.spot c.args.choices.now.items c.again.new.turns.items = subst (λ (ts : List Turn). IsAt tree next.spot c.args.choices.now.items ts) (sym made.0) next.at in
    let step = c.in_ok-choose.ensures tree next.spot next.more next.next of at made.1 next.deeper next.can in
    on_ok_weaker c.complete.result
    (λ end. next_end tree next.spot step.0 orders c.complete.new.turns.items c.complete.new.choices.items next.turns c.again.new.turns.items c.choose.new.turns.items
    (begun tree next.more (next.next ∷ turns_from tree.kind tree.parties next.spot.moment (c.args.party + 1)))
    next.left made.0 step.3 end)
    (c.complete.ensures tree step.0 of step.1 step.2)
