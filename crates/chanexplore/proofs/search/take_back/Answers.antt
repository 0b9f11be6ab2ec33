use Rattle.std.proofs.Common.{◌∙◌}
use Rattle.chanexplore.proofs.Trails.{taken_alone, taken_back}
use Rattle.chanexplore.proofs.search.take_back.Goals as goal

pub returns-in-Some-next : goal.returns-in-Some-next
returns-in-Some-next c = λ tree spot order at.
    let i = c.loop-choice.invariant tree spot order at in
    taken_back tree i.0 c.pop.new.self.items c.in-Some.choice i.1 c.in-Some-next.party spot.left (rw c.in-Some.ensures.items at i.2) c.in-Some-next.is i.3

pub loop-choice-preserved : goal.loop-choice-preserved
loop-choice-preserved c = λ tree spot order at.
    let i = c.loop-choice.invariant tree spot order at in
    let before = taken_alone tree i.0 c.pop.new.self.items c.in-Some.choice i.1 (rw c.in-Some.ensures.items at i.2) c.in_default-next.is in
    (before.0, before.1, before.2, before.3 ∙ i.3)
