use Rattle.std.proofs.Common.{None, Some, refl, ◌∙◌}
use Rattle.chanexplore.specs.Lines.{acts_in}
use Rattle.chanexplore.proofs.Trails.{deeper_still, few, ended, first_in, opened}
use Rattle.chanexplore.proofs.search.complete.Goals as goal

pub loop-turn-init : goal.loop-turn-init
loop-turn-init c = λ tree spot of at stands. (spot, at, stands, refl)

pub returns-in_default : goal.returns-in_default
returns-in_default c = λ tree spot of at stands.
    let i = c.loop-turn.invariant tree spot of at stands in
    let first = first_in tree (acts_in c.args.parties.now) i.0.moment 0 None of.same (rw c.in_default.is at c.first_able.ensures tree.kind i.0.moment i.2) in
    record { spot = i.0; at = i.1; first = i.3 ∙ ended tree i.0 c.loop-turn.turns.items first }

pub loop-turn-preserved : goal.loop-turn-preserved
loop-turn-preserved c = λ tree spot of at stands.
    let i = c.loop-turn.invariant tree spot of at stands in
    let first = first_in tree (acts_in c.args.parties.now) i.0.moment 0 (Some c.in-Some.party) of.same (rw c.in-Some.is at c.first_able.ensures tree.kind i.0.moment i.2) in
    let deep = deeper_still tree i.0 c.loop-turn.choices.items c.loop-turn.turns.items i.1 (few _ _ _ c.loop-turn.choices.ok.0 c.loop-turn.choices.ok.1 c.loop-turn.choices.small) of.room in
    let step = c.in_ok-choose.ensures tree i.0 deep.0 first.0 of i.1 i.2 deep.1 first.1 in
    (step.0, step.1, step.2, i.3 ∙ opened tree i.0 c.loop-turn.turns.items deep.0 first.0 _ deep.1 first.2 ∙ step.3)
