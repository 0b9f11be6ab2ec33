use Rattle.chanexplore.specs.Lines.{acts_in}
use Rattle.chanexplore.proofs.Trails.{made_again, none_ahead}
use Rattle.chanexplore.proofs.search.again.Goals as goal

pub returns-in_default : goal.returns-in_default
returns-in_default c = λ tree spot made of at none stands.
    let i = c.loop-choice.invariant tree spot made of at none stands in
    let gone = rw c.in_default.is at c.in_ok-turn.ensures tree.kind i.2 i.6 in
    absurd (none_ahead tree i.1 i.2 c.args.choices.now c.loop-choice.choice-index (acts_in c.args.parties.now) i.0 spot.more spot.moment i.3 c.loop-choice-test.true i.4 of.same gone)

pub loop-choice-preserved : goal.loop-choice-preserved
loop-choice-preserved c = λ tree spot made of at none stands.
    let i = c.loop-choice.invariant tree spot made of at none stands in
    let gone = rw c.in-Some.is at c.in_ok-turn.ensures tree.kind i.2 i.6 in
    rw c.in_ok-keep.ensures
    (made_again tree i.1 i.2 c.args.choices.now c.loop-choice.choice-index (acts_in c.args.parties.now) c.in-Some.turn c.loop-choice.turns.items i.0 made spot.more spot.moment i.3 c.go.new.self.run c.go.new.self.places.items c.loop-choice-test.true i.4 i.5 of.same gone)
