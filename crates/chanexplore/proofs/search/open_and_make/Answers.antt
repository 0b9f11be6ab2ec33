use Rattle.chanexplore.specs.Lines.{acts_in}
use Rattle.chanexplore.specs.Trail.{tree_of}
use Rattle.chanexplore.proofs.Trails.{of_lines}
use Rattle.chanexplore.proofs.search.open_and_make.Goals as goal

pub returns-clause-first : goal.returns-clause-first
returns-clause-first g c = λ most room no none empty.
    let kind = g.O.Opening.kind c.args.opening.now in
    let past = g.O.Opening.past c.args.opening.now in
    let lines = acts_in c.args.parties.now in
    c.make_order.ensures.first (tree_of kind past lines most) (of_lines kind past lines most room) no none empty c.in_ok-scene.ensures

pub returns-clause-next : goal.returns-clause-next
returns-clause-next g c = λ most party orders room same next empty.
    let kind = g.O.Opening.kind c.args.opening.now in
    let past = g.O.Opening.past c.args.opening.now in
    let lines = acts_in c.args.parties.now in
    c.make_order.ensures.next (tree_of kind past lines most) party orders (of_lines kind past lines most room) same next empty c.in_ok-scene.ensures
