use Rattle.std.proofs.Common.{◌≡◌, ℕ, List, [], ◌++◌, drop}
use Rattle.chanexplore.specs.declared.party.Turn.{Turn}
use Rattle.chanexplore.specs.Lines.{acts_in}
use Rattle.chanexplore.specs.Orders.{Moment}
use Rattle.chanexplore.specs.Trail.{IsAt, IsOf, Leads, Spot, Stands, Tree}
use Rattle.chanexplore.proofs.search.again.Given as goal

-- the choices that are left lead from the scene's moment to the spot, by the turns that are left
abbrev pub invariant-loop-choice : goal.invariant-loop-choice
invariant-loop-choice l =
    (tree : Tree) (spot : Spot) (made : List Turn) → IsOf tree (acts_in l.parties)
    → IsAt tree spot l.choices made → l.fn.turns.items ≡ []
    → Stands tree.kind tree.first l.fn.scene.run l.fn.scene.places.items
    → (rest : List Turn) × (more : ℕ) × (moment : Moment) × (left : List (List Turn))
    × Leads tree more moment (drop l.choice-index l.choices) rest spot.more spot.moment left
    × (l.turns.items ++ rest ≡ made)
    × Stands tree.kind moment l.scene.run l.scene.places.items
