use Rattle.std.proofs.Common.{◌≡◌}
use Rattle.chanexplore.specs.Lines.{acts_in}
use Rattle.chanexplore.specs.Trail.{IsAt, IsOf, Spot, Stands, Tree, due_at}
use Rattle.chanexplore.proofs.search.complete.Given as goal

-- the orders that are due from the spot where the search stands are those that were due at the beginning
abbrev pub invariant-loop-turn : goal.invariant-loop-turn
invariant-loop-turn l =
    (tree : Tree) (spot : Spot) → IsOf tree (acts_in l.parties)
    → IsAt tree spot l.fn.choices.items l.fn.turns.items
    → Stands tree.kind spot.moment l.fn.scene.run l.fn.scene.places.items
    → (now : Spot) × IsAt tree now l.choices.items l.turns.items
    × Stands tree.kind now.moment l.scene.run l.scene.places.items
    × (due_at tree l.fn.turns.items spot ≡ due_at tree l.turns.items now)
