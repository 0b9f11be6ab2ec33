use Rattle.std.proofs.Common.{◌≡◌, List, length}
use Rattle.chanexplore.specs.declared.party.Turn.{Turn}
use Rattle.chanexplore.specs.Trail.{IsAt, Spot, Tree}
use Rattle.chanexplore.proofs.search.take_back.Given as goal

-- no order begins with a turn that was taken back
abbrev pub invariant-loop-choice : goal.invariant-loop-choice
invariant-loop-choice l =
    (tree : Tree) (spot : Spot) (order : List Turn) → IsAt tree spot l.fn.choices.items order
    → (now : Spot) × (turns : List Turn) × IsAt tree now l.choices.items turns × (now.left ≡ spot.left)

abbrev pub decreases-loop-choice : goal.decreases-loop-choice
decreases-loop-choice l = length l.choices.items
