use Rattle.std.proofs.Common.{◌≡◌, ◌≤◌, ◌^◌, ℕ, List, ◌++◌, length}
use Rattle.chanexplore.specs.declared.party.Turn.{Turn}
use Rattle.chanexplore.specs.Lines.{acts_in}
use Rattle.chanexplore.specs.Orders.{all_orders}
use Rattle.chanexplore.specs.Trail.{IsAt, Spot, tree_of}
use Rattle.chanexplore.proofs.search.search.Given as goal

-- what was handed over so far, and what is left, are all orders
abbrev pub invariant-loop-made : goal.invariant-loop-made
invariant-loop-made g l =
    let kind = g.O.Opening.kind l.opening in
    let past = g.O.Opening.past l.opening in
    (most : ℕ) → 2 ^ 64 ≤ most
    → (done : List (List Turn)) × (turns : List Turn) × (spot : Spot)
    × IsAt (tree_of kind past (acts_in l.parties) most) spot l.choices.items turns
    × (done ++ spot.left ≡ all_orders kind past (acts_in l.parties) most)
    × (length done ≡ l.made)
    × ((seen : List (List Turn)) → g.V.Visitor.has_seen l.fn.visitor seen → g.V.Visitor.has_seen l.visitor (seen ++ done))
