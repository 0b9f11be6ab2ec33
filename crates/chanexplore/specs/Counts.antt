-- How many orders were counted.
use Rattle.std.specs.Prelude.{ℕ, ◌+◌, List, [], ◌∷◌, String}
use Rattle.std.specs.declared.alloc.Global.{Global}
use Rattle.chanexplore.specs.declared.outcomes.Tally.{Tally}

-- the orders of all outcomes together
abbrev pub orders_in : List (String Global × Tally) → ℕ
orders_in [] = 0
orders_in (outcome ∷ outcomes) = outcome.1.count + orders_in outcomes
