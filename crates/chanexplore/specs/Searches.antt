-- What a search came to.
use Rattle.std.specs.Prelude.{◌≡◌, ℕ, ◌≤◌, ◌↔◌, min, List, length, IsTrue}
use Rattle.chanexplore.specs.declared.party.Turn.{Turn}
use Rattle.chanexplore.specs.declared.search.Searched.{Searched}

-- Of these orders so many were made as there are, or as the limit allows; and it says whether they
-- are all.
pub record HasSearched (orders : List (List Turn)) (limit : ℕ) (searched : Searched) : Type 0 where
  pub count : searched.orders ≡ min limit (length orders)
  pub whole : IsTrue searched.whole ↔ (length orders ≤ limit)
