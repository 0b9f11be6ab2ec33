-- What exploring a plan promises: how many orders there were, whether they are all, and the first
-- lines of what is written.
use Rattle.std.specs.Prelude.{◌≡◌, ℕ, List, [], ◌∷◌, ◌++◌, Bool, true, false, codes, Option}
use Rattle.std.specs.Fmt.{decimal}
use Rattle.std.specs.Io.KnownBytes.{Appends}
use Rattle.chanexplore.specs.Searches.{HasSearched}
use Rattle.chanexplore.specs.declared.party.Turn.{Turn}
use Rattle.chanexplore.specs.declared.search.Searched.{Searched}

-- after the number of orders, whether there are more
abbrev pub more_text : (whole : Bool) → List ℕ
more_text true = []
more_text false = codes ", and more: the limit is met"

-- the first three lines
abbrev pub head_text : Searched → (outcomes stuck : ℕ) → List ℕ
head_text searched outcomes stuck =
    codes "orders " ++ (decimal searched.orders ++ (more_text searched.whole
    ++ (codes "\noutcomes " ++ (decimal outcomes ++ (codes "\nstuck " ++ (decimal stuck ++ 10 ∷ []))))))

-- A report was written: it begins with the numbers of this search.
pub record IsReported (searched : Searched) (outcomes : ℕ) (written written' : Option (List ℕ))
    : Type 0 where
  pub stuck : ℕ
  pub rest : List ℕ
  pub text : Appends written written' (head_text searched outcomes stuck ++ rest)

-- Of these orders as many were made as the limit allows, and this was reported.
pub record IsExplored (orders : List (List Turn)) (limit : ℕ) (whole : Bool)
    (written written' : Option (List ℕ)) : Type 0 where
  pub searched : Searched
  pub outcomes : ℕ
  pub search : HasSearched orders limit searched
  pub same : searched.whole ≡ whole
  pub report : IsReported searched outcomes written written'
