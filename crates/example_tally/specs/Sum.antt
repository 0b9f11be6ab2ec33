-- The rule of a count that several passes add to, up to a limit.
use Rattle.std.specs.Prelude.{◌≡◌, ℕ, ◌+◌, ◌<◌, ◌^◌, List, [], ◌∷◌}
use Rattle.example_tally.specs.declared.tally.Added.{Added}

abbrev pub added : ℕ → ℕ → Added
added n left = record { count = n; left = left }

abbrev pub total : (Added → ℕ) → List Added → ℕ
total part [] = 0
total part (v ∷ vs) = part v + total part vs

-- The count is what all passes have added, and the limit is as much again as they may add still.
abbrev pub IsSum : ℕ → ℕ → List Added → Type 0
IsSum most value views =
    (value ≡ total (λ v. v.count) views) × (value + total (λ v. v.left) views ≡ most)
    × (most < 2 ^ 64)
