-- Claims on the places of a history. Private functions promise them, and what a book has follows;
-- no public clause has to cite this module.
use Rattle.std.specs.Prelude.{◌≡◌, ◌+◌, ◌<◌, ◌≤◌, ℕ, List, Bool, false, map, length, slice_index_or, if◌then◌else◌}
use Rattle.std.specs.List.{All}
use Rattle.std.specs.List.Sorted.{IsStrictlyIncreasing}
use Rattle.channel_record.specs.declared.calls.Call.{Call}
use Rattle.channel_record.specs.declared.calls.Outcome.{Outcome}
use Rattle.channel_record.specs.Shares.{IsAt, holds, place_of}

-- The place is one of the flags', and nobody has claimed it.
pub record IsFree (claimed : List Bool) (place : ℕ) : Type 0 where
  pub within : place < length claimed
  pub unclaimed : slice_index_or claimed place false ≡ false

-- The entry may claim its place, if the places of its clerk so far are below low.
pub record IsNext {T : Type 0} (history : List (Call T × Outcome T)) (claimed : List Bool) (low : ℕ)
    (entry : ℕ × Call T × Outcome T) : Type 0 where
  pub rises : low ≤ entry.0
  pub free : IsFree claimed entry.0
  pub agrees : IsAt history entry

-- The entries of one clerk may claim their places: the history has each at its place, the places
-- rise, and nobody has claimed one of them.
pub record CanClaim {T : Type 0} (history : List (Call T × Outcome T)) (claimed : List Bool)
    (entries : List (ℕ × Call T × Outcome T)) : Type 0 where
  pub agree : All (IsAt history) entries
  pub rise : IsStrictlyIncreasing (map place_of entries)
  pub free : All (λ entry. IsFree claimed (place_of entry)) entries

-- 1 if the place is among these, and else 0
abbrev pub held : ℕ → List ℕ → ℕ
held place places = if holds place places then 1 else 0

-- 1 if the place is claimed, and else 0
abbrev pub claims_on : List Bool → ℕ → ℕ
claims_on claimed place = if slice_index_or claimed place false then 1 else 0

-- These places are claimed now, none of which was before, and those that were.
abbrev pub AddsClaims : List Bool → List Bool → List ℕ → Type 0
AddsClaims old claimed places =
    (place : ℕ) → held place places + claims_on old place ≡ claims_on claimed place
