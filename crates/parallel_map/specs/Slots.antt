-- Slots for answers, one for each input.
use Rattle.std.specs.Prelude.{◌≡◌, ◌≢◌, ℕ, ◌<◌, List, length, Option, Some, None, slice_get}
use Rattle.parallel_map.specs.Pieces.{PieceView, IsOfItsInput, count_at}
use Rattle.parallel_map.specs.declared.error.MapError.{MapError}
use Rattle.parallel_map.specs.declared.error.MapError.TheVariants.{OutOfMemory, NoStamps, NoThread, Stranger, Doubled, Missing}

-- a slot has the answer for its input if a piece came for its place, and else nothing
pub record AreFilled {A B : Type 0} (answer : A → B) (inputs : List A) (pieces : List (PieceView A))
    (slots : List (Option B)) : Type 0 where
  pub long : length slots ≡ length inputs
  pub vacant : (place : ℕ) → place < length inputs → count_at place pieces ≡ 0
      → slice_get slots place ≡ Some None
  pub filled : (place : ℕ) (input : A) → slice_get inputs place ≡ Some input
      → 0 < count_at place pieces
      → slice_get slots place ≡ Some (Some (answer input))

-- a piece that can't be put into its slot
abbrev pub IsRefused : {A B : Type 0} → List A → List (Option B) → PieceView A → MapError → Type 0
IsRefused inputs slots piece (Stranger place) = (place ≡ piece.place)
    × (IsOfItsInput inputs piece → ⊥)
IsRefused inputs slots piece (Doubled place) =
    (place ≡ piece.place) × IsOfItsInput inputs piece × (slice_get slots piece.place ≢ Some None)
IsRefused inputs slots piece (Missing place) = ⊥
IsRefused inputs slots piece OutOfMemory = ⊥
IsRefused inputs slots piece NoStamps = ⊥
IsRefused inputs slots piece NoThread = ⊥
