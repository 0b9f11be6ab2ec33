-- Pieces, and how those that came go together with the inputs.
use Rattle.std.specs.Prelude.{◌≡◌, ℕ, ◌<◌, ◌≤◌, ◌==◌, List, ◌∷◌, ◌++◌, length, Some, slice_get}
use Rattle.std.specs.List.{All, count_by}
use Rattle.parallel_map.specs.declared.error.MapError.{MapError}
use Rattle.parallel_map.specs.declared.error.MapError.TheVariants.{OutOfMemory, NoStamps, NoThread, Stranger, Doubled, Missing}

-- what contracts see of a piece: the place for which it is, and the input that it is of
pub record PieceView (A : Type 0) : Type 0 where
  pub place : ℕ
  pub input : A

-- the piece is of the input that stands at its place
abbrev pub IsOfItsInput : {A : Type 0} → List A → PieceView A → Type 0
IsOfItsInput inputs piece = slice_get inputs piece.place ≡ Some piece.input

-- how many of the pieces are for a place
abbrev pub count_at : {A : Type 0} → ℕ → List (PieceView A) → ℕ
count_at place pieces = count_by (λ piece. piece.place == place) pieces

-- each piece is of its input, and no place has two
pub record AreSound {A : Type 0} (inputs : List A) (pieces : List (PieceView A)) : Type 0 where
  pub of_inputs : All (IsOfItsInput inputs) pieces
  pub once : (place : ℕ) → count_at place pieces ≤ 1

-- each place has just one piece, which is of the input there, and no other piece came
pub record AreWhole {A : Type 0} (inputs : List A) (pieces : List (PieceView A)) : Type 0 where
  pub of_inputs : All (IsOfItsInput inputs) pieces
  pub each : (place : ℕ) → place < length inputs → count_at place pieces ≡ 1

-- the first piece with a fault: those before it are sound
pub record IsFirstFaulty {A : Type 0} (inputs : List A) (pieces : List (PieceView A))
    (before : List (PieceView A)) (piece : PieceView A) : Type 0 where
  pub after : List (PieceView A)
  pub split : pieces ≡ before ++ piece ∷ after
  pub sound : AreSound inputs before

-- what is wrong with pieces: the first that isn't of its input, or whose place has one before it;
-- and if all are sound, the least place without one
abbrev pub IsFault : {A : Type 0} → List A → List (PieceView A) → MapError → Type 0
IsFault inputs pieces (Stranger place) =
    (before : List (PieceView _)) × (piece : PieceView _) × IsFirstFaulty inputs pieces before piece
    × (piece.place ≡ place) × (IsOfItsInput inputs piece → ⊥)
IsFault inputs pieces (Doubled place) =
    (before : List (PieceView _)) × (piece : PieceView _) × IsFirstFaulty inputs pieces before piece
    × (piece.place ≡ place) × IsOfItsInput inputs piece × (count_at place before ≡ 1)
IsFault inputs pieces (Missing place) =
    AreSound inputs pieces × (place < length inputs) × (count_at place pieces ≡ 0)
    × ((lower : ℕ) → lower < place → count_at lower pieces ≡ 1)
IsFault inputs pieces OutOfMemory = ⊥
IsFault inputs pieces NoStamps = ⊥
IsFault inputs pieces NoThread = ⊥
