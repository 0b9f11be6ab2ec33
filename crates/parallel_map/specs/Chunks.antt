-- Runs of places that follow one another.
use Rattle.std.specs.Prelude.{ℕ, ◌+◌, ◌<◌, List, take, drop, Contains}

-- what contracts see of a chunk: the place of its first input, and the answers in order
pub record ChunkView (B : Type 0) : Type 0 where
  pub from : ℕ
  pub answers : List B

-- of all answers, those of the chunk that begins at a place: as many as the size says, or as are
-- left
abbrev pub chunk_at : {B : Type 0} → List B → ℕ → ℕ → ChunkView B
chunk_at all size from = record { from = from; answers = take size (drop from all) }

-- places of chunks of that size: the first, and after each the next, unless it is the last
pub record AreStartsOf (count size : ℕ) (places : List ℕ) : Type 0 where
  pub first : 0 < count → Contains places 0
  pub next : (from : ℕ) → Contains places from → from + size < count
      → Contains places (from + size)
