-- Chunks that came, and what was put together of them.
use Rattle.std.specs.Prelude.{◌≡◌, ◌⊎◌, ℕ, ◌+◌, ◌<◌, List, [], length, take, drop, Option, Some, None, IsSome, Vec, All, Contains}
use Rattle.std.specs.BTreeMap.{get}
use Rattle.std.specs.Ordering.{nat_cmp}
use Rattle.parallel_map.specs.declared.joining.Joined.{Joined}
use Rattle.parallel_map.specs.Chunks.{ChunkView, chunk_at}

module _ {B : Type 0} where
  -- of chunks of all answers: the first are put together, up to the end of one of them, and each
  -- other one is kept under its place
  pub record AreSoFar {Z : Type 0} (all : List B) (size : ℕ) (came : List (ChunkView B))
      (answers : List B) (kept : ℕ → Option (Vec B Z)) : Type 0 where
    pub first : answers ≡ take (length answers) all
    pub ends : (length answers ≡ 0) ⊎ ((from : ℕ) × Contains came (chunk_at all size from)
        × (from + length (take size (drop from all)) ≡ length answers))
    pub each : All (λ c. (take size (drop c.from all) ≡ [])
        ⊎ ((c.from < length answers) ⊎ IsSome (kept c.from))) came
    pub aside : (from : ℕ) (list : Vec B Z) → kept from ≡ Some list
        → (list.items ≡ take size (drop from all)) × Contains came (chunk_at all size from)

  -- whatever all answers are, of which these are chunks
  abbrev pub HasKept : List (ChunkView B) → Joined B → Type 0
  HasKept came joined = (all : List B) (size : ℕ) → All (λ c. c ≡ chunk_at all size c.from) came
      → AreSoFar all size came joined.answers.items (get nat_cmp joined.early)

  -- and nothing is kept for the next place
  pub record HasJoined (came : List (ChunkView B)) (joined : Joined B) : Type 0 where
    pub kept : HasKept came joined
    pub none : get nat_cmp joined.early (length joined.answers.items) ≡ None
