-- What a handle knows of its channel without its lock.
use Rattle.std.specs.Prelude.{ℕ, Option}

-- the number of a channel, and its capacity, if it has one
pub record TagView : Type 0 where
  pub stamp : ℕ
  pub capacity : Option ℕ
