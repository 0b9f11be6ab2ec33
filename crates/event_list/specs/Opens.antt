-- What a blank has to be for a ledger to begin on it.
use Rattle.std.specs.Prelude.{◌≡◌, ◌<◌, ℕ}

-- A blank of this name and number of parts opens the ledger with that name and number, which has a
-- part.
pub record Opens (blank_name blank_parts name parts : ℕ) : Type 0 where
  pub same_name : blank_name ≡ name
  pub same_parts : blank_parts ≡ parts
  pub some_part : 0 < parts
