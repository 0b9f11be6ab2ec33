-- What the devices of a script are known to have passed, and how often they failed.
use Rattle.std.specs.Prelude.{ℕ, ◌+◌, ◌-◌, ◌^◌, ◌==◌, Bool, true, false, ◌&&◌, not, min, List, take, Option, Result, Ok, Err}
use Rattle.std.specs.Io.KnownBytes.{Appends}

-- a count of failures after one more: it stays at the greatest number of 64 bits
abbrev pub one_more : ℕ → ℕ
one_more count = min (count + 1) (2 ^ 64 - 1)

-- a read failed
abbrev pub read_failed : {E : Type 0} → Result ℕ E → Bool
read_failed (Ok count) = false
read_failed (Err e) = true

-- a read met the end: it answered 0 bytes for a buffer with room
abbrev pub met_end : {E : Type 0} → Result ℕ E → ℕ → Bool
met_end (Ok count) room = (count == 0) && not (room == 0)
met_end (Err e) room = false

-- a write failed: it answered an error, or took no byte though there was one
abbrev pub write_failed : {E : Type 0} → Result ℕ E → ℕ → Bool
write_failed (Ok count) offered = (count == 0) && not (offered == 0)
write_failed (Err e) offered = true

-- known bytes grow by the first n of these, for some n
abbrev pub AppendsFront : Option (List ℕ) → Option (List ℕ) → List ℕ → Type 0
AppendsFront old new text = (n : ℕ) × Appends old new (take n text)

-- what is seen of a reader or a writer of std: how many of its calls failed, and whether a read met
-- its end
pub record StdView (D : Type 0) : Type 0 where
  pub device : D
  pub failures : ℕ
  pub ended : Bool
