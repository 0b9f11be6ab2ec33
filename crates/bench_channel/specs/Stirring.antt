-- A number that is changed as often as is asked.
use Rattle.std.specs.Prelude.{ℕ, ◌+◌, ◌*◌, ◌%◌, ◌^◌, zero, suc}

-- the number after one change
abbrev pub stirred_once : ℕ → ℕ
stirred_once number = (number * 6364136223846793005 % 2 ^ 64 + 1442695040888963407) % 2 ^ 64

-- the number after that many changes
unfoldable pub stirred : ℕ → ℕ → ℕ
stirred zero number = number
stirred (suc times) number = stirred_once (stirred times number)
