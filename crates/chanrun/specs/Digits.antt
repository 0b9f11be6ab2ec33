-- Digits of a number that is being read.
use Rattle.std.specs.Prelude.{ℕ, ◌^◌, ◌&&◌, if◌then◌else◌, nat_lt, List, None, Some, Option}
use Rattle.chanrun.specs.Grammar.{all_digits, value_after}

-- the number of 64 bits that digits spell, after those that gave this one
abbrev pub digits_from : ℕ → List ℕ → Option ℕ
digits_from n word =
    if all_digits word && nat_lt (value_after n word) (2 ^ 64) then Some (value_after n word)
    else None
