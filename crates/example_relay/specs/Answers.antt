-- What a number is answered by.
use Rattle.std.specs.Prelude.{ℕ, List, map, count_ones}

-- the number, and how many ones it has in binary
abbrev pub answer_to : ℕ → ℕ × ℕ
answer_to number = (number, count_ones number)

abbrev pub answers_to : List ℕ → List (ℕ × ℕ)
answers_to numbers = map answer_to numbers
