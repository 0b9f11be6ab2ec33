-- Numbers of a script.
use Rattle.std.proofs.Common.{◌≡◌, ℕ, ◌+◌, ◌-◌, ◌*◌, ◌^◌, ◌<◌, ◌≤◌, Bool, true, false, ◌&&◌, nat_lt, List, [], ◌∷◌, None, Some, Option, refl, ap, sym, ◌∙◌, arith, MatchOption}
use Rattle.std.specs.Option.{SomeIff}
use Rattle.std.proofs.lemmas.Bool.Decides.{nat_tests}
use Rattle.chanrun.specs.Grammar.{is_digit, all_digits, value_after}
use Rattle.chanrun.specs.Digits.{digits_from}

-- digits make a number no smaller
pub value_ge : (n : ℕ) (ds : List ℕ) → n ≤ value_after n ds
value_ge n [] = omega arith
value_ge n (d ∷ ds) = omega (arith, value_ge (n * 10 + (d - 48)) ds)

pub no_digit : (n b : ℕ) (others : List ℕ) → is_digit b ≡ false → digits_from n (b ∷ others) ≡ None
no_digit n b others h = rw h refl

pub one_digit : (n b : ℕ) (others : List ℕ) → is_digit b ≡ true
    → digits_from n (b ∷ others) ≡ digits_from (n * 10 + (b - 48)) others
one_digit n b others h = rw h refl

and_false : (b c : Bool) → c ≡ false → (b && c) ≡ false
and_false true c h = h
and_false false c h = refl

-- if a number is too large already, more digits don't help
pub too_large : (n : ℕ) (ds : List ℕ) → 2 ^ 64 ≤ n → digits_from n ds ≡ None
too_large n ds large =
    let ge = value_ge n ds in
    let past : nat_lt (value_after n ds) (2 ^ 64) ≡ false = grind (arith, nat_tests) in
    rw (and_false (all_digits ds) (nat_lt (value_after n ds) (2 ^ 64)) past) refl

digit_is : (b : ℕ) → 48 ≤ b → b ≤ 57 → is_digit b ≡ true
digit_is b low high = grind (arith, nat_tests)

pub overflows : (n b : ℕ) (others : List ℕ) → 48 ≤ b → b ≤ 57 → 2 ^ 64 ≤ n * 10 + (b - 48)
    → digits_from n (b ∷ others) ≡ None
overflows n b others low high large = one_digit n b others (digit_is b low high) ∙ too_large _ others large

abbrev pub Longer : ℕ → ℕ → Option ℕ → Type 0
Longer n b longer =
    MatchOption longer ((others : List ℕ) → digits_from n (b ∷ others) ≡ None) (λ m. (others : List ℕ) → digits_from n (b ∷ others) ≡ digits_from m others)

pub with_sum : (n b : ℕ) (r : Option ℕ) → 48 ≤ b → b ≤ 57
    → SomeIff r (n * 10 + (b - 48) < 2 ^ 64) (n * 10 + (b - 48)) → Longer n b r
with_sum n b None low high h = λ others. overflows n b others low high (omega (arith, h))
with_sum n b (Some m) low high h =
    λ others. one_digit n b others (digit_is b low high) ∙ ap (λ k. digits_from k others) (sym h.1)

pub no_more : (n : ℕ) → n < 2 ^ 64 → digits_from n [] ≡ Some n
no_more n small =
    let fits : nat_lt n (2 ^ 64) ≡ true = grind (arith, nat_tests) in
    rw fits refl
