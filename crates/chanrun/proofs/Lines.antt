-- Where a text is cut into lines and words.
use Rattle.std.proofs.Common.{◌≡◌, ℕ, ◌+◌, ◌<◌, ◌≤◌, nat_lt, ◌==◌, Bool, true, false, cond, List, [], ◌∷◌, ◌++◌, length, take, drop, get_or, position, Some, None, refl, ap, sym, ◌∙◌, arith}
use Rattle.std.proofs.lemmas.List.Sums.{fails_before_first}
use Rattle.std.specs.List.{position_or_len, All, AllByRecursion, onto_first}
use Rattle.std.proofs.lemmas.List.Elements.{recursion_from_All, All-from_get_or}
use Rattle.std.proofs.lemmas.List.Quantifiers.{position-Some}
use Rattle.std.proofs.lemmas.Bool.Decides.{nat_tests}
use Rattle.std.proofs.lemmas.List.{take-append-drop, drop_more, get_or-take, length-take}
use Rattle.chanrun.specs.Grammar.{lines_of}

abbrev pub IsLine : ℕ → Type 0
IsLine b = (b == 10) ≡ false

lines_at_by : (xs ys : List ℕ) → AllByRecursion IsLine xs → lines_of (xs ++ 10 ∷ ys) ≡ xs ∷ lines_of ys
lines_at_by [] ys h = refl
lines_at_by (x ∷ xs) ys h = rw (h.0, lines_at_by xs ys h.1) refl

-- the first line ends at the first line end
pub lines_at : (xs ys : List ℕ) → All (λ b. (b == 10) ≡ false) xs → lines_of (xs ++ 10 ∷ ys) ≡ xs ∷ lines_of ys
lines_at xs ys h = lines_at_by xs ys (recursion_from_All IsLine xs h)

lines_whole_by : (x : ℕ) (xs : List ℕ) → AllByRecursion IsLine (x ∷ xs) → lines_of (x ∷ xs) ≡ (x ∷ xs) ∷ []
lines_whole_by x [] h = rw (h.0) refl
lines_whole_by x (y ∷ ys) h = rw (h.0) (ap (onto_first x) (lines_whole_by y ys h.1))

-- if no line ends, what is there is a line
pub lines_whole : (xs : List ℕ) → 0 < length xs → All (λ b. (b == 10) ≡ false) xs → lines_of xs ≡ xs ∷ []
lines_whole [] some h = absurd (omega arith)
lines_whole (x ∷ xs) some h = lines_whole_by x xs (recursion_from_All IsLine (x ∷ xs) h)

-- where the byte first stands, the text is cut
pub cut_found : (byte : ℕ) (bs : List ℕ) (i : ℕ) → position (λ b. b == byte) bs ≡ Some i
    → All (λ b. (b == byte) ≡ false) (take i bs) × (bs ≡ take i bs ++ byte ∷ drop (i + 1) bs)
cut_found byte bs i e =
    let h = position-Some (λ b. b == byte) bs i 0 e in
    let here : get_or bs i 0 ≡ byte = grind (arith, nat_tests, h.1) in
    let more = drop_more bs i 0 h.0 in (
      All-from_get_or (λ b. (b == byte) ≡ false) (take i bs) 0
          (λ k lt. let low : k < i = omega (arith, length-take i bs) in rw (get_or-take i bs k 0 low) (h.2 k low)),
      sym (take-append-drop i bs) ∙ ap (λ rest. take i bs ++ rest) (more ∙ ap (λ b. b ∷ drop (i + 1) bs) here),
    )

none_of_cond : (b : Bool) (n : ℕ) → cond b (Some n) None ≡ None → b ≡ false
none_of_cond true n e = cc
none_of_cond false n e = refl

-- if the byte isn't found, no byte is it
pub cut_none : (byte : ℕ) (bs : List ℕ) → position (λ b. b == byte) bs ≡ None → All (λ b. (b == byte) ≡ false) bs
cut_none byte bs e =
    let p = λ (b : ℕ). b == byte in
    let past : nat_lt (position_or_len p bs) (length bs) ≡ false = none_of_cond _ _ e in
    let far : length bs ≤ position_or_len p bs = grind (arith, nat_tests) in
    All-from_get_or (λ b. (b == byte) ≡ false) bs 0 (λ k lt. fails_before_first p bs k 0 (omega arith))

-- the line that ends at the first line end, and those behind it
pub first_line : (bs : List ℕ) (i : ℕ) → position (λ b. b == 10) bs ≡ Some i
    → lines_of bs ≡ take i bs ∷ lines_of (drop (i + 1) bs)
first_line bs i e =
    let parts = cut_found 10 bs i e in
    ap lines_of parts.1 ∙ lines_at (take i bs) (drop (i + 1) bs) parts.0
