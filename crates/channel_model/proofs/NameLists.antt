-- Lists of names in which each stands once.
use Rattle.std.proofs.Common.{◌≡◌, ℕ, zero, suc, ◌≤◌, zero-le, suc-le-suc, List, [], ◌∷◌, ◌++◌, Bool, true, false, not, cond, ◌||◌, ◌==◌, refl, sym, ◌∙◌, ap, length, take, arith}
use Rattle.std.proofs.lemmas.Bool.{eqb-true, eq-eqb}
use Rattle.std.proofs.lemmas.List.Folds.{list_any-append}
use Rattle.event_list.specs.Keys.{AreDifferent, is_among}
use Rattle.channel_model.specs.Handles.{without}

-- both parts of a test that is false are false
pub left_false : (a b : Bool) → (a || b) ≡ false → a ≡ false
left_false true b e = e
left_false false b e = refl

pub right_false : (a b : Bool) → (a || b) ≡ false → b ≡ false
right_false true b e = cc
right_false false b e = e

pub both_false : (a b : Bool) → a ≡ false → b ≡ false → (a || b) ≡ false
both_false a b e f = rw e f

pub is_among-without_same : (name : ℕ) (names : List ℕ) → is_among name (without name names) ≡ false
is_among-without_same name [] = refl
is_among-without_same name (first ∷ names) = go (first == name) refl (is_among-without_same name names)
  where
    go : (same : Bool) → (first == name) ≡ same → is_among name (without name names) ≡ false
        → is_among name (cond (not same) (first ∷ without name names) (without name names)) ≡ false
    go true e rest = rest
    go false e rest = both_false (first == name) (is_among name (without name names)) e rest

pub without-absent : (name : ℕ) (names : List ℕ) → is_among name names ≡ false → without name names ≡ names
without-absent name [] absent = refl
without-absent name (first ∷ names) absent =
    rw (left_false (first == name) (is_among name names) absent)
    (ap (λ rest. first ∷ rest) (without-absent name names (right_false (first == name) (is_among name names) absent)))

-- a name that isn't there isn't there without another one
pub is_among-without : (other name : ℕ) (names : List ℕ) → is_among other names ≡ false
    → is_among other (without name names) ≡ false
is_among-without other name [] absent = refl
is_among-without other name (first ∷ names) absent =
    go (first == name) (is_among-without other name names (right_false (first == other) (is_among other names) absent))
  where
    go : (same : Bool) → is_among other (without name names) ≡ false
        → is_among other (cond (not same) (first ∷ without name names) (without name names)) ≡ false
    go true rest = rest
    go false rest = both_false (first == other) (is_among other (without name names))
        (left_false (first == other) (is_among other names) absent) rest

pub AreDifferent-without : (name : ℕ) (names : List ℕ) → AreDifferent names → AreDifferent (without name names)
AreDifferent-without name [] once = tt
AreDifferent-without name (first ∷ names) once = go (first == name) (AreDifferent-without name names once.1)
  where
    go : (same : Bool) → AreDifferent (without name names)
        → AreDifferent (cond (not same) (first ∷ without name names) (without name names))
    go true rest = rest
    go false rest = (is_among-without first name names once.0, rest)

pub length-without : (name : ℕ) (names : List ℕ) → AreDifferent names → is_among name names ≡ true
    → length names ≡ suc (length (without name names))
length-without name [] once among = cc
length-without name (first ∷ names) once among = go (first == name) refl (λ rest. length-without name names once.1 rest)
  where
    go : (same : Bool) → (first == name) ≡ same
        → (is_among name names ≡ true → length names ≡ suc (length (without name names)))
        → suc (length names) ≡ suc (length (cond (not same) (first ∷ without name names) (without name names)))
    go true e shorter =
        let absent : is_among name names ≡ false = rw (← eqb-true first name e) once.0 in
        ap (λ rest. suc (length rest)) (sym (without-absent name names absent))
    go false e shorter =
        let rest : is_among name names ≡ true = ap (λ same. same || is_among name names) (sym e) ∙ among in
        ap suc (shorter rest)

-- as many of the first as don't have the name still stand first
pub le-length-without : (count name : ℕ) (names : List ℕ) → count ≤ length names
    → is_among name (take count names) ≡ false → count ≤ length (without name names)
le-length-without zero name names within absent = zero-le
le-length-without (suc count) name [] within absent = within
le-length-without (suc count) name (first ∷ names) within absent =
    rw (left_false (first == name) (is_among name (take count names)) absent)
    (suc-le-suc (le-length-without count name names (omega arith)
    (right_false (first == name) (is_among name (take count names)) absent)))

pub is_among-take : (count name : ℕ) (names : List ℕ) → is_among name names ≡ false
    → is_among name (take count names) ≡ false
is_among-take zero name names absent = refl
is_among-take (suc count) name [] absent = refl
is_among-take (suc count) name (first ∷ names) absent =
    both_false (first == name) (is_among name (take count names))
    (left_false (first == name) (is_among name names) absent)
    (is_among-take count name names (right_false (first == name) (is_among name names) absent))

-- a name that isn't there comes last
pub AreDifferent-arrive : (name : ℕ) (names : List ℕ) → AreDifferent names → is_among name names ≡ false
    → AreDifferent (names ++ name ∷ [])
AreDifferent-arrive name [] once absent = (refl, tt)
AreDifferent-arrive name (first ∷ names) once absent = (
  list_any-append (λ other. other == first) names (name ∷ [])
      ∙ both_false (is_among first names) (is_among first (name ∷ [])) once.0
      (both_false (name == first) false (differs (name == first) refl) refl),
  AreDifferent-arrive name names once.1 (right_false (first == name) (is_among name names) absent),
)
  where
    differs : (same : Bool) → (name == first) ≡ same → same ≡ false
    differs false e = refl
    differs true e =
        let swapped : (first == name) ≡ true = eq-eqb first name (sym (eqb-true name first e)) in
        let apart : (first == name) ≡ false = left_false (first == name) (is_among name names) absent in
        cc
