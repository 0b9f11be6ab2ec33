-- Words on lists of keys, and of any other numbers that name something.
use Rattle.std.specs.Prelude.{◌≡◌, ◌==◌, ℕ, List, [], ◌∷◌, Bool, false}
use Rattle.std.specs.List.{list_any}

-- whether a key is among these keys
abbrev pub is_among : ℕ → List ℕ → Bool
is_among key keys = list_any (λ other. other == key) keys

-- no key stands twice among these keys
abbrev pub AreDifferent : List ℕ → Type 0
AreDifferent [] = Unit {0}
AreDifferent (key ∷ keys) = (is_among key keys ≡ false) × AreDifferent keys
