-- Who holds the lock has slot 0, and no other.
use Rattle.std.proofs.Common.{◌≡◌, ℕ, List, [], ◌∷◌, sym, ap, ◌∙◌}
use mathlib.Core.Option.{some, some-injective, some-ne-none}
use Rattle.atomic_table.specs.Table.{rest}
use Rattle.ruled_mutex.specs.Passes.{first_slot, first_value}

pub in_place : {T : Type 0} (d : T) (l : List (ℕ × T)) → first_slot l ≡ some 0 → rest l ≡ [] → l ≡ (0, first_value d l) ∷ []
in_place d [] e r = absurd (some-ne-none 0 (sym e))
in_place d (x ∷ xs) e r = λ i. (some-injective x.0 0 e i, x.1) ∷ r i

pub has_slot : {T : Type 0} (d : T) (l : List (ℕ × T)) → first_slot l ≡ some 0 → rest l ≡ [] → (x : T) × (l ≡ (0, x) ∷ rest l)
has_slot d l e r = (first_value d l, in_place d l e r ∙ ap (λ t. (0, first_value d l) ∷ t) (sym r))
