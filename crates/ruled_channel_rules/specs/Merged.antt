-- Lists that are merged into one.
use Rattle.std.specs.Prelude.{◌≡◌, ℕ, List, [], ◌∷◌, ◌++◌, length}
use Rattle.std.proofs.Common.{◌⊎◌}

-- zs has what xs and ys have, and keeps the order of each
abbrev pub IsMerge : {T : Type 0} → List T → List T → List T → Type 0
IsMerge [] xs ys = (xs ≡ []) × (ys ≡ [])
IsMerge {T} (z ∷ zs) xs ys =
    ((rest : List T) × (xs ≡ z ∷ rest) × IsMerge zs rest ys)
    ⊎ ((rest : List T) × (ys ≡ z ∷ rest) × IsMerge zs xs rest)

-- zs has what all the lists have, and keeps the order of each
abbrev pub IsMergeOf : {T : Type 0} → List T → List (List T) → Type 0
IsMergeOf zs [] = zs ≡ []
IsMergeOf {T} zs (xs ∷ more) = (rest : List T) × IsMerge zs xs rest × IsMergeOf rest more

-- What was sent was got, or is held still, and nothing else: there is one order of what was got in
-- which each list keeps its own, and what is held comes after it.
abbrev pub HaveArrived : {T : Type 0} → List (List T) → List (List T) → List T → Type 0
HaveArrived {T} sents gots held =
    (order : List T) × IsMergeOf (order ++ held) sents × IsMergeOf order gots

-- the same when nothing is held
abbrev pub AllArrived : {T : Type 0} → List (List T) → List (List T) → Type 0
AllArrived {T} sents gots = (order : List T) × IsMergeOf order sents × IsMergeOf order gots

-- so many are held still, and that is what they are
abbrev pub Leaves : {T : Type 0} → ℕ → (List T → Type 0) → Type 0
Leaves {T} count Are = (held : List T) × (count ≡ length held) × Are held
