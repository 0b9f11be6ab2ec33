-- A step of a pass is one of the same pass, at the same view.
use Rattle.std.proofs.Common.{◌≡◌, ℕ, List, sym, subst}
use Rattle.crossbeam_utils.specs.Register.{TurnsAt}

pub turns_same : {T V : Type 0} (holds : T → List V → Type 0) (then : V → T → T → V → Type 0) (pass pass' : ℕ) (v v' : V) (x y : T) → pass' ≡ pass → v' ≡ v → TurnsAt holds pass v x y then → TurnsAt holds pass' v' x y then
turns_same {T} {V} holds then pass pass' v v' x y p q t = subst (λ (z : ℕ × V). TurnsAt holds z.0 z.1 x y then) (λ i. (sym p i, sym q i)) t
