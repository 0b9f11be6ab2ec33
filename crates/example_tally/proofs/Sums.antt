-- Each step of the count keeps its rule.
use Rattle.std.proofs.Common.{◌≡◌, ℕ, zero, suc, ◌+◌, ◌-◌, ◌/◌, ◌≤◌, ◌<◌, ◌^◌, List, [], ◌∷◌, ◌++◌, set, sym, refl, ap, ◌∙◌, add_assoc, arith}
use mathlib.Core.Option.{some, some-injective, some-ne-none}
use lib.ListN.{get_elem?}
use Rattle.crossbeam_utils.specs.Register.{TurnsAt, Forks, Merges}
use Rattle.ruled_mutex.specs.Passes.{Learns}
use Rattle.example_tally.specs.declared.tally.Added.{Added}
use Rattle.example_tally.specs.Sum.{IsSum, added, total}

here : (x t v w : ℕ) → x ≡ v → (w + t) + v ≡ (x + t) + w
here x t v w same = omega arith

later : (x t t' v w : ℕ) → t' + v ≡ t + w → (x + t') + v ≡ (x + t) + w
later x t t' v w step = omega arith

total_set : (part : Added → ℕ) (views : List Added) (i : ℕ) (v w : Added) → get_elem? views i ≡ some v → total part (set views i w) + part v ≡ total part views + part w
total_set part [] i v w at = absurd (some-ne-none v (sym at))
total_set part (x ∷ xs) zero v w at = here (part x) (total part xs) (part v) (part w) (ap part (some-injective x v at))
total_set part (x ∷ xs) (suc i) v w at = later (part x) (total part xs) (total part (set xs i w)) (part v) (part w) (total_set part xs i v w at)

total_last : (part : Added → ℕ) (views : List Added) (w : Added) → total part (views ++ w ∷ []) ≡ total part views + part w
total_last part [] w = omega arith
total_last part (x ∷ xs) w = ap (λ n. part x + n) (total_last part xs w) ∙ sym (add_assoc (part x) (total part xs) (part w))

-- what two parts of a number are together
halves : (n : ℕ) → (n - n / 2) + n / 2 ≡ n
halves n = omega arith

module _ (most : ℕ) where
  pub adds : (pass : ℕ) (v : Added) (x y : ℕ) → 1 ≤ v.left → y ≡ x + 1 → TurnsAt (IsSum most) pass v x y (λ a before after b. (after ≡ before + 1) × (b ≡ added (a.count + 1) (a.left - 1)))
  adds pass v x y some_left next views sum at = let w = added (v.count + 1) (v.left - 1) in let counts = total_set (λ a. a.count) views pass v w at in let lefts = total_set (λ a. a.left) views pass v w at in
      (w, (omega arith, omega arith, sum.2), (next, refl))

  pub keeps : (pass : ℕ) (v : Added) (x y : ℕ) → y ≡ x → TurnsAt (IsSum most) pass v x y (λ a before after b. (after ≡ before) × (b ≡ a))
  keeps pass v x y same views sum at = let counts = total_set (λ a. a.count) views pass v v at in let lefts = total_set (λ a. a.left) views pass v v at in (v, (omega arith, omega arith, sum.2), (same, refl))

  pub learns : (pass : ℕ) (v : Added) (x : ℕ) → Learns (IsSum most) pass v x ((v.count ≤ x) × (x + v.left < 2 ^ 64))
  learns pass v x views sum at = let counts = total_set (λ a. a.count) views pass v (added 0 0) at in let lefts = total_set (λ a. a.left) views pass v (added 0 0) at in let fits = sum.2 in (omega arith, omega arith)

  pub forks : (pass : ℕ) (v : Added) → Forks (IsSum most) pass v (added v.count (v.left - v.left / 2)) (added 0 (v.left / 2))
  forks pass v x views sum at = let mine = added v.count (v.left - v.left / 2) in let other = added 0 (v.left / 2) in
      let counts = total_set (λ a. a.count) views pass v mine at in let lefts = total_set (λ a. a.left) views pass v mine at in
      let count_last = total_last (λ a. a.count) (set views pass mine) other in let left_last = total_last (λ a. a.left) (set views pass mine) other in let whole = halves v.left in
      (omega arith, omega arith, sum.2)

  pub merges : (pass : ℕ) (v : Added) (other : ℕ) (w : Added) → Merges (IsSum most) pass v other w (added (v.count + w.count) (v.left + w.left)) (added 0 0)
  merges pass v other w x views sum at apart there = let both = added (v.count + w.count) (v.left + w.left) in
      let counts = total_set (λ a. a.count) views pass v both at in let lefts = total_set (λ a. a.left) views pass v both at in
      let spent_counts = total_set (λ a. a.count) (set views pass both) other w (added 0 0) there in let spent_lefts = total_set (λ a. a.left) (set views pass both) other w (added 0 0) there in
      (omega arith, omega arith, sum.2)
