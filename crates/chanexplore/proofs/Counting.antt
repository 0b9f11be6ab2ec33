-- How the number of orders that were counted grows.
use Rattle.std.proofs.Common.{◌≡◌, ℕ, ◌+◌, ◌-◌, ◌^◌, ◌<◌, ◌≤◌, Bool, true, false, List, [], ◌∷◌, Some, None, sym, ap, subst, arith, string_bytes}
use Rattle.std.specs.Prelude.{String, min, unwrap_or}
use Rattle.std.specs.String.{string_cmp}
use Rattle.std.specs.Cmp.Lexicographic.{slice_cmp}
use Rattle.std.specs.Ordering.{nat_cmp}
use Rattle.std.specs.declared.cmp.Ordering.{Ordering}
use Rattle.std.specs.declared.cmp.Ordering.TheVariants.{Less, Equal, Greater}
use Rattle.std.specs.Ordering.{is_eq, match_ordering}
use Rattle.std.proofs.Math.Bool.{cond}
use Rattle.std.specs.Map.{lookup, set_value}
use Rattle.std.specs.BTreeMap.{insert_entry, is_at}
use Rattle.std.specs.declared.alloc.Global.{Global}
use Rattle.chanexplore.specs.declared.outcomes.Tally.{Tally}
use Rattle.chanexplore.specs.Counts.{orders_in}

no_value : {A : Type 0} {x : A} → Some x ≡ None → ⊥
no_value e = cc

-- a new outcome
pub counted_new : (cmp : String Global → String Global → Ordering) (es : List (String Global × Tally)) (text : String Global) (tally : Tally)
    → lookup (is_at (cmp text)) es ≡ None → orders_in (insert_entry cmp es text tally) ≡ orders_in es + tally.count
counted_new cmp [] text tally none = omega arith
counted_new cmp (e ∷ es) text tally none = go (cmp text e.0) none (counted_new cmp es text tally)
  where
    go : (order : Ordering) → cond (is_eq order) (Some e.1) (lookup (is_at (cmp text)) es) ≡ None
        → (lookup (is_at (cmp text)) es ≡ None → orders_in (insert_entry cmp es text tally) ≡ orders_in es + tally.count)
        → orders_in (match_ordering order ((text, tally) ∷ e ∷ es) ((e.0, tally) ∷ es) (e ∷ insert_entry cmp es text tally))
        ≡ (e.1.count + orders_in es) + tally.count
    go Less none later = omega arith
    go Equal none later = absurd (no_value none)
    go Greater none later = omega (arith, later none)

one_some : {A : Type 0} (x y : A) → Some x ≡ Some y → x ≡ y
one_some x y e = ap (λ o. unwrap_or o x) e

-- another order of an outcome
pub counted_again : (test : String Global → Bool) (es : List (String Global × Tally)) (old new : Tally)
    → lookup test es ≡ Some old → orders_in (set_value test es new) + old.count ≡ orders_in es + new.count
counted_again test [] old new found = absurd (no_value (sym found))
counted_again test (e ∷ es) old new found = go (test e.0) found (counted_again test es old new)
  where
    go : (same : Bool) → cond same (Some e.1) (lookup test es) ≡ Some old
        → (lookup test es ≡ Some old → orders_in (set_value test es new) + old.count ≡ orders_in es + new.count)
        → orders_in (cond same ((e.0, new) ∷ es) (e ∷ set_value test es new)) + old.count ≡ (e.1.count + orders_in es) + new.count
    go true found later = omega (arith, ap (λ (t : Tally). t.count) (one_some e.1 old found))
    go false found later = omega (arith, later found)

-- an outcome has no more than all
counted_within : (test : String Global → Bool) (es : List (String Global × Tally)) (old : Tally) → lookup test es ≡ Some old → old.count ≤ orders_in es
counted_within test [] old found = absurd (no_value (sym found))
counted_within test (e ∷ es) old found = go (test e.0) found (counted_within test es old)
  where
    go : (same : Bool) → cond same (Some e.1) (lookup test es) ≡ Some old → (lookup test es ≡ Some old → old.count ≤ orders_in es)
        → old.count ≤ e.1.count + orders_in es
    go true found later = omega (arith, ap (λ (t : Tally). t.count) (one_some e.1 old found))
    go false found later = omega (arith, later found)

pub one_counted : (test : String Global → Bool) (es : List (String Global × Tally)) (old new : Tally)
    → lookup test es ≡ Some old → orders_in es < 2 ^ 64 - 1 → new.count ≡ min (old.count + 1) (2 ^ 64 - 1)
    → orders_in (set_value test es new) ≡ orders_in es + 1
one_counted test es old new found few is = omega (arith, counted_again test es old new found, counted_within test es old found, few, is)

-- a text that isn't found isn't there
pub none_there : (es : List (String Global × Tally)) (text : String Global) (bytes : List ℕ) → bytes ≡ string_bytes text
    → None ≡ lookup (is_at (λ (k : String Global). slice_cmp nat_cmp bytes (string_bytes k))) es → lookup (is_at (string_cmp text)) es ≡ None
none_there es text bytes same none =
    subst (λ (bs : List ℕ). lookup (is_at (λ (k : String Global). slice_cmp nat_cmp bs (string_bytes k))) es ≡ None) same (sym none)
