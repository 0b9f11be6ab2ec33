-- The entries of a map by name, against the model's names and operations.
use Rattle.std.proofs.Common.{◌≡◌, ℕ, List, [], ◌∷◌, Bool, true, false, not, ◌||◌, ◌==◌, cond, Some, None, Option, refl, sym, ◌∙◌, ap, map, ltb, eqb, arith}
use Rattle.std.specs.Prelude.{is_some, option_map}
use Rattle.std.specs.List.{AllByRecursion, list_any}
use Rattle.std.specs.List.Sorted.{IsStrictlySortedBy}
use Rattle.std.specs.Map.{keys_of, remove_entry}
use Rattle.std.specs.BTreeMap.{is_at}
use Rattle.std.specs.Ordering.{nat_cmp, is_eq}
use Rattle.std.specs.declared.cmp.Ordering.TheVariants.{Less, Equal, Greater}
use Rattle.std.proofs.lemmas.Bool.{eqb-true, eq-eqb}
use Rattle.event_list.specs.Keys.{AreDifferent, is_among}
use Rattle.channel_run.specs.declared.operations.Operation.{Operation as Started}
use Rattle.channel_model.specs.Operations.{Operation, operation_in}
use Rattle.channel_run.specs.RunShown.{entry_at, operation_shown}
use Rattle.channel_model.specs.Handles.{without}
use Rattle.channel_model.proofs.NameLists.{both_false, without-absent}
use Rattle.channel_model.proofs.LookUps.{look_up-cons}

-- one comparison, two spellings
pub is_eq-nat_cmp : (a b : ℕ) → is_eq (nat_cmp a b) ≡ (b == a)
is_eq-nat_cmp a b = go (ltb a b) (eqb a b) refl refl
  where
    go : (below same : Bool) → ltb a b ≡ below → eqb a b ≡ same
        → is_eq (cond below Less (cond same Equal Greater)) ≡ (b == a)
    go true same e f = grind (arith)
    go false true e f = sym (eq-eqb b a (sym (eqb-true a b f)))
    go false false e f = grind (arith)

pub is_among-entry_at : {X : Type 0} (entries : List (ℕ × X)) (name : ℕ)
    → is_some (entry_at entries name) ≡ is_among name (keys_of entries)
is_among-entry_at [] name = refl
is_among-entry_at (entry ∷ entries) name =
    go (is_eq (nat_cmp name entry.0)) (entry.0 == name) (is_eq-nat_cmp name entry.0) (is_among-entry_at entries name)
  where
    go : (a b : Bool) → a ≡ b → is_some (entry_at entries name) ≡ is_among name (keys_of entries)
        → is_some (cond a (Some entry.1) (entry_at entries name)) ≡ (b || is_among name (keys_of entries))
    go true true e rest = refl
    go false false e rest = rest
    go true false e rest = cc
    go false true e rest = cc

pub operation_in-entry_at : {T : Type 0} (entries : List (ℕ × Started T)) (name : ℕ)
    → operation_in (map (λ entry. (entry.0, operation_shown entry.1)) entries) name
    ≡ option_map operation_shown (entry_at entries name)
operation_in-entry_at [] name = refl
operation_in-entry_at {T} (entry ∷ entries) name =
    look_up-cons name (entry.0, operation_shown entry.1) (map (λ entry. (entry.0, operation_shown entry.1)) entries)
    ∙ go (entry.0 == name) (is_eq (nat_cmp name entry.0)) (sym (is_eq-nat_cmp name entry.0))
    (operation_in-entry_at entries name)
  where
    go : (a b : Bool) → a ≡ b
        → operation_in (map (λ entry. (entry.0, operation_shown entry.1)) entries) name
        ≡ option_map operation_shown (entry_at entries name)
        → cond a (Some (operation_shown entry.1))
        (operation_in (map (λ entry. (entry.0, operation_shown entry.1)) entries) name)
        ≡ option_map operation_shown (cond b (Some entry.1) (entry_at entries name))
    go true true e rest = refl
    go false false e rest = rest
    go true false e rest = cc
    go false true e rest = cc

-- whether a live operation passes a test
pub list_any-shown : {T : Type 0} (test : Operation T → Bool) (entries : List (ℕ × Started T))
    → list_any {X = ℕ × Operation T} (λ entry. test entry.1) (map (λ entry. (entry.0, operation_shown entry.1)) entries)
    ≡ list_any (λ operation. test (operation_shown operation)) (map (λ entry. entry.1) entries)
list_any-shown test [] = refl
list_any-shown test (entry ∷ entries) = ap (λ rest. test (operation_shown entry.1) || rest)
    (list_any-shown test entries)

-- whether an operation of this name is live
pub is_some-shown : {T : Type 0} (entries : List (ℕ × Started T)) (name : ℕ)
    → is_some (operation_in (map (λ entry. (entry.0, operation_shown entry.1)) entries) name)
    ≡ is_some (entry_at entries name)
is_some-shown {T} entries name =
    ap (λ (found : Option (Operation T)). is_some found) (operation_in-entry_at entries name)
    ∙ go (entry_at entries name)
  where
    go : (found : Option (Started T)) → is_some (option_map operation_shown found) ≡ is_some found
    go None = refl
    go (Some operation) = refl

-- the keys of a map are different
pub AreDifferent-sorted : (keys : List ℕ) → IsStrictlySortedBy nat_cmp keys → AreDifferent keys
unfolding IsStrictlySortedBy
AreDifferent-sorted [] sorted = tt
AreDifferent-sorted (key ∷ keys) sorted = (absent keys sorted.0, AreDifferent-sorted keys sorted.1)
  where
    absent : (others : List ℕ) → AllByRecursion (λ other. nat_cmp key other ≡ Less) others
        → is_among key others ≡ false
    absent [] all = refl
    absent (other ∷ others) all = both_false (other == key) (is_among key others)
        (sym (is_eq-nat_cmp key other) ∙ ap is_eq all.0) (absent others all.1)

-- an entry that is taken out leaves the other names
pub keys_of-removed : {X : Type 0} (name : ℕ) (entries : List (ℕ × X))
    → AreDifferent (keys_of entries)
    → keys_of (remove_entry (is_at (nat_cmp name)) entries) ≡ without name (keys_of entries)
keys_of-removed name [] once = refl
keys_of-removed {X} name (entry ∷ entries) once =
    go (entry.0 == name) (is_eq (nat_cmp name entry.0)) refl (is_eq-nat_cmp name entry.0)
    (keys_of-removed name entries once.1)
  where
    go : (here at : Bool) → (entry.0 == name) ≡ here → at ≡ here
        → keys_of (remove_entry (is_at (nat_cmp name)) entries) ≡ without name (keys_of entries)
        → keys_of (cond at entries (entry ∷ remove_entry (is_at (nat_cmp name)) entries))
        ≡ cond (not here) (entry.0 ∷ without name (keys_of entries)) (without name (keys_of entries))
    go true true e f rest = sym (without-absent name (keys_of entries)
        (ap (λ n. is_among n (keys_of entries)) (sym (eqb-true entry.0 name e)) ∙ once.0))
    go false false e f rest = ap (λ names. entry.0 ∷ names) rest
    go true false e f rest = cc
    go false true e f rest = cc
