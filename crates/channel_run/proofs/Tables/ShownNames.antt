-- The names that a table shows after one entry changed, and how many handles may be made.
use Rattle.std.proofs.Common.{rules, ◌≡◌, ℕ, ◌+◌, ◌<◌, ◌≤◌, Ok, Err, List, [], ◌∷◌, ◌++◌, Bool, true, false, not, ◌||◌, ◌&&◌, ◌==◌, Some, None, Option, refl, sym, ◌∙◌, ap, length, arith}
use Rattle.std.specs.Prelude.{is_some, nat_lt, Result, OnOk}
use Rattle.std.specs.Result.{is_err}
use Rattle.channel_core.specs.Tables.{handle_limit}
use Rattle.channel_core.specs.Counts.{may_add, upgrade_answer, count_upgraded}
use Rattle.std.specs.Map.{keys_of}
use Rattle.std.proofs.lemmas.Bool.{eqb-true}
use Rattle.std.proofs.lemmas.List.{length-map}
use Rattle.event_list.specs.Keys.{AreDifferent, is_among}
use Rattle.channel_run.proofs.Alike.SameNames.{AreSameNames-pushed, AreSameNames-trans}
use Rattle.channel_model.specs.Handles.{without}
use Rattle.channel_model.specs.View.{AreSameNames}
use Rattle.channel_run.specs.RunShown.{Changed}
use Rattle.channel_run.proofs.Tables.Entries.{is_among-entry_at}
use Rattle.channel_run.proofs.Alike.ChangedLists.{AreSameNames-inserted, AreSameNames-removed}
use Rattle.channel_run.proofs.Tables.OneEntry.{by_counts}

names-elsewhere : {X : Type 0} (name : ℕ) (entries entries' : List (ℕ × X)) (now : Option X)
    → Changed name entries entries' now
    → (other : ℕ) → (name == other) ≡ false → is_among other (keys_of entries') ≡ is_among other (keys_of entries)
names-elsewhere {X} name entries entries' now change other apart =
    sym (is_among-entry_at entries' other) ∙ ap (λ (found : Option X). is_some found) (change.elsewhere other apart)
    ∙ is_among-entry_at entries other

names-here : {X : Type 0} (name : ℕ) (entries entries' : List (ℕ × X)) (now : Option X)
    → Changed name entries entries' now → is_among name (keys_of entries') ≡ is_some now
names-here {X} name entries entries' now change = sym (is_among-entry_at entries' name)
    ∙ ap (λ (found : Option X). is_some found) change.here

pub names-inserted : {X : Type 0} (name : ℕ) (entries entries' : List (ℕ × X)) (value : X)
    → Changed name entries entries' (Some value) → length entries' ≡ length entries + 1
    → AreSameNames (keys_of entries') (keys_of entries ++ name ∷ [])
names-inserted name entries entries' value change more =
    AreSameNames-inserted (keys_of entries) (keys_of entries') name
    (by_counts (length (keys_of entries')) (length entries') (length (keys_of entries)) (length entries)
    (length-map entries' (λ e. e.0)) (length-map entries (λ e. e.0)) more)
    (λ other. go other (name == other) refl)
  where
    go : (other : ℕ) (same : Bool) → (name == other) ≡ same
        → is_among other (keys_of entries') ≡ (same || is_among other (keys_of entries))
    go other true e = ap (λ n. is_among n (keys_of entries')) (sym (eqb-true name other e))
        ∙ names-here name entries entries' (Some value) change
    go other false e = names-elsewhere name entries entries' (Some value) change other e

-- a new name stands first among the same ones
pub names-added : {X : Type 0} (name : ℕ) (entries entries' : List (ℕ × X)) (value : X)
    → Changed name entries entries' (Some value) → length entries' ≡ length entries + 1
    → AreSameNames (keys_of entries') (name ∷ keys_of entries)
names-added name entries entries' value change more =
    AreSameNames-trans (keys_of entries') (keys_of entries ++ name ∷ []) (name ∷ keys_of entries)
    (names-inserted name entries entries' value change more) (AreSameNames-pushed (keys_of entries) name)

pub names-removed : {X : Type 0} (name : ℕ) (entries entries' : List (ℕ × X))
    → AreDifferent (keys_of entries)
    → is_among name (keys_of entries) ≡ true → Changed name entries entries' None → length entries' + 1 ≡ length entries
    → AreSameNames (keys_of entries') (without name (keys_of entries))
names-removed name entries entries' once there change fewer =
    AreSameNames-removed (keys_of entries) (keys_of entries') name once there
    (by_counts (length (keys_of entries)) (length entries) (length (keys_of entries')) (length entries')
    (length-map entries (λ e. e.0)) (length-map entries' (λ e. e.0)) (sym fewer))
    (λ other. go other (name == other) refl)
  where
    go : (other : ℕ) (same : Bool) → (name == other) ≡ same
        → is_among other (keys_of entries') ≡ (not same && is_among other (keys_of entries))
    go other true e = ap (λ n. is_among n (keys_of entries')) (sym (eqb-true name other e))
        ∙ names-here name entries entries' None change
    go other false e = names-elsewhere name entries entries' None change other e

-- ---- counts of handles

-- what is said of an answer that is no error
pub when_ok : {A E : Type 0} (result : Result A E) (Fact : Type 0) → is_err result ≡ false
    → OnOk result Fact → Fact
when_ok (Ok answer) Fact e fact = fact
when_ok (Err error) Fact e fact = cc

some_among : (name : ℕ) (names : List ℕ) → is_among name names ≡ true → 0 < length names
some_among name [] e = cc
some_among name (first ∷ names) e = omega arith

pub one_more : (count : ℕ) → count ≤ 9223372036854775807 → nat_lt handle_limit count ≡ false
one_more count small = search rules

pub may_add-one : {X : Type 0} (name : ℕ) (entries : List (ℕ × X)) (count : ℕ)
    → is_among name (keys_of entries) ≡ true
    → count ≡ length entries → count ≤ 9223372036854775807 → may_add count ≡ true
may_add-one name entries count among counts small =
    let some = some_among name (keys_of entries) among in
    let same = length-map entries (λ e. e.0) in
    let positive : 0 < count = omega arith in
    rw (one_more count small, sym (positive_test count positive)) refl
  where
    positive_test : (n : ℕ) → 0 < n → true ≡ nat_lt 0 n
    positive_test n p = search rules

pub upgraded-count : (closed : Bool) (count : ℕ) → closed ≡ false → count ≤ 9223372036854775807
    → count_upgraded (upgrade_answer closed count) count ≡ count + 1
upgraded-count true count e small = cc
upgraded-count false count e small = rw (one_more count small) refl
