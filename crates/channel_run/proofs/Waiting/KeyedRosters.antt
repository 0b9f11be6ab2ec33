-- A roster of names beside a roster of keys, place by place: what each change of the keys is to the names.
use Rattle.std.proofs.Common.{◌≡◌, ℕ, zero, suc, List, [], ◌∷◌, Bool, true, false, not, ◌||◌, ◌==◌, cond, Some, None, Option, refl, sym, ◌∙◌, ap, length, map, take, arith}
use Rattle.std.proofs.lemmas.Bool.{eqb-true, eq-eqb}
use Rattle.std.proofs.lemmas.List.{map-append}
use Rattle.std.specs.Prelude.{slice_get}
use Rattle.channel_model.specs.declared.step.Notice.TheVariants.{Absent, Untold, Told}
use Rattle.event_list.specs.Keys.{is_among}
use Rattle.channel_model.specs.Handles.{without}
use Rattle.channel_model.specs.Rosters.{Roster, arrive, is_told, leave, notice_in, tell_all, tell_one, told_names, wait}
use Rattle.channel_model.proofs.NameLists.{left_false, right_false}

-- Each name has the key that stands in its place.
abbrev pub AreKeyed : (ℕ → Option ℕ) → List ℕ → List ℕ → Type 0
AreKeyed key_of names keys = map key_of names ≡ map (λ key. Some key) keys

pub record IsKeyed (key_of : ℕ → Option ℕ) (names keys : Roster) : Type 0 where
  pub keyed : AreKeyed key_of names.names keys.names
  pub told : names.told ≡ keys.told

-- the first name has the first key, and the others have the others
first_keyed : (key_of : ℕ → Option ℕ) (name key : ℕ) (names keys : List ℕ)
    → AreKeyed key_of (name ∷ names) (key ∷ keys)
    → (key_of name ≡ Some key) × AreKeyed key_of names keys
first_keyed key_of name key names keys e = (cc, cc)

-- whoever has another key has another name
other_key : (key_of : ℕ → Option ℕ) (first name first_key key : ℕ) → key_of first ≡ Some first_key
    → key_of name ≡ Some key → (first_key == key) ≡ false → (first == name) ≡ false
other_key key_of first name first_key key e f apart = go (first == name) refl
  where
    go : (same : Bool) → (first == name) ≡ same → (first == name) ≡ false
    go false h = h
    go true h =
        let keys : Some first_key ≡ Some key = sym e ∙ ap key_of (eqb-true first name h) ∙ f in
        let same : first_key ≡ key = cc in
        let no_more : (first_key == key) ≡ true = eq-eqb first_key key same in
        cc

-- a name is there where its key is, and by the same places
pub same_name : (key_of : ℕ → Option ℕ) (first name first_key key : ℕ)
    → key_of first ≡ Some first_key
    → key_of name ≡ Some key → ((first_key == key) ≡ true → first ≡ name) → (first == name) ≡ (first_key == key)
same_name key_of first name first_key key e f one = go (first_key == key) refl
  where
    go : (same : Bool) → (first_key == key) ≡ same → (first == name) ≡ same
    go true h = eq-eqb first name (one h)
    go false h = other_key key_of first name first_key key e f h

-- no two names have one key
abbrev pub IsOneToOne : (ℕ → Option ℕ) → Type 0
IsOneToOne key_of = (name other key : ℕ) → key_of name ≡ Some key → key_of other ≡ Some key → name ≡ other

module _ (key_of : ℕ → Option ℕ) (one_to_one : IsOneToOne key_of) (name key : ℕ)
    (has : key_of name ≡ Some key) where
  same_test : (first first_key : ℕ) → key_of first ≡ Some first_key
      → (first == name) ≡ (first_key == key)
  same_test first first_key e =
      same_name key_of first name first_key key e has
      (λ same. one_to_one first name key (e ∙ ap (λ k. Some k) (eqb-true first_key key same)) has)

  pub is_among-keyed : (names keys : List ℕ) → AreKeyed key_of names keys
      → is_among name names ≡ is_among key keys
  is_among-keyed [] [] e = refl
  is_among-keyed [] (first_key ∷ keys) e = cc
  is_among-keyed (first ∷ names) [] e = cc
  is_among-keyed (first ∷ names) (first_key ∷ keys) e =
      let parts = first_keyed key_of first first_key names keys e in
      ap (λ here. here || is_among name names) (same_test first first_key parts.0)
      ∙ ap (λ rest. (first_key == key) || rest) (is_among-keyed names keys parts.1)

  pub without-keyed : (names keys : List ℕ) → AreKeyed key_of names keys
      → AreKeyed key_of (without name names) (without key keys)
  without-keyed [] [] e = refl
  without-keyed [] (first_key ∷ keys) e = cc
  without-keyed (first ∷ names) [] e = cc
  without-keyed (first ∷ names) (first_key ∷ keys) e =
      let parts = first_keyed key_of first first_key names keys e in
      go (first == name) (first_key == key) (same_test first first_key parts.0) parts.0
      (without-keyed names keys parts.1)
    where
      go : (here there : Bool) → here ≡ there → key_of first ≡ Some first_key
          → AreKeyed key_of (without name names) (without key keys)
          → AreKeyed key_of (cond (not here) (first ∷ without name names) (without name names))
          (cond (not there) (first_key ∷ without key keys) (without key keys))
      go true true h f rest = rest
      go false false h f rest = cc
      go true false h f rest = cc
      go false true h f rest = cc

  take-keyed : (count : ℕ) (names keys : List ℕ) → AreKeyed key_of names keys
      → AreKeyed key_of (take count names) (take count keys)
  take-keyed zero names keys e = refl
  take-keyed (suc count) [] [] e = refl
  take-keyed (suc count) [] (first_key ∷ keys) e = cc
  take-keyed (suc count) (first ∷ names) [] e = cc
  take-keyed (suc count) (first ∷ names) (first_key ∷ keys) e =
      let parts = first_keyed key_of first first_key names keys e in
      let first_part = parts.0 in
      let rest = take-keyed count names keys parts.1 in
      cc

  pub is_told-keyed : (names keys : Roster) → IsKeyed key_of names keys
      → is_told name names ≡ is_told key keys
  is_told-keyed names keys keyed =
      is_among-keyed (take names.told names.names) (take names.told keys.names)
      (take-keyed names.told names.names keys.names keyed.keyed)
      ∙ ap (λ count. is_among key (take count keys.names)) keyed.told

  pub leave-keyed : (names keys : Roster) → IsKeyed key_of names keys
      → IsKeyed key_of (leave name names) (leave key keys)
  leave-keyed names keys keyed = record {
    keyed = without-keyed names.names keys.names keyed.keyed;
    told = rw (is_told-keyed names keys keyed, keyed.told) refl;
  }

  pub arrive-keyed : (names keys : Roster) → IsKeyed key_of names keys
      → IsKeyed key_of (arrive name names) (arrive key keys)
  arrive-keyed names keys keyed = record {
    keyed = map-append key_of names.names (name ∷ [])
        ∙ rw (keyed.keyed, has) (sym (map-append (λ key. Some key) keys.names (key ∷ [])));
    told = keyed.told;
  }

same_length : (key_of : ℕ → Option ℕ) (names keys : List ℕ) → AreKeyed key_of names keys
    → length names ≡ length keys
same_length key_of [] [] e = refl
same_length key_of [] (key ∷ keys) e = cc
same_length key_of (name ∷ names) [] e = cc
same_length key_of (name ∷ names) (key ∷ keys) e =
    ap suc (same_length key_of names keys (first_keyed key_of name key names keys e).1)

pub tell_one-keyed : (key_of : ℕ → Option ℕ) (names keys : Roster) → IsKeyed key_of names keys
    → IsKeyed key_of (tell_one names) (tell_one keys)
tell_one-keyed key_of names keys keyed =
    record {
      keyed = keyed.keyed;
      told = let same = same_length key_of names.names keys.names keyed.keyed in
          let told = keyed.told in omega arith;
    }

pub tell_all-keyed : (key_of : ℕ → Option ℕ) (names keys : Roster) → IsKeyed key_of names keys
    → IsKeyed key_of (tell_all names) (tell_all keys)
tell_all-keyed key_of names keys keyed =
    record { keyed = keyed.keyed; told = same_length key_of names.names keys.names keyed.keyed }

pub wait-keyed : (key_of : ℕ → Option ℕ) (one_to_one : IsOneToOne key_of) (name key : ℕ) (has : key_of name ≡ Some key)
    (names keys : Roster) → IsKeyed key_of names keys → IsKeyed key_of (wait name names) (wait key keys)
wait-keyed key_of one_to_one name key has names keys keyed =
    go (is_told name names) (is_told key keys) (is_told-keyed key_of one_to_one name key has names keys keyed)
    (is_among name names.names) (is_among key keys.names)
    (is_among-keyed key_of one_to_one name key has names.names keys.names keyed.keyed)
  where
    go : (a b : Bool) → a ≡ b → (c d : Bool) → c ≡ d
        → IsKeyed key_of (cond a (arrive name (leave name names)) (cond c names (arrive name names)))
        (cond b (arrive key (leave key keys)) (cond d keys (arrive key keys)))
    go true true e c d f = arrive-keyed key_of one_to_one name key has (leave name names) (leave key keys)
        (leave-keyed key_of one_to_one name key has names keys keyed)
    go false false e true true f = keyed
    go false false e false false f = arrive-keyed key_of one_to_one name key has names keys keyed
    go false false e true false f = cc
    go false false e false true f = cc
    go true false e c d f = cc
    go false true e c d f = cc

-- ---- keys that change

-- the key of a name that isn't among them is nothing to them
pub AreKeyed-other : (key_of key_of' : ℕ → Option ℕ) (name : ℕ) (names keys : List ℕ)
    → ((other : ℕ) → (name == other) ≡ false → key_of' other ≡ key_of other) → is_among name names ≡ false
    → AreKeyed key_of names keys → AreKeyed key_of' names keys
AreKeyed-other key_of key_of' name [] keys same absent e = e
AreKeyed-other key_of key_of' name (first ∷ names) [] same absent e = cc
AreKeyed-other key_of key_of' name (first ∷ names) (key ∷ keys) same absent e =
    let parts = first_keyed key_of first key names keys e in
    let here : key_of' first ≡ Some key = same first (differs (name == first) refl) ∙ parts.0 in
    let rest = AreKeyed-other key_of key_of' name names keys same
    (right_false (first == name) (is_among name names) absent) parts.1 in
    cc
  where
    differs : (is : Bool) → (name == first) ≡ is → (name == first) ≡ false
    differs false h = h
    differs true h =
        let swapped : (first == name) ≡ true = eq-eqb first name (sym (eqb-true name first h)) in
        let apart : (first == name) ≡ false = left_false (first == name) (is_among name names) absent in
        cc

-- ---- what the keys tell of the names

-- a name without a key isn't among them
pub is_among-no_key : (key_of : ℕ → Option ℕ) (name : ℕ) (names keys : List ℕ)
    → AreKeyed key_of names keys
    → key_of name ≡ None → is_among name names ≡ false
is_among-no_key key_of name [] keys e none = refl
is_among-no_key key_of name (first ∷ names) [] e none = cc
is_among-no_key key_of name (first ∷ names) (key ∷ keys) e none =
    let parts = first_keyed key_of first key names keys e in
    go (first == name) refl parts.0 (is_among-no_key key_of name names keys parts.1 none)
  where
    go : (same : Bool) → (first == name) ≡ same → key_of first ≡ Some key
        → is_among name names ≡ false
        → ((first == name) || is_among name names) ≡ false
    go true h f rest = let both : Some key ≡ None = sym f ∙ ap key_of (eqb-true first name h) ∙ none in cc
    go false h f rest = rw h rest

pub notice_in-keyed : (key_of : ℕ → Option ℕ) (one_to_one : IsOneToOne key_of) (name key : ℕ)
    (has : key_of name ≡ Some key) (names keys : Roster) → IsKeyed key_of names keys
    → notice_in name names ≡ notice_in key keys
notice_in-keyed key_of one_to_one name key has names keys keyed =
    ap (λ told. cond told Told (cond (is_among name names.names) Untold Absent))
    (is_told-keyed key_of one_to_one name key has names keys keyed)
    ∙ ap (λ among. cond (is_told key keys) Told (cond among Untold Absent))
    (is_among-keyed key_of one_to_one name key has names.names keys.names keyed.keyed)

-- the first told name is the one of the first told key
pub first_told-keyed : (key_of : ℕ → Option ℕ) → IsOneToOne key_of
    → (name key : ℕ) (names keys : Roster)
    → IsKeyed key_of names keys → key_of name ≡ Some key → slice_get (told_names keys) 0 ≡ Some key
    → slice_get (told_names names) 0 ≡ Some name
first_told-keyed key_of one_to_one name key names keys keyed has first =
    ap (λ count. slice_get (take count names.names) 0) keyed.told
    ∙ go keys.told names.names keys.names keyed.keyed first
  where
    go : (count : ℕ) (ns ks : List ℕ) → AreKeyed key_of ns ks
        → slice_get (take count ks) 0 ≡ Some key
        → slice_get (take count ns) 0 ≡ Some name
    go zero ns ks e f = cc
    go (suc count) [] [] e f = cc
    go (suc count) [] (k ∷ ks) e f = cc
    go (suc count) (n ∷ ns) [] e f = cc
    go (suc count) (n ∷ ns) (k ∷ ks) e f =
        let parts = first_keyed key_of n k ns ks e in
        let same : k ≡ key = cc in
        ap (λ first. Some first) (one_to_one n name key (parts.0 ∙ ap (λ x. Some x) same) has)
