-- A waiting list as a roster of its keys: what each change of the list comes to.
use Rattle.std.proofs.Common.{◌≡◌, ℕ, suc, ◌+◌, ◌-◌, List, [], ◌∷◌, ◌++◌, Bool, true, false, not, ◌||◌, ◌==◌, cond, refl, sym, ◌∙◌, ap, length, map, min, arith}
use Rattle.std.specs.Prelude.{filter}
use Rattle.std.proofs.lemmas.Bool.{eqb-true}
use Rattle.std.proofs.lemmas.List.{map-append, length-append, append_assoc, append-nil}
use Rattle.std.proofs.lemmas.List.Elements.{filter-append}
use Rattle.std.proofs.Math.Seq.{take-append_seam}
use Rattle.event_list.specs.Keys.{AreDifferent, is_among}
use Rattle.event_list.specs.Waiting.{Waiting, joined, keys, renewed, repaid, told_all, told_count, told_one, untold_keys}
use Rattle.event_list.proofs.Splits.{is_among-append, absent_left, different-push}
use Rattle.channel_model.specs.Handles.{without}
use Rattle.channel_model.specs.Rosters.{Roster, arrive, is_told, leave, tell_all, tell_one, wait}
use Rattle.channel_model.proofs.NameLists.{AreDifferent-without, is_among-without_same, length-without}
use Rattle.channel_model.proofs.AllowedSteps.{is_among-without_other}
use Rattle.event_list.specs.Waiting as waiting

pub or_true : (a : Bool) → (a || true) ≡ true
or_true true = refl
or_true false = refl

abbrev pub key_roster : {W : Type 0} → Waiting W → Roster
key_roster list = record { names = keys list; told = told_count list }

pub same_roster : (a b : Roster) → a.names ≡ b.names → a.told ≡ b.told → a ≡ b
same_roster a b n t = ap (λ (names : List ℕ). record { names = names; told = a.told }) n
    ∙ ap (λ (count : ℕ). record { names = b.names; told = count }) t

pub is_told-key : {W : Type 0} (list : Waiting W) (key : ℕ)
    → is_told key (key_roster list) ≡ is_among key list.told
is_told-key list key = ap (λ told. is_among key told) (take-append_seam list.told (untold_keys list))

pub keys-without : {W : Type 0} (list : Waiting W) (key : ℕ)
    → keys (waiting.without list key) ≡ without key (keys list)
keys-without {W} list key = ap (λ rest. without key list.told ++ rest) (untold list.untold)
    ∙ sym (filter-append (λ other. not (other == key)) list.told (untold_keys list))
  where
    untold : (entries : List (ℕ × W))
        → map (λ entry. entry.0) (filter (λ entry. not (entry.0 == key)) entries)
        ≡ without key (map (λ entry. entry.0) entries)
    untold [] = refl
    untold (entry ∷ entries) = go (entry.0 == key) (untold entries)
      where
        go : (same : Bool) → map (λ entry. entry.0) (filter (λ entry. not (entry.0 == key)) entries)
            ≡ without key (map (λ entry. entry.0) entries)
            → map (λ entry. entry.0) (cond (not same) (entry ∷ filter (λ entry. not (entry.0 == key)) entries)
            (filter (λ entry. not (entry.0 == key)) entries))
            ≡ cond (not same) (entry.0 ∷ without key (map (λ entry. entry.0) entries))
            (without key (map (λ entry. entry.0) entries))
        go true rest = rest
        go false rest = ap (λ others. entry.0 ∷ others) rest

different_left : (xs ys : List ℕ) → AreDifferent (xs ++ ys) → AreDifferent xs
different_left [] ys once = tt
different_left (x ∷ xs) ys once = (absent_left x xs ys once.0, different_left xs ys once.1)

without-none : (name : ℕ) (names : List ℕ) → is_among name names ≡ false
    → length (without name names) ≡ length names
without-none name [] absent = refl
without-none name (first ∷ names) absent = go (first == name) absent (λ rest. without-none name names rest)
  where
    go : (same : Bool) → (same || is_among name names) ≡ false
        → (is_among name names ≡ false → length (without name names) ≡ length names)
        → length (cond (not same) (first ∷ without name names) (without name names)) ≡ suc (length names)
    go true e rest = cc
    go false e rest = ap suc (rest e)

pub key-leave : {W : Type 0} (list : Waiting W) (key : ℕ) → AreDifferent (keys list)
    → key_roster (waiting.without list key) ≡ leave key (key_roster list)
key-leave list key once = same_roster (key_roster (waiting.without list key)) (leave key (key_roster list))
    (keys-without list key) (count (is_among key list.told) refl)
  where
    count : (among : Bool) → is_among key list.told ≡ among
        → length (without key list.told) ≡ cond (is_told key (key_roster list)) (told_count list - 1) (told_count list)
    count true e =
        let shorter : length list.told ≡ suc (length (without key list.told)) =
        length-without key list.told (different_left list.told (untold_keys list) once) e in
        rw (is_told-key list key, e) (omega arith)
    count false e = rw (is_told-key list key, e) (without-none key list.told e)

pub key-told_one : {W : Type 0} (list : Waiting W)
    → key_roster (told_one list) ≡ tell_one (key_roster list)
key-told_one {W} list = go list.told list.untold
  where
    go : (told : List ℕ) (untold : List (ℕ × W))
        → key_roster (told_one (record { told = told; untold = untold }))
        ≡ tell_one (key_roster (record { told = told; untold = untold }))
    go told [] = same_roster (record { names = told ++ []; told = length told })
        (record { names = told ++ []; told = min (length told + 1) (length (told ++ [])) }) refl
        (let e = ap (λ (xs : List ℕ). length xs) (append-nil told) in omega arith)
    go told (entry ∷ rest) =
        same_roster (record {
          names = (told ++ entry.0 ∷ []) ++ map (λ entry. entry.0) rest;
          told = length (told ++ entry.0 ∷ []);
        })
        (record {
          names = told ++ entry.0 ∷ map (λ entry. entry.0) rest;
          told = min (length told + 1) (length (told ++ entry.0 ∷ map (λ entry. entry.0) rest));
        })
        (append_assoc told (entry.0 ∷ []) (map (λ entry. entry.0) rest))
        (let e = length-append told (entry.0 ∷ []) in
        let f = length-append told (entry.0 ∷ map (λ entry. entry.0) rest) in omega arith)

pub key-told_all : {W : Type 0} (list : Waiting W)
    → key_roster (told_all list) ≡ tell_all (key_roster list)
key-told_all list = same_roster (key_roster (told_all list)) (tell_all (key_roster list)) (append-nil (keys list)) refl

pub key-joined : {W : Type 0} (list : Waiting W) (key : ℕ) (payload : W)
    → key_roster (joined list key payload) ≡ arrive key (key_roster list)
key-joined list key payload =
    same_roster (key_roster (joined list key payload)) (arrive key (key_roster list))
    (ap (λ rest. list.told ++ rest) (map-append (λ entry. entry.0) list.untold ((key, payload) ∷ []))
    ∙ sym (append_assoc list.told (untold_keys list) (key ∷ [])))
    refl

keys-repaid : {W : Type 0} (list : Waiting W) (key : ℕ) (payload : W)
    → keys (repaid list key payload) ≡ keys list
keys-repaid {W} list key payload = ap (λ rest. list.told ++ rest) (go list.untold)
  where
    go : (entries : List (ℕ × W)) → map (λ entry. entry.0)
        (map (λ entry. cond (entry.0 == key) (key, payload) entry) entries) ≡ map (λ entry. entry.0) entries
    go [] = refl
    go (entry ∷ entries) = one (entry.0 == key) refl ∙ ap (λ rest. entry.0 ∷ rest) (go entries)
      where
        one : (same : Bool) → (entry.0 == key) ≡ same
            → (cond same (key, payload) entry).0 ∷ map (λ entry. entry.0)
            (map (λ entry. cond (entry.0 == key) (key, payload) entry) entries)
            ≡ entry.0 ∷ map (λ entry. entry.0) (map (λ entry. cond (entry.0 == key) (key, payload) entry) entries)
        one true e = ap (λ k. k ∷ map (λ entry. entry.0)
            (map (λ entry. cond (entry.0 == key) (key, payload) entry) entries)) (sym (eqb-true entry.0 key e))
        one false e = refl

pub key-renewed : {W : Type 0} (list : Waiting W) (key : ℕ) (payload : W) → AreDifferent (keys list)
    → is_among key (keys list) ≡ true → key_roster (renewed list key payload) ≡ wait key (key_roster list)
key-renewed {W} list key payload once there =
    go (is_among key list.told) (is_told key (key_roster list)) (sym (is_told-key list key))
    (is_among key (keys list)) there
  where
    go : (a b : Bool) → a ≡ b → (c : Bool) → c ≡ true
        → key_roster (cond a (joined (waiting.without list key) key payload) (repaid list key payload))
        ≡ cond b (arrive key (leave key (key_roster list)))
        (cond c (key_roster list) (arrive key (key_roster list)))
    go true true e c f = key-joined (waiting.without list key) key payload
        ∙ ap (λ roster. arrive key roster) (key-leave list key once)
    go false false e true f = same_roster (key_roster (repaid list key payload)) (key_roster list)
        (keys-repaid list key payload) refl
    go false false e false f = cc
    go true false e c f = cc
    go false true e c f = cc

pub different_wait : (key : ℕ) (roster : Roster) → AreDifferent roster.names
    → AreDifferent (wait key roster).names
different_wait key roster once = go (is_told key roster) (is_among key roster.names) refl
  where
    go : (told among : Bool) → is_among key roster.names ≡ among
        → AreDifferent (cond told (arrive key (leave key roster)) (cond among roster (arrive key roster))).names
    go true among e = different-push (without key roster.names) key (is_among-without_same key roster.names)
        (AreDifferent-without key roster.names once)
    go false true e = once
    go false false e = different-push roster.names key e once

-- who is there is there when somebody waits again
pub among_wait : (key other : ℕ) (roster : Roster) → is_among other roster.names ≡ true
    → is_among other (wait key roster).names ≡ true
among_wait key other roster there = go (is_told key roster) (is_among key roster.names)
  where
    moved : (same : Bool) → (key == other) ≡ same
        → (is_among other (without key roster.names) || ((key == other) || false)) ≡ true
    moved true e = rw e (or_true (is_among other (without key roster.names)))
    moved false e = ap (λ among. among || ((key == other) || false))
        (is_among-without_other key other roster.names e there)

    go : (told among : Bool) → is_among other
        (cond told (arrive key (leave key roster)) (cond among roster (arrive key roster))).names ≡ true
    go true among = is_among-append other (without key roster.names) (key ∷ []) ∙ moved (key == other) refl
    go false true = there
    go false false = is_among-append other roster.names (key ∷ [])
        ∙ ap (λ among. among || ((key == other) || false)) there
