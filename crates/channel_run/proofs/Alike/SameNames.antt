-- Two lists of the same names: as many in both, and each among both or neither.
use Rattle.std.proofs.Common.{◌≡◌, ℕ, suc, ◌<◌, ◌≤◌, List, [], ◌∷◌, ◌++◌, Bool, true, false, not, ◌||◌, ◌&&◌, ◌==◌, cond, refl, sym, ◌∙◌, ap, length, arith, length-append}
use Rattle.std.proofs.Math.Dec.{eqb-suc-zero}
use Rattle.std.proofs.lemmas.Bool.{eqb-true, eq-eqb}
use Rattle.std.proofs.lemmas.List.Folds.{list_any-append}
use Rattle.event_list.specs.Keys.{AreDifferent, is_among}
use Rattle.channel_model.specs.Handles.{without}
use Rattle.channel_model.specs.Closing.{has_none}
use Rattle.channel_model.specs.View.{AreSameNames}
use Rattle.channel_model.proofs.NameLists.{is_among-without_same, without-absent, is_among-without, AreDifferent-without, length-without}
use Rattle.channel_model.proofs.AllowedSteps.{is_among-without_other}

-- ---- who is among the rest

-- without a name, the others are among them as before, and that one isn't
pub is_among-without_is : (other name : ℕ) (names : List ℕ)
    → is_among other (without name names) ≡ (not (name == other) && is_among other names)
is_among-without_is other name names = go (name == other) refl
  where
    others : (name == other) ≡ false → (among : Bool) → is_among other names ≡ among
        → is_among other (without name names) ≡ among
    others apart true e = is_among-without_other name other names apart e
    others apart false e = is_among-without other name names e

    go : (same : Bool) → (name == other) ≡ same
        → is_among other (without name names) ≡ (not same && is_among other names)
    go true e = rw (eqb-true name other e) (is_among-without_same other names)
    go false e = others e (is_among other names) refl

-- ---- lengths

-- at least as many stay as there are others
length-without_less : (name : ℕ) (names : List ℕ) → length (without name names) ≤ length names
length-without_less name [] = omega arith
length-without_less name (first ∷ names) = go (first == name) (length-without_less name names)
  where
    go : (here : Bool) → length (without name names) ≤ length names
        → length (cond (not here) (first ∷ without name names) (without name names)) ≤ suc (length names)
    go true le = omega arith
    go false le = omega arith

-- whoever is among them leaves at least one place
length-without_among : (name : ℕ) (names : List ℕ) → is_among name names ≡ true
    → length (without name names) < length names
length-without_among name [] among = cc
length-without_among name (first ∷ names) among = go (first == name) refl (λ rest. length-without_among name names rest)
  where
    go : (here : Bool) → (first == name) ≡ here
        → (is_among name names ≡ true → length (without name names) < length names)
        → length (cond (not here) (first ∷ without name names) (without name names)) < suc (length names)
    go true e rest = let le = length-without_less name names in omega arith
    go false e rest =
        let among_rest : is_among name names ≡ true = ap (λ here. here || is_among name names) (sym e) ∙ among in
        let less = rest among_rest in omega arith

-- names that stand once each and are all among others are no more than those
pub length-within : (names others : List ℕ) → AreDifferent names
    → ((name : ℕ) → is_among name names ≡ true → is_among name others ≡ true) → length names ≤ length others
length-within [] others once within = omega arith
length-within (first ∷ names) others once within =
    let less = length-without_among first others
    (within first (ap (λ same. same || is_among first names) (eq-eqb first first refl))) in
    let rest = length-within names (without first others) once.1 inside in
    omega arith
  where
    apart : (name : ℕ) → is_among name names ≡ true → (same : Bool) → (first == name) ≡ same
        → (first == name) ≡ false
    apart name among true e = let no : is_among name names ≡ false = rw (← eqb-true first name e) once.0 in cc
    apart name among false e = e

    or_right : (a b : Bool) → b ≡ true → (a || b) ≡ true
    or_right true b e = refl
    or_right false b e = e

    inside : (name : ℕ) → is_among name names ≡ true → is_among name (without first others) ≡ true
    inside name among = is_among-without_other first name others (apart name among (first == name) refl)
        (within name (or_right (first == name) (is_among name names) among))

-- ---- the same names

pub AreSameNames-refl : (names : List ℕ) → AreSameNames names names
AreSameNames-refl names = record { count = refl; each = λ name. refl }

pub AreSameNames-trans : (names others third : List ℕ) → AreSameNames names others
    → AreSameNames others third
    → AreSameNames names third
AreSameNames-trans names others third same more =
    record { count = same.count ∙ more.count; each = λ name. same.each name ∙ more.each name }

-- a new name comes first in both
pub AreSameNames-first : (names others : List ℕ) (new : ℕ) → AreSameNames names others
    → AreSameNames (new ∷ names) (new ∷ others)
AreSameNames-first names others new same =
    record { count = ap suc same.count; each = λ name. ap (λ among. (new == name) || among) (same.each name) }

-- a new name comes last here and first there
pub AreSameNames-added : (names others : List ℕ) (new : ℕ) → AreSameNames names others
    → AreSameNames (names ++ new ∷ []) (new ∷ others)
AreSameNames-added names others new same =
    record {
      count = let more = length-append names (new ∷ []) in let count = same.count in omega arith;
      each = λ name.
          list_any-append (λ other. other == name) names (new ∷ [])
          ∙ last (is_among name names) (new == name)
          ∙ ap (λ among. (new == name) || among) (same.each name);
    }
  where
    last : (among new : Bool) → (among || (new || false)) ≡ (new || among)
    last true true = refl
    last true false = refl
    last false true = refl
    last false false = refl

-- a new name comes last here and first there, and all else is the same
pub AreSameNames-pushed : (names : List ℕ) (new : ℕ)
    → AreSameNames (names ++ new ∷ []) (new ∷ names)
AreSameNames-pushed names new = AreSameNames-added names names new (AreSameNames-refl names)

-- a name is given up; if each stands once in one of the lists, as many are left
pub AreSameNames-without : (names others : List ℕ) (name : ℕ) → AreDifferent others
    → AreSameNames names others
    → AreSameNames (without name names) (without name others)
AreSameNames-without names others name once same =
    record {
      count = count (is_among name others) refl;
      each = λ other. is_among-without_is other name names
          ∙ ap (λ among. not (name == other) && among) (same.each other) ∙ sym (is_among-without_is other name others);
    }
  where
    inside : (other : ℕ) → is_among other (without name others) ≡ true
        → is_among other (without name names) ≡ true
    inside other among = is_among-without_is other name names
        ∙ ap (λ among. not (name == other) && among) (same.each other) ∙ sym (is_among-without_is other name others)
        ∙ among

    count : (among : Bool) → is_among name others ≡ among
        → length (without name names) ≡ length (without name others)
    count true e =
        let shorter = length-without name others once e in
        let less = length-without_among name names (same.each name ∙ e) in
        let more = length-within (without name others) (without name names)
        (AreDifferent-without name others once) inside in
        let all = same.count in
        omega arith
    count false e =
        ap (λ rest. length rest) (without-absent name names (same.each name ∙ e)) ∙ same.count
        ∙ ap (λ rest. length rest) (sym (without-absent name others e))

-- As many names as some that stand once each, and the same ones, stand once each too.
pub AreDifferent-AreSameNames : (names others : List ℕ) → AreDifferent others
    → AreSameNames names others
    → AreDifferent names
AreDifferent-AreSameNames [] others once same = tt
AreDifferent-AreSameNames (first ∷ names) others once same =
    go (λ fewer. AreDifferent-AreSameNames names (without first others) (AreDifferent-without first others once) fewer)
    (is_among first names) refl
  where
    there : is_among first others ≡ true
    there = sym (same.each first) ∙ ap (λ here. here || is_among first names) (eq-eqb first first refl)

    shorter : length others ≡ suc (length (without first others))
    shorter = length-without first others once there

    either : is_among first names ≡ true → (name : ℕ) → is_among name others ≡ true → (here : Bool)
        → (first == name) ≡ here → is_among name names ≡ true
    either again name among true e = rw (← eqb-true first name e) again
    either again name among false e = sym (ap (λ here. here || is_among name names) e) ∙ same.each name ∙ among

    -- were it among the rest, the others would be no more than those
    all_in_rest : is_among first names ≡ true → (name : ℕ) → is_among name others ≡ true
        → is_among name names ≡ true
    all_in_rest again name among = either again name among (first == name) refl

    is_among-apart : is_among first names ≡ false → (name : ℕ) (here : Bool)
        → (first == name) ≡ here
        → is_among name names ≡ (not (first == name) && ((first == name) || is_among name names))
    is_among-apart absent name true e = rw e (rw (← eqb-true first name e) absent)
    is_among-apart absent name false e = rw e refl

    rest : is_among first names ≡ false → AreSameNames names (without first others)
    rest absent = record {
      count = let count = same.count in let fewer = shorter in omega arith;
      each = λ name.
          is_among-apart absent name (first == name) refl
          ∙ ap (λ among. not (first == name) && among) (same.each name)
          ∙ sym (is_among-without_is name first others);
    }

    go : (AreSameNames names (without first others) → AreDifferent names) → (again : Bool)
        → is_among first names ≡ again → AreDifferent (first ∷ names)
    go later false absent = (absent, later (rest absent))
    go later true again =
        let few = length-within others names once (all_in_rest again) in
        let count = same.count in
        absurd (omega arith)

-- both are empty or neither is
pub has_none-same : (names others : List ℕ) → AreSameNames names others
    → has_none names ≡ has_none others
has_none-same names others same = go names others same.count
  where
    go : (names others : List ℕ) → length names ≡ length others → has_none names ≡ has_none others
    go [] [] e = refl
    go [] (other ∷ others) e = absurd (omega arith)
    go (name ∷ names) [] e = absurd (omega arith)
    go (name ∷ names) (other ∷ others) e = refl

-- nobody is left if the length is 0
pub has_none-length : {X : Type 0} (items : List X) → has_none items ≡ (length items == 0)
has_none-length [] = refl
has_none-length (first ∷ rest) = sym (eqb-suc-zero (length rest))
