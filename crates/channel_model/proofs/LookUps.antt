-- What a pair does to the look-up of an operation, and to who is among the waiting.
use Rattle.std.proofs.Common.{◌≡◌, ℕ, ◌⊎◌, inl, inr, List, [], ◌∷◌, ◌++◌, Bool, true, false, not, cond, ◌||◌, ◌==◌, Some, Option, refl, sym, ◌∙◌, ap}
use Rattle.std.specs.Prelude.{find, option_map}
use Rattle.std.proofs.lemmas.Bool.{eqb-true}
use Rattle.std.proofs.lemmas.List.Folds.{list_any-append}
use Rattle.event_list.specs.Keys.{is_among}
use Rattle.channel_model.specs.Handles.{without}
use Rattle.channel_model.specs.Operations.{Operation, finished, with_finished, without_operation}
use Rattle.channel_model.specs.Rosters.{Roster, arrive, hand_on, is_told, leave, tell_one, wait}
use Rattle.channel_model.proofs.NameLists.{is_among-without_same, is_among-without}

-- the operation of this name in the list
abbrev pub look_up : {T : Type 0} → ℕ → List (ℕ × Operation T) → Option (Operation T)
look_up name operations = option_map (λ entry. entry.1) (find (λ entry. entry.0 == name) operations)

option_map-cond : {A B : Type 0} (f : A → B) (here : Bool) (x : A) (rest : Option A)
    → option_map f (cond here (Some x) rest) ≡ cond here (Some (f x)) (option_map f rest)
option_map-cond f true x rest = refl
option_map-cond f false x rest = refl

-- it is the first or stands among the rest
pub look_up-cons : {T : Type 0} (name : ℕ) (entry : ℕ × Operation T) (operations : List (ℕ × Operation T))
    → look_up name (entry ∷ operations) ≡ cond (entry.0 == name) (Some entry.1) (look_up name operations)
look_up-cons {T} name entry operations =
    option_map-cond (λ (found : ℕ × Operation T). found.1) (entry.0 == name) entry
    (find (λ found. found.0 == name) operations)

pub look_up-other : {T : Type 0} (name : ℕ) (entry : ℕ × Operation T) (operations : List (ℕ × Operation T))
    → (entry.0 == name) ≡ false → look_up name (entry ∷ operations) ≡ look_up name operations
look_up-other {T} name entry operations apart = look_up-cons name entry operations
    ∙ ap (λ (here : Bool). cond here (Some entry.1) (look_up name operations)) apart

other_name : (first op name : ℕ) → (first == op) ≡ true → (op == name) ≡ false → (first == name) ≡ false
other_name first op name e apart = rw (eqb-true first op e) apart

pub look_up-without : {T : Type 0} (op name : ℕ) (operations : List (ℕ × Operation T)) → (op == name) ≡ false
    → look_up name (without_operation op operations) ≡ look_up name operations
look_up-without op name [] apart = refl
look_up-without {T} op name (entry ∷ operations) apart =
    go (entry.0 == op) refl (look_up-without op name operations apart)
  where
    go : (same : Bool) → (entry.0 == op) ≡ same
        → look_up name (without_operation op operations) ≡ look_up name operations
        → look_up name (cond (not same) (entry ∷ without_operation op operations) (without_operation op operations))
        ≡ look_up name (entry ∷ operations)
    go true e rest = rest ∙ sym (look_up-other name entry operations (other_name entry.0 op name e apart))
    go false e rest =
        look_up-cons name entry (without_operation op operations)
        ∙ ap (λ (found : Option (Operation T)). cond (entry.0 == name) (Some entry.1) found) rest
        ∙ sym (look_up-cons name entry operations)

-- a finished one of another name is nothing to this one
pub look_up-with_finished : {T : Type 0} (op name : ℕ) (operations : List (ℕ × Operation T)) → (op == name) ≡ false
    → look_up name (with_finished op operations) ≡ look_up name operations
look_up-with_finished op name [] apart = refl
look_up-with_finished {T} op name (entry ∷ operations) apart =
    go (entry.0 == op) refl (look_up-with_finished op name operations apart)
  where
    go : (same : Bool) → (entry.0 == op) ≡ same → look_up name (with_finished op operations) ≡ look_up name operations
        → look_up name (cond same (entry.0, finished entry.1) entry ∷ with_finished op operations)
        ≡ look_up name (entry ∷ operations)
    go true e rest =
        look_up-other name (entry.0, finished entry.1) (with_finished op operations)
        (other_name entry.0 op name e apart)
        ∙ rest ∙ sym (look_up-other name entry operations (other_name entry.0 op name e apart))
    go false e rest =
        look_up-cons name entry (with_finished op operations)
        ∙ ap (λ (found : Option (Operation T)). cond (entry.0 == name) (Some entry.1) found) rest
        ∙ sym (look_up-cons name entry operations)

-- ---- who is among them

pub record Stayed (left name : ℕ) (roster : Roster) : Type 0 where
  pub before : is_among name roster.names ≡ true
  pub apart : (left == name) ≡ false

among-without : (left name : ℕ) (names : List ℕ) → is_among name (without left names) ≡ true
    → (is_among name names ≡ true) × ((left == name) ≡ false)
among-without left name names among = (go (is_among name names) refl, same (left == name) refl)
  where
    go : (was : Bool) → is_among name names ≡ was → is_among name names ≡ true
    go true e = e
    go false e = let gone : is_among name (without left names) ≡ false = is_among-without name left names e in cc

    same : (is : Bool) → (left == name) ≡ is → (left == name) ≡ false
    same true e = let gone : is_among name (without left names) ≡ false =
        rw (eqb-true left name e) (is_among-without_same name names) in cc
    same false e = e

pub among-leave : (left name : ℕ) (roster : Roster) → is_among name (leave left roster).names ≡ true
    → Stayed left name roster
among-leave left name roster among = let both = among-without left name roster.names among in
    record { before = both.0; apart = both.1 }

pub among-hand_on : (left name : ℕ) (roster : Roster) → is_among name (hand_on left roster).names ≡ true
    → Stayed left name roster
among-hand_on left name roster = go (is_told left roster)
  where
    go : (told : Bool) → is_among name (cond told (tell_one (leave left roster)) (leave left roster)).names ≡ true
        → Stayed left name roster
    go true among = among-leave left name roster among
    go false among = among-leave left name roster among

-- who waits after a poll in vain is the one who was polled, or waited before
pub among-wait : (op name : ℕ) (roster : Roster) → is_among name (wait op roster).names ≡ true
    → ((op == name) ≡ true) ⊎ (is_among name roster.names ≡ true)
among-wait op name roster = go (is_told op roster) (is_among op roster.names)
  where
    last : (names : List ℕ) → is_among name (names ++ op ∷ []) ≡ true
        → ((op == name) ≡ true) ⊎ (is_among name names ≡ true)
    last names among = by (is_among name names) refl
      where
        by : (was : Bool) → is_among name names ≡ was → ((op == name) ≡ true) ⊎ (is_among name names ≡ true)
        by true e = inr e
        by false e = inl (one (op == name) (sym (list_any-append (λ other. other == name) names (op ∷ [])
            ∙ ap (λ was. was || is_among name (op ∷ [])) e) ∙ among))
          where
            one : (is : Bool) → (is || false) ≡ true → is ≡ true
            one true e = refl
            one false e = cc

    go : (told among : Bool) → is_among name
        (cond told (arrive op (leave op roster)) (cond among roster (arrive op roster))).names ≡ true
        → ((op == name) ≡ true) ⊎ (is_among name roster.names ≡ true)
    go true among e = before (last (leave op roster).names e)
      where
        before : ((op == name) ≡ true) ⊎ (is_among name (leave op roster).names ≡ true)
            → ((op == name) ≡ true) ⊎ (is_among name roster.names ≡ true)
        before (inl same) = inl same
        before (inr was) = inr (among-leave op name roster was).before
    go false true e = inr e
    go false false e = last roster.names e
