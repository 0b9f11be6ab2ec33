-- Lists of names and operations that were changed in some other order are the same ones.
use Rattle.std.proofs.Common.{◌≡◌, ℕ, suc, List, [], ◌∷◌, ◌++◌, Bool, true, false, not, ◌||◌, ◌&&◌, ◌==◌, cond, Some, None, Option, refl, sym, ◌∙◌, ap, length, arith, length-append}
use Rattle.std.specs.Prelude.{is_some}
use Rattle.std.specs.Option.{option_map}
use Rattle.std.proofs.lemmas.Bool.{eq-eqb}
use Rattle.std.proofs.lemmas.List.Folds.{list_any-append}
use Rattle.event_list.specs.Keys.{AreDifferent, is_among}
use Rattle.channel_model.specs.Handles.{without}
use Rattle.channel_model.specs.Operations.{Operation, finished, with_finished, without_operation}
use Rattle.channel_model.specs.View.{AreSameNames, AreSameOperations}
use Rattle.channel_model.proofs.NameLists.{length-without}
use Rattle.channel_model.proofs.LookUps.{look_up, look_up-without, look_up-with_finished, look_up-cons}
use Rattle.channel_run.proofs.Alike.LiveNames.{is_some-look_up, names_of-without_operation, names_of}
use Rattle.channel_run.proofs.Alike.SameNames.{is_among-without_is}
use Rattle.std.proofs.lemmas.List.{length-map}
use Rattle.channel_run.proofs.Alike.SameOperations.{SameLookUps, length-names_of, look_up-append, look_up-finished_same, look_up-without_same, by_name}

-- ---- names

-- one name more
pub AreSameNames-inserted : (names others : List ℕ) (new : ℕ) → length others ≡ suc (length names)
    → ((name : ℕ) → is_among name others ≡ ((new == name) || is_among name names))
    → AreSameNames others (names ++ new ∷ [])
AreSameNames-inserted names others new count each =
    record {
      count = let more = length-append names (new ∷ []) in omega arith;
      each = λ name. each name ∙ last (is_among name names) (new == name)
          ∙ sym (list_any-append (λ other. other == name) names (new ∷ []));
    }
  where
    last : (among new : Bool) → (new || among) ≡ (among || (new || false))
    last true true = refl
    last true false = refl
    last false true = refl
    last false false = refl

-- one name fewer, of names that stand once each
pub AreSameNames-removed : (names others : List ℕ) (name : ℕ) → AreDifferent names
    → is_among name names ≡ true
    → length names ≡ suc (length others) → ((other : ℕ)
    → is_among other others ≡ (not (name == other) && is_among other names)) → AreSameNames others (without name names)
AreSameNames-removed names others name once among count each =
    record {
      count = let fewer = length-without name names once among in omega arith;
      each = λ other. each other ∙ sym (is_among-without_is other name names);
    }

-- ---- operations

-- an operation of a new name
pub SameLookUps-inserted : {T : Type 0} (operations others : List (ℕ × Operation T)) (op : ℕ) (operation : Operation T)
    → is_some (look_up op operations) ≡ false → look_up op others ≡ Some operation
    → ((name : ℕ) → (op == name) ≡ false → look_up name others ≡ look_up name operations)
    → SameLookUps others (operations ++ (op, operation) ∷ [])
SameLookUps-inserted {T} operations others op operation fresh here elsewhere name =
    by_name op name others (operations ++ (op, operation) ∷ [])
    (here ∙ sym (look_up-append op operations (op, operation)
    ∙ ap (λ some. cond some (look_up op operations) (look_up op ((op, operation) ∷ []))) fresh
    ∙ look_up-cons op (op, operation) [] ∙ ap (λ (same : Bool). cond same (Some operation) None)
    (eq-eqb op op refl)))
    (λ apart. elsewhere name apart ∙ sym (added apart))
  where
    rest : (op == name) ≡ false → (found : Option (Operation T)) → look_up name operations ≡ found
        → cond (is_some (look_up name operations)) (look_up name operations) (look_up name ((op, operation) ∷ []))
        ≡ look_up name operations
    rest apart (Some other) e = rw e refl
    rest apart None e = rw e (look_up-cons name (op, operation) []
        ∙ ap (λ (same : Bool). cond same (Some operation) None) apart)

    added : (op == name) ≡ false
        → look_up name (operations ++ (op, operation) ∷ []) ≡ look_up name operations
    added apart = look_up-append name operations (op, operation) ∙ rest apart (look_up name operations) refl

-- an operation whose send has finished
pub SameLookUps-changed : {T : Type 0} (operations others : List (ℕ × Operation T)) (op : ℕ)
    → look_up op others ≡ option_map finished (look_up op operations)
    → ((name : ℕ) → (op == name) ≡ false → look_up name others ≡ look_up name operations)
    → SameLookUps others (with_finished op operations)
SameLookUps-changed operations others op here elsewhere name =
    by_name op name others (with_finished op operations)
    (here ∙ sym (look_up-finished_same op operations))
    (λ apart. elsewhere name apart ∙ sym (look_up-with_finished op name operations apart))

-- an operation that was given up
pub SameLookUps-removed : {T : Type 0} (operations others : List (ℕ × Operation T)) (op : ℕ)
    → look_up op others ≡ None
    → ((name : ℕ) → (op == name) ≡ false → look_up name others ≡ look_up name operations)
    → SameLookUps others (without_operation op operations)
SameLookUps-removed operations others op here elsewhere name =
    by_name op name others (without_operation op operations)
    (here ∙ sym (look_up-without_same op operations))
    (λ apart. elsewhere name apart ∙ sym (look_up-without op name operations apart))

-- and one more of them; as many; or one fewer, of operations whose names stand once each
pub AreSameOperations-inserted : {T : Type 0} (operations others : List (ℕ × Operation T)) (op : ℕ)
    (operation : Operation T) → length others ≡ suc (length operations) → is_some (look_up op operations) ≡ false
    → look_up op others ≡ Some operation → ((name : ℕ) → (op == name) ≡ false
    → look_up name others ≡ look_up name operations)
    → AreSameOperations others (operations ++ (op, operation) ∷ [])
AreSameOperations-inserted operations others op operation count fresh here elsewhere = record {
  count = let more = length-append operations ((op, operation) ∷ []) in omega arith;
  each = SameLookUps-inserted operations others op operation fresh here elsewhere;
}

pub AreSameOperations-changed : {T : Type 0} (operations others : List (ℕ × Operation T)) (op : ℕ)
    → length others ≡ length operations → look_up op others ≡ option_map finished (look_up op operations)
    → ((name : ℕ) → (op == name) ≡ false → look_up name others ≡ look_up name operations)
    → AreSameOperations others (with_finished op operations)
AreSameOperations-changed operations others op count here elsewhere = record {
  count = count ∙ sym (length-map operations _);
  each = SameLookUps-changed operations others op here elsewhere;
}

pub AreSameOperations-removed : {T : Type 0} (operations others : List (ℕ × Operation T)) (op : ℕ)
    → AreDifferent (names_of operations) → is_some (look_up op operations) ≡ true
    → length operations ≡ suc (length others) → look_up op others ≡ None
    → ((name : ℕ) → (op == name) ≡ false → look_up name others ≡ look_up name operations)
    → AreSameOperations others (without_operation op operations)
AreSameOperations-removed operations others op once there count here elsewhere = record {
  count =
      let fewer : length (names_of operations) ≡ suc (length (without op (names_of operations))) =
      length-without op (names_of operations) once (sym (is_some-look_up op operations) ∙ there) in
      let left : length (names_of (without_operation op operations)) ≡ length (without op (names_of operations)) =
      ap (λ names. length names) (names_of-without_operation op operations) in
      let all = length-names_of operations in
      let rest = length-names_of (without_operation op operations) in
      omega arith;
  each = SameLookUps-removed operations others op here elsewhere;
}
