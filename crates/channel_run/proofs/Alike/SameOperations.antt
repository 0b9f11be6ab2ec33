-- Two lists of operations that give the same by name: what a change leaves the same, and who borrows.
use Rattle.std.proofs.Common.{◌≡◌, ℕ, suc, List, [], ◌∷◌, ◌++◌, Bool, true, false, not, ◌||◌, ◌==◌, cond, Some, None, Option, refl, sym, ◌∙◌, ap, length, length-append, arith}
use Rattle.std.specs.Prelude.{is_some}
use Rattle.std.specs.Option.{option_map}
use Rattle.std.specs.List.{list_any}
use Rattle.std.proofs.lemmas.Bool.{eqb-true, eq-eqb}
use Rattle.event_list.specs.Keys.{AreDifferent, is_among}
use Rattle.channel_model.specs.Operations.{Operation, finished, with_finished, without_operation}
use Rattle.channel_model.specs.View.{AreSameNames, AreSameOperations}
use Rattle.channel_model.proofs.LookUps.{look_up, look_up-cons, look_up-other, look_up-without, look_up-with_finished}
use Rattle.channel_run.proofs.Alike.LiveNames.{is_some-look_up, names_of-without_operation, names_of}
use Rattle.channel_run.proofs.Alike.SameNames.{AreSameNames-without, AreDifferent-AreSameNames}
use Rattle.std.proofs.lemmas.List.{length-map}

-- each name has the same operation in both, or none
abbrev pub SameLookUps : {T : Type 0} → List (ℕ × Operation T) → List (ℕ × Operation T) → Type 0
SameLookUps operations others = (name : ℕ) → look_up name operations ≡ look_up name others

-- ---- a new one

pub look_up-append : {T : Type 0} (name : ℕ) (operations : List (ℕ × Operation T)) (entry : ℕ × Operation T)
    → look_up name (operations ++ entry ∷ [])
    ≡ cond (is_some (look_up name operations)) (look_up name operations) (look_up name (entry ∷ []))
look_up-append name [] entry = refl
look_up-append {T} name (first ∷ operations) entry =
    look_up-cons name first (operations ++ entry ∷ [])
    ∙ go (first.0 == name) (look_up-append name operations entry)
    ∙ ap (λ (found : Option (Operation T)). cond (is_some found) found (look_up name (entry ∷ [])))
    (sym (look_up-cons name first operations))
  where
    go : (here : Bool) → look_up name (operations ++ entry ∷ [])
        ≡ cond (is_some (look_up name operations)) (look_up name operations) (look_up name (entry ∷ []))
        → cond here (Some first.1) (look_up name (operations ++ entry ∷ []))
        ≡ cond (is_some (cond here (Some first.1) (look_up name operations)))
        (cond here (Some first.1) (look_up name operations)) (look_up name (entry ∷ []))
    go true rest = refl
    go false rest = rest

-- a new one comes last here and first there
pub SameLookUps-added : {T : Type 0} (operations others : List (ℕ × Operation T)) (op : ℕ) (operation : Operation T)
    → is_some (look_up op others) ≡ false → SameLookUps operations others
    → SameLookUps (operations ++ (op, operation) ∷ []) ((op, operation) ∷ others)
SameLookUps-added {T} operations others op operation fresh same name =
    look_up-append name operations (op, operation)
    ∙ ap (λ (found : Option (Operation T)). cond (is_some found) found (look_up name ((op, operation) ∷ [])))
    (same name)
    ∙ go (look_up name others) refl (op == name) refl
    ∙ sym (look_up-cons name (op, operation) others)
  where
    one : look_up name ((op, operation) ∷ []) ≡ cond (op == name) (Some operation) None
    one = look_up-cons name (op, operation) []

    go : (found : Option (Operation T)) → look_up name others ≡ found → (here : Bool)
        → (op == name) ≡ here
        → cond (is_some (look_up name others)) (look_up name others) (look_up name ((op, operation) ∷ []))
        ≡ cond (op == name) (Some operation) (look_up name others)
    go None e here h = rw e one
    go (Some other) e false h = rw e (rw h refl)
    go (Some other) e true h =
        let none : is_some (look_up name others) ≡ false = rw (← eqb-true op name h) fresh in
        cc

-- ---- one that finished, or was given up

pub look_up-finished_same : {T : Type 0} (op : ℕ) (operations : List (ℕ × Operation T))
    → look_up op (with_finished op operations) ≡ option_map finished (look_up op operations)
look_up-finished_same op [] = refl
look_up-finished_same {T} op (entry ∷ operations) =
    go (entry.0 == op) refl (look_up-finished_same op operations)
    ∙ ap (λ (found : Option (Operation T)). option_map finished found) (sym (look_up-cons op entry operations))
  where
    go : (here : Bool) → (entry.0 == op) ≡ here
        → look_up op (with_finished op operations) ≡ option_map finished (look_up op operations)
        → look_up op (cond here (entry.0, finished entry.1) entry ∷ with_finished op operations)
        ≡ option_map finished (cond (entry.0 == op) (Some entry.1) (look_up op operations))
    go true e rest = look_up-cons op (entry.0, finished entry.1) (with_finished op operations) ∙ rw e refl
    go false e rest = look_up-cons op entry (with_finished op operations) ∙ rw e rest

pub look_up-without_same : {T : Type 0} (op : ℕ) (operations : List (ℕ × Operation T))
    → look_up op (without_operation op operations) ≡ None
look_up-without_same op [] = refl
look_up-without_same {T} op (entry ∷ operations) = go (entry.0 == op) refl (look_up-without_same op operations)
  where
    go : (here : Bool) → (entry.0 == op) ≡ here
        → look_up op (without_operation op operations) ≡ None
        → look_up op (cond (not here) (entry ∷ without_operation op operations) (without_operation op operations))
        ≡ None
    go true e rest = rest
    go false e rest = look_up-cons op entry (without_operation op operations) ∙ rw e rest

-- by whether it is the one that changed
pub by_name : {T : Type 0} (op name : ℕ) (operations others : List (ℕ × Operation T))
    → look_up op operations ≡ look_up op others → ((op == name) ≡ false → look_up name operations ≡ look_up name others)
    → look_up name operations ≡ look_up name others
by_name op name operations others here elsewhere = go (op == name) refl
  where
    go : (same : Bool) → (op == name) ≡ same → look_up name operations ≡ look_up name others
    go true e = rw (← eqb-true op name e) here
    go false e = elsewhere e

pub SameLookUps-finished : {T : Type 0} (operations others : List (ℕ × Operation T)) (op : ℕ)
    → SameLookUps operations others → SameLookUps (with_finished op operations) (with_finished op others)
SameLookUps-finished {T} operations others op same name =
    by_name op name (with_finished op operations) (with_finished op others)
    (look_up-finished_same op operations ∙ ap (λ (found : Option (Operation T)). option_map finished found) (same op)
    ∙ sym (look_up-finished_same op others))
    (λ apart. look_up-with_finished op name operations apart ∙ same name
    ∙ sym (look_up-with_finished op name others apart))

pub SameLookUps-without : {T : Type 0} (operations others : List (ℕ × Operation T)) (op : ℕ)
    → SameLookUps operations others → SameLookUps (without_operation op operations) (without_operation op others)
SameLookUps-without {T} operations others op same name =
    by_name op name (without_operation op operations) (without_operation op others)
    (look_up-without_same op operations ∙ sym (look_up-without_same op others))
    (λ apart. look_up-without op name operations apart ∙ same name ∙ sym (look_up-without op name others apart))

-- ---- who borrows

-- an operation of some name passes the test
pub record SomePasses {T : Type 0} (test : Operation T → Bool)
    (operations : List (ℕ × Operation T)) : Type 0 where
  pub name : ℕ
  pub operation : Operation T
  pub found : look_up name operations ≡ Some operation
  pub passes : test operation ≡ true

-- if each name stands once, an entry that passes is the one of its name
SomePasses-any : {T : Type 0} (test : Operation T → Bool) (operations : List (ℕ × Operation T))
    → AreDifferent (names_of operations) → list_any (λ entry. test entry.1) operations ≡ true
    → SomePasses test operations
SomePasses-any test [] once any = cc
SomePasses-any {T} test (entry ∷ operations) once any =
    go (test entry.1) refl (λ rest. SomePasses-any test operations once.1 rest)
  where
    apart : (name : ℕ) (operation : Operation T) → look_up name operations ≡ Some operation
        → (same : Bool)
        → (entry.0 == name) ≡ same → (entry.0 == name) ≡ false
    apart name operation found false e = e
    apart name operation found true e =
        let among : is_among name (names_of operations) ≡ true = sym (is_some-look_up name operations)
        ∙ ap (λ (o : Option (Operation T)). is_some o) found in
        let absent : is_among name (names_of operations) ≡ false = rw (← eqb-true entry.0 name e) once.0 in
        cc

    later : SomePasses test operations → SomePasses test (entry ∷ operations)
    later one = record {
      name = one.name;
      operation = one.operation;
      found = look_up-other one.name entry operations
          (apart one.name one.operation one.found (entry.0 == one.name) refl) ∙ one.found;
      passes = one.passes;
    }

    go : (here : Bool) → test entry.1 ≡ here
        → (list_any (λ entry. test entry.1) operations ≡ true → SomePasses test operations)
        → SomePasses test (entry ∷ operations)
    go true e rest = record {
      name = entry.0;
      operation = entry.1;
      found = look_up-cons entry.0 entry operations
          ∙ ap (λ (same : Bool). cond same (Some entry.1) (look_up entry.0 operations)) (eq-eqb entry.0 entry.0 refl);
      passes = e;
    }
    go false e rest = later (rest (ap (λ here. here || list_any (λ entry. test entry.1) operations) (sym e) ∙ any))

-- the converse holds of every list
any-SomePasses : {T : Type 0} (test : Operation T → Bool) (operations : List (ℕ × Operation T))
    → SomePasses test operations → list_any (λ entry. test entry.1) operations ≡ true
any-SomePasses test [] one = let e = one.found in cc
any-SomePasses {T} test (entry ∷ operations) one =
    go (entry.0 == one.name) refl (λ rest. any-SomePasses test operations rest)
  where
    or_right : (a b : Bool) → b ≡ true → (a || b) ≡ true
    or_right true b e = refl
    or_right false b e = e

    first_passes : Some entry.1 ≡ Some one.operation → test entry.1 ≡ true
    first_passes e = let same : entry.1 ≡ one.operation = cc in ap test same ∙ one.passes

    go : (here : Bool) → (entry.0 == one.name) ≡ here
        → (SomePasses test operations → list_any (λ entry. test entry.1) operations ≡ true)
        → (test entry.1 || list_any (λ entry. test entry.1) operations) ≡ true
    go true e rest =
        let found : Some entry.1 ≡ Some one.operation =
        ap (λ (same : Bool). cond same (Some entry.1) (look_up one.name operations)) (sym e)
        ∙ sym (look_up-cons one.name entry operations) ∙ one.found in
        ap (λ here. here || list_any (λ entry. test entry.1) operations) (first_passes found)
    go false e rest =
        let found : look_up one.name operations ≡ Some one.operation = sym (look_up-other one.name entry operations e)
        ∙ one.found in
        or_right (test entry.1) (list_any (λ entry. test entry.1) operations)
        (rest (record { name = one.name; operation = one.operation; found = found; passes = one.passes }))

-- if each name stands once in both, a test that one passes in one list is passed in the other
pub list_any-SameLookUps : {T : Type 0} (test : Operation T → Bool) (operations others : List (ℕ × Operation T))
    → AreDifferent (names_of operations) → AreDifferent (names_of others) → SameLookUps operations others
    → list_any (λ entry. test entry.1) operations ≡ list_any (λ entry. test entry.1) others
list_any-SameLookUps test operations others once once' same =
    go (list_any (λ entry. test entry.1) operations) refl (list_any (λ entry. test entry.1) others) refl
  where
    go : (a : Bool) → list_any (λ entry. test entry.1) operations ≡ a → (b : Bool)
        → list_any (λ entry. test entry.1) others ≡ b
        → list_any (λ entry. test entry.1) operations ≡ list_any (λ entry. test entry.1) others
    go true e true f = e ∙ sym f
    go false e false f = e ∙ sym f
    go true e false f =
        let one = SomePasses-any test operations once e in
        let other : list_any (λ entry. test entry.1) others ≡ true =
        any-SomePasses test others (record {
          name = one.name;
          operation = one.operation;
          found = sym (same one.name)
              ∙ one.found;
          passes = one.passes;
        }) in
        e ∙ sym other
    go false e true f =
        let one = SomePasses-any test others once' f in
        let other : list_any (λ entry. test entry.1) operations ≡ true =
        any-SomePasses test operations (record {
          name = one.name;
          operation = one.operation;
          found = same one.name
              ∙ one.found;
          passes = one.passes;
        }) in
        other ∙ sym f

-- ---- as many of them besides

pub AreSameOperations-refl : {T : Type 0} (operations : List (ℕ × Operation T))
    → AreSameOperations operations operations
AreSameOperations-refl operations = record { count = refl; each = λ name. refl }

pub AreSameOperations-trans : {T : Type 0} (operations others third : List (ℕ × Operation T))
    → AreSameOperations operations others → AreSameOperations others third → AreSameOperations operations third
AreSameOperations-trans operations others third same more =
    record { count = same.count ∙ more.count; each = λ name. same.each name ∙ more.each name }

pub length-names_of : {T : Type 0} (operations : List (ℕ × Operation T))
    → length (names_of operations) ≡ length operations
length-names_of operations = length-map operations (λ entry. entry.0)

-- then their names are the same
pub AreSameNames-AreSameOperations : {T : Type 0} (operations others : List (ℕ × Operation T))
    → AreSameOperations operations others → AreSameNames (names_of operations) (names_of others)
AreSameNames-AreSameOperations {T} operations others same = record {
  count = length-names_of operations ∙ same.count ∙ sym (length-names_of others);
  each = λ name. sym (is_some-look_up name operations)
      ∙ ap (λ (found : Option (Operation T)). is_some found) (same.each name) ∙ is_some-look_up name others;
}

-- a list with the names of one in which each stands once has each once
pub AreDifferent-AreSameOperations : {T : Type 0} (operations others : List (ℕ × Operation T))
    → AreDifferent (names_of others) → AreSameOperations operations others → AreDifferent (names_of operations)
AreDifferent-AreSameOperations operations others once same =
    AreDifferent-AreSameNames (names_of operations) (names_of others) once
    (AreSameNames-AreSameOperations operations others same)

pub AreSameOperations-first : {T : Type 0} (operations others : List (ℕ × Operation T)) (op : ℕ)
    (operation : Operation T) → AreSameOperations operations others
    → AreSameOperations ((op, operation) ∷ operations) ((op, operation) ∷ others)
AreSameOperations-first {T} operations others op operation same =
    record {
      count = ap suc same.count;
      each = λ name. look_up-cons name (op, operation) operations
          ∙ ap (λ (found : Option (Operation T)). cond (op == name) (Some operation) found) (same.each name)
          ∙ sym (look_up-cons name (op, operation) others);
    }

pub AreSameOperations-added : {T : Type 0} (operations others : List (ℕ × Operation T)) (op : ℕ)
    (operation : Operation T) → is_some (look_up op others) ≡ false → AreSameOperations operations others
    → AreSameOperations (operations ++ (op, operation) ∷ []) ((op, operation) ∷ others)
AreSameOperations-added operations others op operation fresh same = record {
  count = let more = length-append operations ((op, operation) ∷ []) in let count = same.count in omega arith;
  each = SameLookUps-added operations others op operation fresh same.each;
}

pub AreSameOperations-finished : {T : Type 0} (operations others : List (ℕ × Operation T)) (op : ℕ)
    → AreSameOperations operations others → AreSameOperations (with_finished op operations) (with_finished op others)
AreSameOperations-finished operations others op same = record {
  count = length-map operations _ ∙ same.count ∙ sym (length-map others _);
  each = SameLookUps-finished operations others op same.each;
}

pub AreSameOperations-without : {T : Type 0} (operations others : List (ℕ × Operation T)) (op : ℕ)
    → AreDifferent (names_of others) → AreSameOperations operations others
    → AreSameOperations (without_operation op operations) (without_operation op others)
AreSameOperations-without operations others op once same = record {
  count =
      sym (length-names_of (without_operation op operations))
      ∙ ap (λ names. length names) (names_of-without_operation op operations)
      ∙ (AreSameNames-without (names_of operations) (names_of others) op once
      (AreSameNames-AreSameOperations operations others same)).count
      ∙ ap (λ names. length names) (sym (names_of-without_operation op others))
      ∙ length-names_of (without_operation op others);
  each = SameLookUps-without operations others op same.each;
}
