-- What an allowed step knows, and names that differ.
use Rattle.std.proofs.Common.{◌≡◌, ℕ, List, [], ◌∷◌, Bool, true, false, not, cond, ◌||◌, ◌==◌, Some, None, Option, refl, sym, ◌∙◌, ap}
use Rattle.std.specs.Prelude.{is_some, if◌then◌else◌}
use Rattle.std.proofs.lemmas.Bool.{eqb-true}
use Rattle.channel_model.specs.declared.step.Refusal.TheVariants.{Unknown, Taken, Borrowed, TooMany}
use Rattle.channel_model.specs.declared.step.Step.{Step}
use Rattle.event_list.specs.Keys.{is_among}
use Rattle.channel_model.specs.Past.{Past}
use Rattle.channel_model.specs.Handles.{without}
use Rattle.channel_model.specs.Operations.{Operation, is_awaiting, is_receive, is_unsent, live_operations, operation_of}
use Rattle.channel_model.specs.Refusals.{is_borrowed, is_known, is_one_too_many, is_taken, refusal_in}
use Rattle.channel_model.specs.Rosters.{Rosters}
use Rattle.channel_model.specs.Laws.{AreLive}
use Rattle.channel_model.specs.View.{View}
use Rattle.channel_model.proofs.LookUps.{look_up, look_up-other}

-- ---- what an allowed step knows

pub cond_none : {A : Type 0} (test : Bool) (some : A) (rest : Option A) → cond test (Some some) rest ≡ None
    → (test ≡ false) × (rest ≡ None)
cond_none true some rest e = cc
cond_none false some rest e = (refl, e)

pub not_false : (test : Bool) → not test ≡ false → test ≡ true
not_false true e = refl
not_false false e = cc

pub record Allowed {T : Type 0} (view : View T) (step : Step T) : Type 0 where
  pub known : is_known view step ≡ true
  pub fresh : is_taken view step ≡ false

pub allowed : {T : Type 0} (view : View T) (step : Step T) → refusal_in view step ≡ None → Allowed view step
allowed view step e =
    let first = cond_none (not (is_known view step)) Unknown _ e in
    let second = cond_none (is_taken view step) Taken _ first.1 in
    record { known = not_false (is_known view step) first.0; fresh = second.0 }

pub known_if_borrowed : {T : Type 0} (view : View T) (step : Step T) → refusal_in view step ≡ Some Borrowed
    → is_known view step ≡ true
known_if_borrowed view step e = go (is_known view step) refl e
  where
    go : (known : Bool) → is_known view step ≡ known
        → (if not known then Some Unknown else if is_taken view step then Some Taken else if is_borrowed view step
        then Some Borrowed else if is_one_too_many view step then Some TooMany else None) ≡ Some Borrowed
        → is_known view step ≡ true
    go true k e = k
    go false k e = cc

-- ---- names that differ

-- two operations of different kinds have different names
pub apart_by : {T : Type 0} (past : Past T) (test : Option (Operation T) → Bool) (op name : ℕ)
    → test (operation_of past name) ≡ true → test (operation_of past op) ≡ false → (op == name) ≡ false
apart_by {T} past test op name is isnt = go (op == name) refl
  where
    go : (same : Bool) → (op == name) ≡ same → (op == name) ≡ false
    go true e = let equal : test (operation_of past op) ≡ test (operation_of past name) =
        ap (λ (n : ℕ). test (operation_of past n)) (eqb-true op name e) in cc
    go false e = e

pub same_by : {T : Type 0} (past : Past T) (test : Option (Operation T) → Bool) (op name : ℕ) → (op == name) ≡ true
    → test (operation_of past op) ≡ true → test (operation_of past name) ≡ true
same_by {T} past test op name same is = ap (λ (n : ℕ). test (operation_of past n)) (sym (eqb-true op name same)) ∙ is

-- none of the tests holds of no operation
pub none_live : {T : Type 0} (operation : Option (Operation T)) → is_some operation ≡ false
    → (is_unsent operation ≡ false) × (is_receive operation ≡ false) × (is_awaiting operation ≡ false)
none_live (Some operation) e = cc
none_live None e = (refl, refl, refl)

-- a step that starts an operation of a new name
pub started : {T : Type 0} (past : Past T) (all : Rosters) (op : ℕ) (operation : Operation T)
    → is_some (operation_of past op) ≡ false → AreLive past all
    → ((name : ℕ) → is_among name all.sends.names ≡ true
    → is_unsent (look_up name ((op, operation) ∷ live_operations past)) ≡ true)
    × ((name : ℕ) → is_among name all.receives.names ≡ true
    → is_receive (look_up name ((op, operation) ∷ live_operations past)) ≡ true)
    × ((name : ℕ) → is_among name all.closeds.names ≡ true
    → is_awaiting (look_up name ((op, operation) ∷ live_operations past)) ≡ true)
started {T} past all op operation fresh live =
    let none = none_live (operation_of past op) fresh in (
      λ name among. ap (λ (found : Option (Operation T)). is_unsent found)
          (look_up-other name (op, operation) (live_operations past)
          (apart_by past is_unsent op name (live.sends name among) none.0)) ∙ live.sends name among,
      λ name among. ap (λ (found : Option (Operation T)). is_receive found)
          (look_up-other name (op, operation) (live_operations past)
          (apart_by past is_receive op name (live.receives name among) none.1)) ∙ live.receives name among,
      λ name among. ap (λ (found : Option (Operation T)). is_awaiting found)
          (look_up-other name (op, operation) (live_operations past)
          (apart_by past is_awaiting op name (live.closeds name among) none.2)) ∙ live.closeds name among,
    )

pub or_right : (a b : Bool) → b ≡ true → (a || b) ≡ true
or_right true b e = refl
or_right false b e = e

-- a name that isn't the one that leaves stays
pub is_among-without_other : (left name : ℕ) (names : List ℕ) → (left == name) ≡ false → is_among name names ≡ true
    → is_among name (without left names) ≡ true
is_among-without_other left name [] apart among = among
is_among-without_other left name (first ∷ names) apart among =
    go (first == left) refl (λ rest. is_among-without_other left name names apart rest)
  where
    skip : (same : Bool) → same ≡ false → (same || is_among name names) ≡ true → is_among name names ≡ true
    skip true e a = cc
    skip false e a = a

    keep : (same : Bool) → (same || is_among name names) ≡ true
        → (is_among name names ≡ true → is_among name (without left names) ≡ true)
        → (same || is_among name (without left names)) ≡ true
    keep true a rest = refl
    keep false a rest = rest a

    go : (same : Bool) → (first == left) ≡ same
        → (is_among name names ≡ true → is_among name (without left names) ≡ true)
        → is_among name (cond (not same) (first ∷ without left names) (without left names)) ≡ true
    go true e rest = rest (skip (first == name) (rw (eqb-true first left e) apart) among)
    go false e rest = keep (first == name) among rest
