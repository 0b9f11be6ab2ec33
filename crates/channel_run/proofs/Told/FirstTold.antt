-- Who was told first, by key and by name.
use Rattle.std.proofs.Common.{◌≡◌, ◌≢◌, ℕ, List, [], ◌∷◌, ◌++◌, Bool, true, false, ◌==◌, cond, Some, None, Option, refl, sym, ◌∙◌, ap, length, take}
use Rattle.std.specs.Prelude.{find, is_some, option_and_then, slice_get}
use Rattle.std.specs.Map.{keys_of}
use Rattle.std.specs.Ordering.{nat_cmp, is_eq}
use Rattle.std.proofs.lemmas.Bool.{eqb-true, eq-eqb}
use Rattle.std.proofs.Math.Seq.{take-append_seam}
use Rattle.event_list.specs.Keys.{AreDifferent, is_among}
use Rattle.event_list.specs.Waiting.{Waiting, keys, untold_keys}
use Rattle.channel_core.specs.declared.state.Group.{Group}
use Rattle.channel_core.specs.declared.state.Group.TheVariants.{Sends, Receives, Streams, Closeds}
use Rattle.channel_core.specs.Channel.{list_of}
use Rattle.channel_model.specs.Rosters.{Roster, told_names}
use Rattle.channel_run.specs.RunShown.{AreHeld, IsHolder, closed_ticket, entry_at, has_key, recv_ticket, roster_of, send_ticket, stream_ticket, ticket_at, ticket_in}
use Rattle.channel_run.specs.RunSteps.{roster_in}
use Rattle.channel_run.proofs.Tables.Entries.{is_eq-nat_cmp, is_among-entry_at}
use Rattle.channel_run.proofs.Waiting.HeldLists.{has_key-is, holds-refl, is-has_key, keyed}
use Rattle.channel_run.proofs.Waiting.KeyLists.{key_roster}
use Rattle.channel_run.proofs.Waiting.KeyedRosters.{AreKeyed, IsKeyed, first_told-keyed}
use Rattle.channel_run.proofs.Tables.Kept.{Kept, Whole, rosters_by}

-- ---- whoever holds the key is found

module _ {X : Type 0} (ticket : X → Option ℕ) (key : ℕ) where
  abbrev pub holds : ℕ × X → Bool
  holds entry = has_key key (ticket entry.1)

  nobody_holds : (entries : List (ℕ × X)) → find holds entries ≡ None → (name : ℕ)
      → ticket_at ticket entries name ≢ Some key
  nobody_holds [] none name has = cc
  nobody_holds (entry ∷ entries) none name has =
      go (holds entry) refl (is_eq (nat_cmp name entry.0)) none has (λ rest. nobody_holds entries rest name)
    where
      go : (is : Bool) → holds entry ≡ is → (here : Bool)
          → cond is (Some entry) (find holds entries) ≡ None
          → option_and_then ticket (cond here (Some entry.1) (entry_at entries name)) ≡ Some key
          → (find holds entries ≡ None → ticket_at ticket entries name ≢ Some key) → ⊥
      go true e here none has later = cc
      go false e true none has later = let yes : holds entry ≡ true = is-has_key key (ticket entry.1) has in cc
      go false e false none has later = later none has

  -- who was found stands under its own name
  stands_there : (entries : List (ℕ × X)) → AreDifferent (keys_of entries) → (found : ℕ × X)
      → find holds entries ≡ Some found
      → (entry_at entries found.0 ≡ Some found.1) × (holds found ≡ true)
  stands_there [] once found e = cc
  stands_there (entry ∷ entries) once found e = go (holds entry) refl e (λ rest. stands_there entries once.1 found rest)
    where
      first : entry ≡ found → holds entry ≡ true
          → (entry_at (entry ∷ entries) found.0 ≡ Some found.1) × (holds found ≡ true)
      first same is = (
        ap (λ (one : ℕ × X). cond (is_eq (nat_cmp found.0 one.0)) (Some one.1) (entry_at entries found.0)) same
            ∙ ap (λ (at : Bool). cond at (Some found.1) (entry_at entries found.0))
            (is_eq-nat_cmp found.0 found.0 ∙ eq-eqb found.0 found.0 refl),
        ap (λ (one : ℕ × X). holds one) (sym same) ∙ is,
      )

      apart : entry_at entries found.0 ≡ Some found.1 → (same : Bool) → (entry.0 == found.0) ≡ same
          → (entry.0 == found.0) ≡ false
      apart there false f = f
      apart there true f =
          let among : is_among found.0 (keys_of entries) ≡ true = sym (is_among-entry_at entries found.0)
          ∙ ap (λ (x : Option X). is_some x) there in
          let absent : is_among entry.0 (keys_of entries) ≡ false = once.0 in
          let equal : is_among entry.0 (keys_of entries) ≡ is_among found.0 (keys_of entries) =
          ap (λ name. is_among name (keys_of entries)) (eqb-true entry.0 found.0 f) in
          cc

      go : (is : Bool) → holds entry ≡ is → cond is (Some entry) (find holds entries) ≡ Some found
          → (find holds entries ≡ Some found → (entry_at entries found.0 ≡ Some found.1) × (holds found ≡ true))
          → (entry_at (entry ∷ entries) found.0 ≡ Some found.1) × (holds found ≡ true)
      go true is e later = let same : entry ≡ found = cc in first same is
      go false is e later =
          let rest = later e in (
            ap (λ (at : Bool). cond at (Some entry.1) (entry_at entries found.0))
                (is_eq-nat_cmp found.0 entry.0 ∙ apart rest.0 (entry.0 == found.0) refl) ∙ rest.0,
            rest.1,
          )

  pub none_found : (entries : List (ℕ × X)) → None ≡ find holds entries
      → IsHolder (ticket_at ticket entries) key None
  none_found entries none = λ name. nobody_holds entries (sym none) name

  pub one_found : (entries : List (ℕ × X)) → AreDifferent (keys_of entries) → (found : ℕ × X)
      → Some found ≡ find holds entries → ticket_at ticket entries found.0 ≡ Some key
  one_found entries once found is =
      let there = stands_there entries once found (sym is) in
      ap (λ (x : Option X). option_and_then ticket x) there.0 ∙ has_key-is key (ticket found.1) there.1

-- ---- the first in a waiting list

-- The first who was told in this roster, or nothing if nobody is told.
pub record IsFirst (roster : Roster) (found : Option ℕ) : Type 0 where
  pub first : found ≡ slice_get (told_names roster) 0
  pub none : found ≡ None → roster.told ≡ 0

module _ {W : Type 0} (ticket_of : ℕ → Option ℕ) (names : List ℕ) (list : Waiting W)
    (each : AreHeld ticket_of names list) where
  abbrev roster : Roster
  roster = roster_of ticket_of names list

  over_keys : IsKeyed ticket_of roster (key_roster list)
  over_keys = keyed ticket_of names list roster (holds-refl ticket_of names list each)

  told_keys : told_names (key_roster list) ≡ list.told
  told_keys = take-append_seam list.told (untold_keys list)

  nothing_first : (keys : List ℕ) → slice_get keys 0 ≡ None → length keys ≡ 0
  nothing_first [] e = refl
  nothing_first (key ∷ keys) e = cc

  pub IsFirst-nobody : None ≡ slice_get list.told 0 → IsFirst roster None
  IsFirst-nobody none =
      let no_more : roster.told ≡ 0 = over_keys.told ∙ nothing_first list.told (sym none) in
      record { first = sym (ap (λ count. slice_get (take count roster.names) 0) no_more); none = λ e. no_more }

  -- whoever stands first has the key
  first_has : (key : ℕ) (told ns ks : List ℕ) → AreKeyed ticket_of ns (told ++ ks)
      → slice_get told 0 ≡ Some key
      → (name : ℕ) × (ticket_of name ≡ Some key)
  first_has key [] ns ks e f = cc
  first_has key (k ∷ told) [] ks e f = cc
  first_has key (k ∷ told) (n ∷ ns) ks e f = let same : k ≡ key = cc in
      (n, let has : ticket_of n ≡ Some k = cc in has ∙ ap (λ x. Some x) same)

  pub IsFirst-holder : (key : ℕ) → Some key ≡ slice_get list.told 0 → (found : Option ℕ)
      → IsHolder ticket_of key found
      → IsFirst roster found
  IsFirst-holder key told None nobody =
      let holder = first_has key list.told roster.names (untold_keys list) over_keys.keyed (sym told) in
      absurd (nobody holder.0 holder.1)
  IsFirst-holder key told (Some name) has =
      record {
        first = sym (first_told-keyed ticket_of each.once name key roster (key_roster list) over_keys has
            (ap (λ (ks : List ℕ). slice_get ks 0) told_keys ∙ sym told));
        none = λ e. cc;
      }

-- ---- the first of a group

module _ {T W : Type 0} (kept : Kept T W) (whole : Whole kept) where
  pub IsFirst-group_nobody : (group : Group) → None ≡ slice_get (list_of group kept.core).told 0
      → IsFirst (roster_in group (rosters_by kept)) None
  IsFirst-group_nobody Sends none = IsFirst-nobody (ticket_at send_ticket kept.operations)
      (keys_of kept.operations) kept.core.sends whole.each_send none
  IsFirst-group_nobody Receives none = IsFirst-nobody (ticket_at recv_ticket kept.operations)
      (keys_of kept.operations) kept.core.receives whole.each_receive none
  IsFirst-group_nobody Streams none = IsFirst-nobody (ticket_at stream_ticket kept.receivers)
      (keys_of kept.receivers) kept.core.streams whole.each_stream none
  IsFirst-group_nobody Closeds none = IsFirst-nobody (ticket_at closed_ticket kept.operations)
      (keys_of kept.operations) kept.core.closeds whole.each_closed none

  pub IsFirst-operation : (group : Group) → group ≢ Streams → (key : ℕ)
      → Some key ≡ slice_get (list_of group kept.core).told 0 → (found : Option ℕ)
      → IsHolder (ticket_at (ticket_in group) kept.operations) key found
      → IsFirst (roster_in group (rosters_by kept)) found
  IsFirst-operation Sends apart key told found is =
      IsFirst-holder (ticket_at send_ticket kept.operations)
      (keys_of kept.operations) kept.core.sends whole.each_send key told found is
  IsFirst-operation Receives apart key told found is =
      IsFirst-holder (ticket_at recv_ticket kept.operations)
      (keys_of kept.operations) kept.core.receives whole.each_receive key told found is
  IsFirst-operation Streams apart key told found is = absurd (apart refl)
  IsFirst-operation Closeds apart key told found is =
      IsFirst-holder (ticket_at closed_ticket kept.operations)
      (keys_of kept.operations) kept.core.closeds whole.each_closed key told found is

  pub IsFirst-stream : (key : ℕ) → Some key ≡ slice_get kept.core.streams.told 0
      → (found : Option ℕ)
      → IsHolder (ticket_at stream_ticket kept.receivers) key found
      → IsFirst (rosters_by kept).streams found
  IsFirst-stream key told found is = IsFirst-holder (ticket_at stream_ticket kept.receivers)
      (keys_of kept.receivers) kept.core.streams whole.each_stream key told found is
