-- A new run: nobody waits, and sender 0 and receiver 0 are live.
use Rattle.std.proofs.Common.{◌≡◌, [], ◌∷◌, true, false, Some, None, Option, refl, sym, ◌∙◌, ap, ℕ, List, Bool, ◌==◌, length, arith}
use Rattle.channel_model.specs.declared.step.Kind.{Kind}
use Rattle.channel_model.specs.Capacity.{HasPositiveCapacity, capacity_of}
use Rattle.channel_model.specs.View.{view_of, AreSameNames}
use Rattle.channel_run.specs.StandsFor.{StandsFor}
use Rattle.channel_run.proofs.Alike.SameNames.{AreSameNames-refl}
use Rattle.channel_run.proofs.Alike.SameOperations.{AreSameOperations-refl}
use Rattle.channel_run.proofs.Alike.SameViews.{AreAlike-refl, StandsFor-AreAlike}
use Rattle.std.specs.Prelude.{option_and_then}
use Rattle.std.specs.Map.{keys_of}
use Rattle.std.proofs.lemmas.Bool.{eqb-true}
use Rattle.event_list.specs.Waiting.{nobody}
use Rattle.channel_run.specs.declared.operations.Operation.{Operation as Started}
use Rattle.channel_core.specs.Channel.{new_channel}
use Rattle.channel_run.specs.RunShown.{AreHeld, Changed, IsWhole, roster_of, rosters_shown, shown, stream_ticket, ticket_at, recv_ticket, closed_ticket}
use Rattle.channel_run.proofs.Tables.ShownNames.{names-inserted}
use Rattle.channel_model.specs.Rosters as rosters

-- The empty past stands for a new run.
pub StandsFor-new : (T : Type 0) (kind : Kind) → HasPositiveCapacity kind
    → StandsFor {T = T} kind [] (view_of kind [])
StandsFor-new T kind some = record { legal = some; shows = AreAlike-refl (view_of kind []) }

nothing_held : {W : Type 0} (ticket_of : ℕ → Option ℕ) (names : List ℕ)
    → ((name : ℕ) → ticket_of name ≡ None)
    → AreHeld {W = W} ticket_of names nobody
nothing_held ticket_of names none = record {
  held = refl;
  waits = λ name key has. let gone = none name in cc;
  different = tt;
  once = λ name other key a b. let gone = none name in cc;
  listed = λ name key has. let gone = none name in cc;
}

no_roster : (W : Type 0) (ticket_of : ℕ → Option ℕ) (names : List ℕ)
    → roster_of {W = W} ticket_of names nobody ≡ rosters.nobody
unfolding roster_of
no_roster W ticket_of names = refl

module _ (T W : Type 0) (kind : Kind) (senders : List ℕ) (same : AreSameNames senders (0 ∷ []))
    (receivers : List (ℕ × Option ℕ)) (change : Changed 0 [] receivers (Some None))
    (one : length receivers ≡ 1) where
  no_ticket : (name : ℕ) → ticket_at stream_ticket receivers name ≡ None
  no_ticket name = go (0 == name) refl
    where
      go : (same : Bool) → (0 == name) ≡ same → ticket_at stream_ticket receivers name ≡ None
      go true e = ap (λ n. ticket_at stream_ticket receivers n) (sym (eqb-true 0 name e))
          ∙ ap (λ (found : Option (Option ℕ)). option_and_then stream_ticket found) change.here
      go false e = ap (λ (found : Option (Option ℕ)). option_and_then stream_ticket found) (change.elsewhere name e)

  pub whole-new : (capacity : Option ℕ)
      → IsWhole {T = T} {W = W} (new_channel capacity) senders receivers []
  whole-new capacity = record {
    count_senders = sym same.count;
    count_receivers = sym one;
    each_send = nothing_held _ _ (λ name. refl);
    each_receive = nothing_held _ _ (λ name. refl);
    each_stream = nothing_held _ _ no_ticket;
    each_closed = nothing_held _ _ (λ name. refl);
  }

  pub stands-new : HasPositiveCapacity kind
      → StandsFor {T = T} kind [] (shown {T = T} {W = W} (new_channel (capacity_of kind)) senders receivers [] [] [])
  stands-new positive = StandsFor-AreAlike kind [] (view_of kind [])
      (shown {T = T} {W = W} (new_channel (capacity_of kind)) senders receivers [] [] [])
      (StandsFor-new T kind positive) (record {
        capacity = refl;
        messages = refl;
        closed = refl;
        senders = same;
        receivers = names-inserted 0 [] receivers None change one;
        weak_senders = AreSameNames-refl [];
        weak_receivers = AreSameNames-refl [];
        operations = AreSameOperations-refl [];
        rosters = all;
      })
    where
      all : rosters_shown {T = T} {W = W} (new_channel (capacity_of kind)) receivers []
          ≡ record {
            sends = rosters.nobody;
            receives = rosters.nobody;
            streams = rosters.nobody;
            closeds = rosters.nobody;
          }
      all =
          ap (λ (r : rosters.Roster). record {
            sends = r;
            receives = roster_of {W = W} (ticket_at {X = Started T} recv_ticket []) [] nobody;
            streams = roster_of {W = W} (ticket_at stream_ticket receivers) (keys_of receivers) nobody;
            closeds = roster_of {W = W} (ticket_at {X = Started T} closed_ticket []) [] nobody;
          }) (no_roster W _ _)
          ∙ ap (λ (r : rosters.Roster). record {
            sends = rosters.nobody;
            receives = r;
            streams = roster_of {W = W} (ticket_at stream_ticket receivers) (keys_of receivers) nobody;
            closeds = roster_of {W = W} (ticket_at {X = Started T} closed_ticket []) [] nobody;
          }) (no_roster W _ _)
          ∙ ap (λ (r : rosters.Roster). record {
            sends = rosters.nobody;
            receives = rosters.nobody;
            streams = r;
            closeds = roster_of {W = W} (ticket_at {X = Started T} closed_ticket []) [] nobody;
          }) (no_roster W _ _)
          ∙ ap (λ (r : rosters.Roster). record {
            sends = rosters.nobody;
            receives = rosters.nobody;
            streams = rosters.nobody;
            closeds = r;
          }) (no_roster W _ _)

pub nothing_left : {X : Type 0} (items : List X) → length items ≡ 0 → items ≡ []
nothing_left [] e = refl
nothing_left (item ∷ items) e = absurd (omega arith)
