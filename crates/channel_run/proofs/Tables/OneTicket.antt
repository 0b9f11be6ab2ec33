-- One list and one ticket: an entry of a table changes, and what it holds leaves the list, waits in it or stays.
use Rattle.std.proofs.Common.{◌≡◌, ℕ, List, ◌==◌, false, None, Option, sym, ◌∙◌, ap, subst}
use Rattle.std.specs.Prelude.{option_and_then}
use Rattle.std.specs.Map.{keys_of}
use Rattle.event_list.specs.Keys.{is_among}
use Rattle.event_list.specs.Waiting.{Waiting}
use Rattle.channel_core.specs.Tickets.{Waits, handed_on, left, waits}
use Rattle.channel_model.specs.Rosters.{Roster, hand_on, leave, wait}
use Rattle.channel_run.specs.RunShown.{Changed, ticket_at}
use Rattle.channel_run.proofs.Waiting.ChangedTickets.{holds-handed_on, holds-left, holds-same, holds-waits}
use Rattle.channel_run.proofs.Waiting.HeldLists.{Holds, absent-newcomer}
use Rattle.channel_run.proofs.Tables.OneEntry.{kept_tickets, listed, same_tickets}

-- The tickets of a table hold the list, and it shows the roster.
abbrev pub HoldsAt : {X W : Type 0} → (X → Option ℕ) → List (ℕ × X) → Waiting W → Roster → Type 0
HoldsAt ticket entries list roster = Holds (ticket_at ticket entries) (keys_of entries) list roster

-- whoever holds a ticket that isn't in the list isn't in the roster
pub held-absent : {X W : Type 0} (ticket : X → Option ℕ) (entries : List (ℕ × X)) (name : ℕ) (had : Option ℕ)
    → ticket_at ticket entries name ≡ had → (list : Waiting W) (roster : Roster) → HoldsAt ticket entries list roster
    → waits had list ≡ false → is_among name roster.names ≡ false
held-absent ticket entries name had has list roster holds gone =
    absent-newcomer (ticket_at ticket entries) (keys_of entries) list roster holds name had has gone

module _ {X W : Type 0} (ticket : X → Option ℕ) (name : ℕ) (entries entries' : List (ℕ × X))
    (now : Option X) (change : Changed name entries entries' now) (had : Option ℕ)
    (was : ticket_at ticket entries name ≡ had) (list : Waiting W) (roster : Roster)
    (holds : HoldsAt ticket entries list roster) where
  has : ticket_at ticket entries' name ≡ option_and_then ticket now
  has = ap (λ (found : Option X). option_and_then ticket found) change.here

  others : (other : ℕ) → (name == other) ≡ false
      → ticket_at ticket entries' other ≡ ticket_at ticket entries other
  others = kept_tickets ticket name entries entries' now change

  -- the ticket is the same
  pub held-same : option_and_then ticket now ≡ had → HoldsAt ticket entries' list roster
  held-same same =
      holds-same (ticket_at ticket entries) (ticket_at ticket entries') (keys_of entries) (keys_of entries')
      (listed ticket entries') list roster holds
      (same_tickets ticket name entries entries' now change (same ∙ sym was))

  -- it is gone, and its entry too
  pub held-left : option_and_then ticket now ≡ None
      → HoldsAt ticket entries' (left had list) (leave name roster)
  held-left gone =
      subst (λ t. HoldsAt ticket entries' (left t list) (leave name roster)) was
      (holds-left (ticket_at ticket entries) (ticket_at ticket entries') (keys_of entries) (keys_of entries')
      (listed ticket entries') list roster holds name others (has ∙ gone))

  -- and a notice of it is handed on
  pub held-handed_on : option_and_then ticket now ≡ None
      → HoldsAt ticket entries' (handed_on had list) (hand_on name roster)
  held-handed_on gone =
      subst (λ t. HoldsAt ticket entries' (handed_on t list) (hand_on name roster)) was
      (holds-handed_on (ticket_at ticket entries) (ticket_at ticket entries') (keys_of entries) (keys_of entries')
      (listed ticket entries') list roster holds name others (has ∙ gone))

  -- it waits
  pub held-waits : (payload : W) (list' : Waiting W)
      → Waits had list payload (option_and_then ticket now) list'
      → HoldsAt ticket entries' list' (wait name roster)
  held-waits payload list' on =
      holds-waits (ticket_at ticket entries) (ticket_at ticket entries') (keys_of entries) (keys_of entries')
      (listed ticket entries') list roster holds name others payload list'
      (subst (λ t. Waits t list payload (ticket_at ticket entries' name) list') (sym was)
      (subst (λ t. Waits had list payload t list') (sym has) on))
