-- One entry of a table changes: what stands under its name, and the tickets of all the others.
use Rattle.std.proofs.Common.{◌≡◌, ℕ, suc, ◌+◌, List, Bool, true, false, ◌==◌, Some, None, Option, refl, sym, ◌∙◌, ap, subst, arith}
use Rattle.std.specs.Prelude.{is_some, option_and_then}
use Rattle.std.specs.Option.{option_flatten}
use Rattle.std.specs.Map.{keys_of}
use Rattle.std.specs.Ordering.{is_eq, nat_cmp}
use Rattle.std.proofs.lemmas.Bool.{eqb-true}
use Rattle.event_list.specs.Keys.{is_among}
use Rattle.event_list.proofs.Splits.{eqb_swap}
use Rattle.channel_run.specs.RunShown.{Changed, entry_at, stream_ticket, ticket_at}
use Rattle.channel_run.proofs.Tables.Entries.{is_among-entry_at, is_eq-nat_cmp}

-- as a map's clauses say it
pub changed : {X : Type 0} (name : ℕ) (entries entries' : List (ℕ × X)) (now : Option X)
    → entry_at entries' name ≡ now
    → ((other : ℕ) → is_eq (nat_cmp name other) ≡ false → entry_at entries' other ≡ entry_at entries other)
    → Changed name entries entries' now
changed name entries entries' now here elsewhere = record {
  here = here;
  elsewhere = λ other apart. elsewhere other (is_eq-nat_cmp name other ∙ eqb_swap name other apart);
}

-- whoever holds a ticket is among the names
pub listed : {X : Type 0} (ticket : X → Option ℕ) (entries : List (ℕ × X)) (name key : ℕ)
    → ticket_at ticket entries name ≡ Some key → is_among name (keys_of entries) ≡ true
listed {X} ticket entries name key has = sym (is_among-entry_at entries name) ∙ go (entry_at entries name) has
  where
    go : (found : Option X) → option_and_then ticket found ≡ Some key → is_some found ≡ true
    go None e = cc
    go (Some entry) e = refl

-- one more
pub by_counts : (a b c d : ℕ) → a ≡ b → c ≡ d → b ≡ d + 1 → a ≡ suc c
by_counts a b c d e f g = omega arith

pub by_name : (op name : ℕ) (A : ℕ → Type 0) → A op → ((op == name) ≡ false → A name) → A name
by_name op name A here elsewhere = go (op == name) refl
  where
    go : (same : Bool) → (op == name) ≡ same → A name
    go true e = subst (λ n. A n) (eqb-true op name e) here
    go false e = elsewhere e

-- the tickets of a group stay, if the one's does
pub same_tickets : {X : Type 0} (ticket : X → Option ℕ) (name : ℕ) (entries entries' : List (ℕ × X)) (now : Option X)
    → Changed name entries entries' now
    → option_and_then ticket now ≡ ticket_at ticket entries name → (other : ℕ)
    → ticket_at ticket entries' other ≡ ticket_at ticket entries other
same_tickets {X} ticket name entries entries' now change same other =
    by_name name other (λ n. ticket_at ticket entries' n ≡ ticket_at ticket entries n)
    (ap (λ (found : Option X). option_and_then ticket found) change.here ∙ same)
    (λ apart. ap (λ (found : Option X). option_and_then ticket found) (change.elsewhere other apart))

pub kept_tickets : {X : Type 0} (ticket : X → Option ℕ) (name : ℕ) (entries entries' : List (ℕ × X)) (now : Option X)
    → Changed name entries entries' now
    → (other : ℕ) → (name == other) ≡ false → ticket_at ticket entries' other ≡ ticket_at ticket entries other
kept_tickets {X} ticket name entries entries' now change other apart =
    ap (λ (found : Option X). option_and_then ticket found) (change.elsewhere other apart)

-- nothing stands under a name that isn't live
pub nothing_at : {X : Type 0} (entries : List (ℕ × X)) (name : ℕ)
    → is_some (entry_at entries name) ≡ false
    → entry_at entries name ≡ None
nothing_at {X} entries name e = go (entry_at entries name) e
  where
    go : (found : Option X) → is_some found ≡ false → found ≡ None
    go None e = refl
    go (Some entry) e = cc

pub flat : (found : Option (Option ℕ)) → option_flatten found ≡ option_and_then stream_ticket found
flat None = refl
flat (Some None) = refl
flat (Some (Some key)) = refl
