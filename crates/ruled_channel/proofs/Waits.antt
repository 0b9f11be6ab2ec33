-- One that waits, in any of the four lists. If it waits twice in a row, it waits as by the second
-- payload alone.
use Rattle.std.proofs.Common.{◌≡◌, ◌==◌, ℕ, Bool, true, false, not, cond, List, [], ◌∷◌, map, filter, Option, Some, None, IsSomeAnd, refl, sym, ap, ◌∙◌, subst, inl, inr}
use Rattle.std.proofs.lemmas.Bool.{cases_Bool, or_from, or_right}
use Rattle.std.proofs.lemmas.List.{map-append}
use Rattle.event_list.specs.Keys.{is_among}
use Rattle.event_list.specs.Waiting.{Waiting, joined, keys, renewed, repaid, untold_keys, without}
use Rattle.event_list.proofs.Splits.{absent_right, eqb_same, is_among-append, repaid-absent}
use Rattle.channel_core.specs.Channel.{Channel, WaitsIn, given_up}
use Rattle.channel_core.specs.declared.state.Group.{Group}
use Rattle.channel_core.specs.declared.state.Group.TheVariants.{Sends, Receives, Streams, Closeds}
use Rattle.channel_core.specs.Tickets.{Waits, waiting_again}
use Rattle.ruled_channel.specs.State.{state_of}
use Rattle.ruled_channel.specs.declared.mark.Mark.{Mark}

module _ {W : Type 0} (key : ℕ) (first second : W) where
  abbrev pays : W → ℕ × W → ℕ × W
  pays payload entry = cond (entry.0 == key) (key, payload) entry

  pays_twice : (entries : List (ℕ × W)) → map (pays second) (map (pays first) entries) ≡ map (pays second) entries
  pays_twice [] = refl
  pays_twice (entry ∷ rest) =
      elim (cases_Bool (entry.0 == key)) [
        | inl here ↦ rw (here, eqb_same key, pays_twice rest) refl
        | inr there ↦ rw there (rw (there, pays_twice rest) refl)
      ]

  repaid_twice : (list : Waiting W) → repaid (repaid list key first) key second ≡ repaid list key second
  repaid_twice list = ap (λ untold. record list { untold = untold }) (pays_twice list.untold)

  -- of a key that was no untold one before
  joined_repaid : (list : Waiting W) → is_among key (untold_keys list) ≡ false
      → repaid (joined list key first) key second ≡ joined list key second
  joined_repaid list absent = ap (λ untold. record list { untold = untold })
      (map-append (pays second) list.untold ((key, first) ∷ [])
      ∙ rw (repaid-absent key second list.untold absent, eqb_same key) refl)

  gone : (entries : List (ℕ × W)) → is_among key (map (λ entry. entry.0) (filter (λ entry. not (entry.0 == key)) entries)) ≡ false
  gone [] = refl
  gone (entry ∷ rest) =
      elim (cases_Bool (entry.0 == key)) [
        | inl here ↦ rw here (gone rest)
        | inr there ↦ rw there (or_from _ _ there (gone rest))
      ]

  renewed_repaid : (list : Waiting W) → repaid (renewed list key first) key second ≡ renewed list key second
  renewed_repaid list =
      elim (cases_Bool (is_among key list.told)) [
        | inl told ↦ rw told (joined_repaid (without list key) (gone list.untold))
        | inr untold ↦ rw untold (repaid_twice list)
      ]

-- a key that is untold
flags : (told untold : Bool) → cond told (Some true) (cond untold (Some false) None) ≡ Some false → (told ≡ false) × (untold ≡ true)
flags true untold h = absurd (cc)
flags false true h = (refl, refl)
flags false false h = absurd (cc)

module _ {W : Type 0} where
  waits_twice : (t t' t'' : Option ℕ) (list list' list'' : Waiting W) (first second : W)
      → Waits t list first t' list' → Waits t' list' second t'' list'' → Waits t list second t'' list''
  waits_twice t None t'' list list' list'' first second once again = absurd once.holds
  waits_twice t (Some key) t'' list list' list'' first second once again =
      let flag = flags _ _ once.holds.is_untold in
      let stays = again.again (is_among-append key list'.told (untold_keys list') ∙ or_right _ _ flag.1) in
      let after : list'' ≡ repaid list' key second = stays.1 ∙ rw flag.0 refl in
      record {
        again = λ is. let renews = once.again is in (
          stays.0 ∙ renews.0,
          subst (λ ticket. list'' ≡ waiting_again ticket list second) renews.0
              (after ∙ ap (λ l. repaid l key second) (subst (λ ticket. list' ≡ waiting_again ticket list first) (sym renews.0) renews.1)
              ∙ renewed_repaid key first second list),
        );
        begins = λ is. let joins = once.begins is in
            subst (λ ticket. IsSomeAnd ticket (λ k. (is_among k (keys list) ≡ false) × (list'' ≡ joined list k second))) (sym stays.0)
            (joins.0, after ∙ ap (λ l. repaid l key second) joins.1 ∙ joined_repaid key first second list (absent_right key list.told (untold_keys list) joins.0));
        holds = again.holds;
      }

-- no rule sees that one waits no more
pub same_given_up : {T : Type 0} (group : Group) (ticket : Option ℕ) (core : Channel T Mark)
    → state_of (given_up group ticket core).channel ≡ state_of core
same_given_up Sends ticket core = refl
same_given_up Receives ticket core = refl
same_given_up Streams ticket core = refl
same_given_up Closeds ticket core = refl

module _ {T W : Type 0} (t t' t'' : Option ℕ) (core core' core'' : Channel T W) (first second : W) where
  pub waits_in_twice : (group : Group) → WaitsIn group t core first t' core' → WaitsIn group t' core' second t'' core''
      → WaitsIn group t core second t'' core''
  waits_in_twice Sends once again = (
    again.0 ∙ ap (λ (c : Channel T W). record c { sends = core''.sends }) once.0,
    waits_twice t t' t'' _ _ _ first second once.1 again.1,
  )
  waits_in_twice Receives once again = (
    again.0 ∙ ap (λ (c : Channel T W). record c { receives = core''.receives }) once.0,
    waits_twice t t' t'' _ _ _ first second once.1 again.1,
  )
  waits_in_twice Streams once again = (
    again.0 ∙ ap (λ (c : Channel T W). record c { streams = core''.streams }) once.0,
    waits_twice t t' t'' _ _ _ first second once.1 again.1,
  )
  waits_in_twice Closeds once again = (
    again.0 ∙ ap (λ (c : Channel T W). record c { closeds = core''.closeds }) once.0,
    waits_twice t t' t'' _ _ _ first second once.1 again.1,
  )
