-- A held list after its tickets, or the names that may hold them, changed: the roster that it shows then.
use Rattle.std.proofs.Common.{◌≡◌, ℕ, List, [], ◌∷◌, ◌++◌, Bool, true, false, ◌||◌, ◌==◌, cond, Some, None, Option, refl, sym, ◌∙◌, ap, subst, map}
use Rattle.std.specs.Prelude.{IsSomeAnd}
use Rattle.std.proofs.lemmas.Bool.{eqb-true, eq-eqb}
use Rattle.event_list.specs.Keys.{AreDifferent, is_among}
use Rattle.event_list.specs.Waiting.{Waiting, joined, keys, renewed, told_one}
use Rattle.event_list.proofs.Splits.{is_among-append, different-push}
use Rattle.channel_model.specs.Handles.{without}
use Rattle.channel_model.specs.Rosters.{Roster, arrive, hand_on, is_told, leave, tell_one, wait}
use Rattle.channel_core.specs.Tickets.{Waits, handed_on, left}
use Rattle.channel_model.proofs.NameLists.{AreDifferent-without, is_among-without_same}
use Rattle.channel_model.proofs.AllowedSteps.{is_among-without_other}
use Rattle.channel_run.proofs.Waiting.KeyedRosters.{IsKeyed, is_among-no_key, is_told-keyed, leave-keyed, wait-keyed, AreKeyed-other, arrive-keyed}
use Rattle.channel_run.proofs.Waiting.AbsentNames.{leave-absent, hand_on-absent, wait-when_absent}
use Rattle.channel_run.proofs.Waiting.KeyLists.{or_true, key_roster, is_told-key, keys-without, key-leave, key-joined, key-renewed, different_wait, among_wait}
use Rattle.channel_run.proofs.Waiting.HeldLists.{AreOwn, Holds, own, keyed, holds-keyed, holds-told_one}
use Rattle.event_list.specs.Waiting as waiting

module _ {W : Type 0} (ticket_of ticket_of' : ℕ → Option ℕ) (names names' : List ℕ)
    (listed : (name key : ℕ) → ticket_of' name ≡ Some key → is_among name names' ≡ true)
    (list : Waiting W) (roster : Roster) (holds : Holds ticket_of names list roster) where
  map_same : ((name : ℕ) → ticket_of' name ≡ ticket_of name) → (ns : List ℕ)
      → map ticket_of' ns ≡ map ticket_of ns
  map_same same [] = refl
  map_same same (n ∷ ns) = ap (λ t. t ∷ map ticket_of' ns) (same n) ∙ ap (λ rest. ticket_of n ∷ rest) (map_same same ns)

  -- the tickets are the same, whatever became of the names
  pub holds-same : ((name : ℕ) → ticket_of' name ≡ ticket_of name)
      → Holds ticket_of' names' list roster
  holds-same same =
      holds-keyed ticket_of' names' list roster
      (record {
        once = λ name other key a b. holds.each.once name other key (sym (same name) ∙ a)
            (sym (same other) ∙ b);
        listed = listed;
      })
      holds.each.different
      (λ name key has. holds.each.waits name key (sym (same name) ∙ has))
      (let is = keyed ticket_of names list roster holds in
      record { keyed = map_same same roster.names ∙ is.keyed; told = is.told })

  module _ (op : ℕ)
      (others : (name : ℕ) → (op == name) ≡ false → ticket_of' name ≡ ticket_of name) where
    same_but : ticket_of' op ≡ ticket_of op → (name : ℕ) → ticket_of' name ≡ ticket_of name
    same_but here name = go (op == name) refl
      where
        go : (same : Bool) → (op == name) ≡ same → ticket_of' name ≡ ticket_of name
        go true e = ap ticket_of' (sym (eqb-true op name e)) ∙ here ∙ ap ticket_of (eqb-true op name e)
        go false e = others name e

    -- one ticket goes: whoever has one now had it before, and isn't the one
    had : ticket_of' op ≡ None → (name key : ℕ) → ticket_of' name ≡ Some key
        → (ticket_of name ≡ Some key) × ((op == name) ≡ false)
    had gone name key has = go (op == name) refl
      where
        go : (same : Bool) → (op == name) ≡ same
            → (ticket_of name ≡ Some key) × ((op == name) ≡ false)
        go true e = let both : Some key ≡ None = sym has ∙ ap ticket_of' (sym (eqb-true op name e)) ∙ gone in cc
        go false e = (sym (others name e) ∙ has, e)

    fewer : ticket_of' op ≡ None → AreOwn ticket_of' names'
    fewer gone = record {
      once = λ name other key a b. holds.each.once name other key (had gone name key a).0
          (had gone other key b).0;
      listed = listed;
    }

    absent_name : ticket_of op ≡ None → is_among op roster.names ≡ false
    absent_name none = is_among-no_key ticket_of op roster.names (keys list)
        (keyed ticket_of names list roster holds).keyed none

    module _ (key : ℕ) (has : ticket_of op ≡ Some key) (gone : ticket_of' op ≡ None) where
      keyed_left : IsKeyed ticket_of (leave op roster) (leave key (key_roster list))
      keyed_left = leave-keyed ticket_of holds.each.once op key has roster (key_roster list)
          (keyed ticket_of names list roster holds)

      absent_left' : is_among op (leave op roster).names ≡ false
      absent_left' = is_among-without_same op roster.names

      waits_left : (name other : ℕ) → ticket_of' name ≡ Some other
          → is_among other (without key (keys list)) ≡ true
      waits_left name other is =
          let was = had gone name other is in
          is_among-without_other key other (keys list) (apart (key == other) refl was.0 was.1)
          (holds.each.waits name other was.0)
        where
          apart : (same : Bool) → (key == other) ≡ same → ticket_of name ≡ Some other
              → (op == name) ≡ false
              → (key == other) ≡ false
          apart false e f g = e
          apart true e f g =
              let one : op ≡ name = holds.each.once op name other (has ∙ ap (λ k. Some k) (eqb-true key other e)) f in
              let equal : (op == name) ≡ true = eq-eqb op name one in
              cc

      pub holds-without : Holds ticket_of' names' (waiting.without list key) (leave op roster)
      holds-without =
          let moved = key-leave list key holds.each.different in
          holds-keyed ticket_of' names' (waiting.without list key) (leave op roster) (fewer gone)
          (subst (λ ks. AreDifferent ks) (sym (keys-without list key))
          (AreDifferent-without key (keys list) holds.each.different))
          (λ name other is. ap (λ ks. is_among other ks) (keys-without list key) ∙ waits_left name other is)
          (subst (λ (r : Roster). IsKeyed ticket_of' (leave op roster) r) (sym moved)
          (record {
            keyed = AreKeyed-other ticket_of ticket_of' op (leave op roster).names
                (without key (keys list)) others absent_left' keyed_left.keyed;
            told = keyed_left.told;
          }))

    -- the one leaves, if it waits
    pub holds-left : ticket_of' op ≡ None
        → Holds ticket_of' names' (left (ticket_of op) list) (leave op roster)
    holds-left gone = go (ticket_of op) refl
      where
        go : (ticket : Option ℕ) → ticket_of op ≡ ticket
            → Holds ticket_of' names' (left ticket list) (leave op roster)
        go None e = subst (λ (r : Roster). Holds ticket_of' names' list r)
            (sym (leave-absent op roster (absent_name e))) (holds-same (same_but (gone ∙ sym e)))
        go (Some key) e = holds-without key e gone

    -- and a notice that it had is handed on
    pub holds-handed_on : ticket_of' op ≡ None
        → Holds ticket_of' names' (handed_on (ticket_of op) list) (hand_on op roster)
    holds-handed_on gone = go (ticket_of op) refl
      where
        by_key : (key : ℕ) → ticket_of op ≡ Some key → (a b : Bool) → a ≡ b
            → Holds ticket_of' names' (cond a (told_one (waiting.without list key)) (waiting.without list key))
            (cond b (tell_one (leave op roster)) (leave op roster))
        by_key key e true true f = holds-told_one ticket_of' names' (waiting.without list key) (leave op roster)
            (holds-without key e gone)
        by_key key e false false f = holds-without key e gone
        by_key key e true false f = cc
        by_key key e false true f = cc

        go : (ticket : Option ℕ) → ticket_of op ≡ ticket
            → Holds ticket_of' names' (handed_on ticket list) (hand_on op roster)
        go None e = subst (λ (r : Roster). Holds ticket_of' names' list r)
            (sym (hand_on-absent op roster (absent_name e))) (holds-same (same_but (gone ∙ sym e)))
        go (Some key) e =
            by_key key e (is_among key list.told) (is_told op roster)
            (sym (is_told-key list key) ∙ sym (is_told-keyed ticket_of holds.each.once op key e roster (key_roster list)
            (keyed ticket_of names list roster holds)))

    -- it begins to wait, under a key that isn't in the list
    holds-joined : (key : ℕ) (payload : W) → ticket_of op ≡ None → ticket_of' op ≡ Some key
        → is_among key (keys list) ≡ false → Holds ticket_of' names' (joined list key payload) (arrive op roster)
    holds-joined key payload none has fresh =
        let moved = key-joined list key payload in
        let all : keys (joined list key payload) ≡ keys list ++ key ∷ [] = ap (λ (r : Roster). r.names) moved in
        let before = keyed ticket_of names list roster holds in
        let kept : IsKeyed ticket_of' roster (key_roster list) =
        record {
          keyed = AreKeyed-other ticket_of ticket_of' op roster.names (keys list) others
              (absent_name none) before.keyed;
          told = before.told;
        } in
        holds-keyed ticket_of' names' (joined list key payload) (arrive op roster)
        (record { once = once; listed = listed })
        (subst (λ ks. AreDifferent ks) (sym all) (different-push (keys list) key fresh holds.each.different))
        (λ name other is. ap (λ ks. is_among other ks) all ∙ is_among-append other (keys list) (key ∷ [])
        ∙ waits_more name other is)
        (subst (λ (r : Roster). IsKeyed ticket_of' (arrive op roster) r) (sym moved)
        (arrive-keyed ticket_of' once op key has roster (key_roster list) kept))
      where
        -- who else has a ticket had it before, of another key
        old : (name other : ℕ) → ticket_of' name ≡ Some other → (op == name) ≡ false
            → is_among other (keys list) ≡ true
        old name other is apart = holds.each.waits name other (sym (others name apart) ∙ is)

        new_key : (name other : ℕ) → ticket_of' name ≡ Some other → (op == name) ≡ true
            → other ≡ key
        new_key name other is same = let both : Some other ≡ Some key = sym is
            ∙ ap ticket_of' (sym (eqb-true op name same)) ∙ has in cc

        waits_more : (name other : ℕ) → ticket_of' name ≡ Some other
            → (is_among other (keys list) || ((key == other) || false)) ≡ true
        waits_more name other is = go (op == name) refl
          where
            go : (same : Bool) → (op == name) ≡ same
                → (is_among other (keys list) || ((key == other) || false)) ≡ true
            go false e = ap (λ among. among || ((key == other) || false)) (old name other is e)
            go true e = rw (new_key name other is e, eq-eqb key key refl) (or_true (is_among key (keys list)))

        once : (name other k : ℕ) → ticket_of' name ≡ Some k → ticket_of' other ≡ Some k
            → name ≡ other
        once name other k a b = go (op == name) refl (op == other) refl
          where
            clash : (one another : ℕ) → ticket_of' one ≡ Some k → (op == one) ≡ true
                → ticket_of' another ≡ Some k
                → (op == another) ≡ false → ⊥
            clash one another x e y f =
                let there : is_among k (keys list) ≡ true = old another k y f in
                let same : k ≡ key = new_key one k x e in
                let gone : is_among k (keys list) ≡ false = rw same fresh in
                cc

            go : (p : Bool) → (op == name) ≡ p → (q : Bool) → (op == other) ≡ q → name ≡ other
            go true e true f = sym (eqb-true op name e) ∙ eqb-true op other f
            go true e false f = absurd (clash name other a e b f)
            go false e true f = absurd (clash other name b f a e)
            go false e false f = holds.each.once name other k (sym (others name e) ∙ a) (sym (others other f) ∙ b)

    holds-renewed : (key : ℕ) (payload : W) → ticket_of op ≡ Some key → ticket_of' op ≡ ticket_of op
        → Holds ticket_of' names' (renewed list key payload) (wait op roster)
    holds-renewed key payload has kept =
        let there = holds.each.waits op key has in
        let moved = key-renewed list key payload holds.each.different there in
        let base = holds-same (same_but kept) in
        let is : IsKeyed ticket_of' (wait op roster) (wait key (key_roster list)) =
        wait-keyed ticket_of' base.each.once op key (kept ∙ has) roster (key_roster list)
        (keyed ticket_of' names' list roster base) in
        holds-keyed ticket_of' names' (renewed list key payload) (wait op roster) (own base.each)
        (subst (λ (r : Roster). AreDifferent r.names) (sym moved)
        (different_wait key (key_roster list) holds.each.different))
        (λ name other x. ap (λ (r : Roster). is_among other r.names) moved
        ∙ among_wait key other (key_roster list) (base.each.waits name other x))
        (subst (λ (r : Roster). IsKeyed ticket_of' (wait op roster) r) (sym moved) is)

    -- who can't go on waits
    pub holds-waits : (payload : W) (list' : Waiting W)
        → Waits (ticket_of op) list payload (ticket_of' op) list'
        → Holds ticket_of' names' list' (wait op roster)
    holds-waits payload list' now = go (ticket_of op) refl now
      where
        fresh : ticket_of op ≡ None → (ticket : Option ℕ) → ticket_of' op ≡ ticket
            → IsSomeAnd ticket (λ key. (is_among key (keys list) ≡ false) × (list' ≡ joined list key payload))
            → Holds ticket_of' names' list' (wait op roster)
        fresh none (Some key) has is =
            rw (is.1, wait-when_absent op roster (absent_name none)) (holds-joined key payload none has is.0)
        fresh none None has is = absurd is

        go : (ticket : Option ℕ) → ticket_of op ≡ ticket
            → Waits ticket list payload (ticket_of' op) list'
            → Holds ticket_of' names' list' (wait op roster)
        go None e now = fresh e (ticket_of' op) refl (now.begins refl)
        go (Some key) e now =
            let again = now.again (holds.each.waits op key e) in
            rw again.1 (holds-renewed key payload e (again.0 ∙ sym e))
