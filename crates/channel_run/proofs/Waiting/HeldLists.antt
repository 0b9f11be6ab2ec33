-- A waiting list that is held, each key on the ticket of one name, and the roster of names that it shows.
use Rattle.std.proofs.Common.{◌≡◌, ℕ, List, [], ◌∷◌, Bool, true, false, ◌||◌, ◌==◌, cond, Some, None, Option, refl, sym, ◌∙◌, ap, subst, map}
use Rattle.std.specs.Prelude.{find, unwrap_or}
use Rattle.std.proofs.lemmas.Bool.{eqb-true, eq-eqb}
use Rattle.event_list.specs.Keys.{AreDifferent, is_among}
use Rattle.event_list.specs.Waiting.{Waiting, keys, told_all, told_one}
use Rattle.channel_model.specs.Rosters.{Roster, tell_all, tell_one}
use Rattle.channel_core.specs.Tickets.{waits}
use Rattle.channel_run.specs.RunShown.{AreHeld, has_key, name_of, roster_of}
use Rattle.channel_run.proofs.Waiting.KeyedRosters.{AreKeyed, IsKeyed, is_among-no_key, tell_one-keyed, tell_all-keyed}
use Rattle.channel_run.proofs.Waiting.KeyLists.{key_roster, same_roster, key-told_one, key-told_all}

-- ---- who holds a key

find_it : (test : ℕ → Bool) (name : ℕ) (names : List ℕ) → test name ≡ true
    → ((other : ℕ) → test other ≡ true → other ≡ name) → is_among name names ≡ true → find test names ≡ Some name
find_it test name [] is one among = cc
find_it test name (first ∷ names) is one among =
    go (test first) refl (first == name) refl (λ there. find_it test name names is one there)
  where
    go : (passes : Bool) → test first ≡ passes → (same : Bool) → (first == name) ≡ same
        → (is_among name names ≡ true → find test names ≡ Some name)
        → cond passes (Some first) (find test names) ≡ Some name
    go true e same f rest = ap (λ n. Some n) (one first e)
    go false e true f rest = let equal : test first ≡ true = ap test (eqb-true first name f) ∙ is in cc
    go false e false f rest = rest (ap (λ here. here || is_among name names) (sym f) ∙ among)

pub has_key-is : (key : ℕ) (ticket : Option ℕ) → has_key key ticket ≡ true → ticket ≡ Some key
has_key-is key None e = cc
has_key-is key (Some other) e = ap (λ k. Some k) (eqb-true other key e)

pub is-has_key : (key : ℕ) (ticket : Option ℕ) → ticket ≡ Some key → has_key key ticket ≡ true
is-has_key key ticket e = ap (λ t. has_key key t) e ∙ eq-eqb key key refl

-- what each change has to keep of the tickets: one name a key, and every holder listed
pub record AreOwn (ticket_of : ℕ → Option ℕ) (names : List ℕ) : Type 0 where
  pub once : (name other key : ℕ) → ticket_of name ≡ Some key → ticket_of other ≡ Some key
      → name ≡ other
  pub listed : (name key : ℕ) → ticket_of name ≡ Some key → is_among name names ≡ true

name_of-is : (ticket_of : ℕ → Option ℕ) (names : List ℕ) → AreOwn ticket_of names → (name key : ℕ)
    → ticket_of name ≡ Some key → name_of ticket_of names key ≡ name
name_of-is ticket_of names own name key has =
    ap (λ found. unwrap_or found 0)
    (find_it (λ n. has_key key (ticket_of n)) name names (is-has_key key (ticket_of name) has)
    (λ other is. own.once other name key (has_key-is key (ticket_of other) is) has)
    (own.listed name key has))

names_of-keys : (ticket_of : ℕ → Option ℕ) (names : List ℕ) → AreOwn ticket_of names
    → (roster keys : List ℕ)
    → AreKeyed ticket_of roster keys → map (λ key. name_of ticket_of names key) keys ≡ roster
names_of-keys ticket_of names own [] [] e = refl
names_of-keys ticket_of names own [] (key ∷ keys) e = cc
names_of-keys ticket_of names own (name ∷ roster) [] e = cc
names_of-keys ticket_of names own (name ∷ roster) (key ∷ keys) e =
    let first : ticket_of name ≡ Some key = cc in
    let rest : AreKeyed ticket_of roster keys = cc in
    ap (λ n. n ∷ map (λ key. name_of ticket_of names key) keys) (name_of-is ticket_of names own name key first)
    ∙ ap (λ others. name ∷ others) (names_of-keys ticket_of names own roster keys rest)

-- ---- a list that is held, and the roster that it shows

pub record Holds {W : Type 0} (ticket_of : ℕ → Option ℕ) (names : List ℕ) (list : Waiting W)
    (roster : Roster) : Type 0 where
  pub each : AreHeld ticket_of names list
  pub shows : roster_of ticket_of names list ≡ roster

pub holds-refl : {W : Type 0} (ticket_of : ℕ → Option ℕ) (names : List ℕ) (list : Waiting W)
    → AreHeld ticket_of names list → Holds ticket_of names list (roster_of ticket_of names list)
holds-refl ticket_of names list each = record { each = each; shows = refl }

pub own : {W : Type 0} {ticket_of : ℕ → Option ℕ} {names : List ℕ} {list : Waiting W}
    → AreHeld ticket_of names list
    → AreOwn ticket_of names
own held = record { once = held.once; listed = held.listed }

-- the roster stands place by place over the keys
pub keyed : {W : Type 0} (ticket_of : ℕ → Option ℕ) (names : List ℕ) (list : Waiting W) (roster : Roster)
    → Holds ticket_of names list roster → IsKeyed ticket_of roster (key_roster list)
unfolding roster_of
keyed ticket_of names list roster holds =
    subst (λ (r : Roster). IsKeyed ticket_of r (key_roster list)) holds.shows
    (record { keyed = holds.each.held; told = refl })

-- and whatever does so is the roster
pub holds-keyed : {W : Type 0} (ticket_of : ℕ → Option ℕ) (names : List ℕ) (list : Waiting W) (roster : Roster)
    → AreOwn ticket_of names → AreDifferent (keys list)
    → ((name key : ℕ) → ticket_of name ≡ Some key → is_among key (keys list) ≡ true)
    → IsKeyed ticket_of roster (key_roster list) → Holds ticket_of names list roster
unfolding roster_of
holds-keyed ticket_of names list roster own different waits keyed =
    let same = names_of-keys ticket_of names own roster.names (keys list) keyed.keyed in
    record {
      each = record {
        held = ap (λ ns. map ticket_of ns) same ∙ keyed.keyed;
        waits = waits;
        different = different;
        once = own.once;
        listed = own.listed;
      };
      shows = same_roster (roster_of ticket_of names list) roster same (sym keyed.told);
    }

-- the keys are the same, and so are the tickets
rekeyed : {W : Type 0} (ticket_of : ℕ → Option ℕ) (names : List ℕ) (list list' : Waiting W) (roster : Roster)
    → AreHeld ticket_of names list → keys list' ≡ keys list
    → IsKeyed ticket_of roster (key_roster list') → Holds ticket_of names list' roster
rekeyed ticket_of names list list' roster each same keyed =
    holds-keyed ticket_of names list' roster (own each) (subst (λ ks. AreDifferent ks) (sym same) each.different)
    (λ name key has. ap (λ ks. is_among key ks) same ∙ each.waits name key has) keyed

pub holds-told_one : {W : Type 0} (ticket_of : ℕ → Option ℕ) (names : List ℕ) (list : Waiting W) (roster : Roster)
    → Holds ticket_of names list roster → Holds ticket_of names (told_one list) (tell_one roster)
holds-told_one ticket_of names list roster holds =
    let moved = key-told_one list in
    rekeyed ticket_of names list (told_one list) (tell_one roster) holds.each (ap (λ (r : Roster). r.names) moved)
    (subst (λ (r : Roster). IsKeyed ticket_of (tell_one roster) r) (sym moved)
    (tell_one-keyed ticket_of roster (key_roster list) (keyed ticket_of names list roster holds)))

pub holds-told_all : {W : Type 0} (ticket_of : ℕ → Option ℕ) (names : List ℕ) (list : Waiting W) (roster : Roster)
    → Holds ticket_of names list roster → Holds ticket_of names (told_all list) (tell_all roster)
holds-told_all ticket_of names list roster holds =
    let moved = key-told_all list in
    rekeyed ticket_of names list (told_all list) (tell_all roster) holds.each (ap (λ (r : Roster). r.names) moved)
    (subst (λ (r : Roster). IsKeyed ticket_of (tell_all roster) r) (sym moved)
    (tell_all-keyed ticket_of roster (key_roster list) (keyed ticket_of names list roster holds)))

-- whoever holds no ticket isn't in the roster
pub absent-Holds : {W : Type 0} (ticket_of : ℕ → Option ℕ) (names : List ℕ) (list : Waiting W) (roster : Roster)
    → Holds ticket_of names list roster → (name : ℕ) → ticket_of name ≡ None → is_among name roster.names ≡ false
absent-Holds ticket_of names list roster holds name none =
    is_among-no_key ticket_of name roster.names (keys list) (keyed ticket_of names list roster holds).keyed none

-- nor whoever holds one that isn't in the list
pub absent-newcomer : {W : Type 0} (ticket_of : ℕ → Option ℕ) (names : List ℕ) (list : Waiting W) (roster : Roster)
    → Holds ticket_of names list roster → (name : ℕ) (ticket : Option ℕ) → ticket_of name ≡ ticket
    → waits ticket list ≡ false → is_among name roster.names ≡ false
absent-newcomer ticket_of names list roster holds name None has gone =
    absent-Holds ticket_of names list roster holds name has
absent-newcomer ticket_of names list roster holds name (Some key) has gone = let there =
    holds.each.waits name key has in cc
