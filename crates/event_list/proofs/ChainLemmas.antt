-- Entries of a slab, one behind the other, and what a write of one of them leaves.
use Rattle.std.proofs.Common.{◌≡◌, ◌≢◌, ℕ, ◌-◌, ◌==◌, true, false, cond, List, [], ◌∷◌, ◌++◌, map, length, Option, Some, None, is_some, refl, sym, ap, ◌∙◌, subst, arith, inl, inr}
use Rattle.std.specs.Option.{option_map}
use Rattle.std.proofs.lemmas.Bool.{eqb-false, eq-eqb, or_parts, or_right, or_left, both_ways, cases_eq}
use Rattle.std.proofs.lemmas.List.{map-append, append-nil, length-map}
use Rattle.slab.specs.Slab.{Slab, get, Updates}
use Rattle.event_list.specs.Keys.{is_among, AreDifferent}
use Rattle.event_list.specs.Waiting.{Waiting, keys}
use Rattle.event_list.specs.Entries.{with_behind, with_before, with_notice, Rewrites, MayRewrite}
use Rattle.event_list.specs.Chain.{first_key, last_key, IsChain, walk, untold_of, told_item, untold_item, items, shown, Keeps}
use Rattle.event_list.specs.declared.entries.Entry.{Entry}
use Rattle.event_list.specs.declared.ends.Ends.{Ends}
use Rattle.event_list.specs.declared.entries.EntryState.{EntryState}
use Rattle.event_list.proofs.Splits.{eqb_same, Midst, different-push, different_left, different_right, apart, apart_back}

module _ {A : Type 0} where
  pub first_key-append : (xs ys : List (ℕ × A)) (behind : Option ℕ)
      → first_key (xs ++ ys) behind ≡ first_key xs (first_key ys behind)
  first_key-append [] ys behind = refl
  first_key-append (x ∷ xs) ys behind = refl

  pub last_key-append : (before : Option ℕ) (xs ys : List (ℕ × A))
      → last_key before (xs ++ ys) ≡ last_key (last_key before xs) ys
  last_key-append before [] ys = refl
  last_key-append before (x ∷ xs) ys = last_key-append (Some x.0) xs ys

  -- the last of some items is one of them
  pub last_among : (x : ℕ × A) (xs : List (ℕ × A)) (key : ℕ) → last_key (Some x.0) xs ≡ Some key
      → is_among key (x.0 ∷ map (λ item. item.0) xs) ≡ true
  last_among x [] key h = or_left (x.0 == key) false (eq-eqb x.0 key (let same : Some x.0 ≡ Some key = h in cc))
  last_among x (y ∷ ys) key h = or_right (x.0 == key) (is_among key (map (λ item. item.0) (y ∷ ys)))
      (last_among y ys key h)

module _ {W : Type 0} where
  abbrev pub keys_of : List (ℕ × EntryState W) → List ℕ
  keys_of xs = map (λ item. item.0) xs

  -- every other slot is as it was
  abbrev pub SameOthers : Slab (Entry W) → Slab (Entry W) → ℕ → Type 0
  SameOthers old new key = (other : ℕ) → other ≢ key → get new other ≡ get old other

  pub chain_append : (slab : Slab (Entry W)) (before behind : Option ℕ) (xs ys : List (ℕ × EntryState W))
      → IsChain slab before xs (first_key ys behind) → IsChain slab (last_key before xs) ys behind
      → IsChain slab before (xs ++ ys) behind
  chain_append slab before behind [] ys h i = i
  chain_append slab before behind (x ∷ xs) ys h i =
      (rw (first_key-append xs ys behind) h.0, chain_append slab (Some x.0) behind xs ys h.1 i)

  pub chain_front : (slab : Slab (Entry W)) (before behind : Option ℕ) (xs ys : List (ℕ × EntryState W))
      → IsChain slab before (xs ++ ys) behind → IsChain slab before xs (first_key ys behind)
  chain_front slab before behind [] ys h = tt
  chain_front slab before behind (x ∷ xs) ys h =
      (rw (← first_key-append xs ys behind) h.0, chain_front slab (Some x.0) behind xs ys h.1)

  pub chain_back : (slab : Slab (Entry W)) (before behind : Option ℕ) (xs ys : List (ℕ × EntryState W))
      → IsChain slab before (xs ++ ys) behind → IsChain slab (last_key before xs) ys behind
  chain_back slab before behind [] ys h = h
  chain_back slab before behind (x ∷ xs) ys h = chain_back slab (Some x.0) behind xs ys h.1

  -- a chain that a write doesn't reach
  pub chain_kept : (old new : Slab (Entry W)) (key : ℕ) (before behind : Option ℕ) (xs : List (ℕ × EntryState W))
      → SameOthers old new key → is_among key (keys_of xs) ≡ false → IsChain old before xs behind
      → IsChain new before xs behind
  chain_kept old new key before behind [] same absent h = tt
  chain_kept old new key before behind (x ∷ xs) same absent h =
      let parts = or_parts (x.0 == key) (is_among key (keys_of xs)) absent in
      (same x.0 (eqb-false x.0 key parts.0) ∙ h.0, chain_kept old new key (Some x.0) behind xs same parts.1 h.1)

  -- the neighbour behind the last item
  pub chain_end : (old new : Slab (Entry W)) (key : ℕ) (before behind next : Option ℕ) (x : ℕ × EntryState W)
      (xs : List (ℕ × EntryState W)) → last_key (Some x.0) xs ≡ Some key → AreDifferent (x.0 ∷ keys_of xs)
      → get new key ≡ option_map (with_behind next) (get old key) → SameOthers old new key
      → IsChain old before (x ∷ xs) behind → IsChain new before (x ∷ xs) next
  chain_end old new key before behind next x [] last different written same h =
      let is : x.0 ≡ key = (let both : Some x.0 ≡ Some key = last in cc) in
      (ap (get new) is ∙ written ∙ ap (option_map (with_behind next)) (ap (get old) (sym is) ∙ h.0), tt)
  chain_end old new key before behind next x (y ∷ ys) last different written same h =
      let apart : x.0 ≢ key = λ e. both_ways (is_among key (y.0 ∷ keys_of ys))
      (subst (λ k. is_among k (y.0 ∷ keys_of ys) ≡ false) e different.0) (last_among y ys key last) in
      (same x.0 apart ∙ h.0, chain_end old new key (Some x.0) behind next y ys last different.1 written same h.1)

  -- the neighbour before the first item
  pub chain_start : (old new : Slab (Entry W)) (before behind next : Option ℕ) (x : ℕ × EntryState W)
      (xs : List (ℕ × EntryState W)) → is_among x.0 (keys_of xs) ≡ false
      → get new x.0 ≡ option_map (with_before next) (get old x.0) → SameOthers old new x.0
      → IsChain old before (x ∷ xs) behind → IsChain new next (x ∷ xs) behind
  chain_start old new before behind next x xs absent written same h =
      (written ∙ ap (option_map (with_before next)) h.0, chain_kept old new x.0 (Some x.0) behind xs same absent h.1)

  -- the notice of an item
  pub chain_notice : (old new : Slab (Entry W)) (before behind : Option ℕ) (key : ℕ) (notice changed : EntryState W)
      (xs : List (ℕ × EntryState W)) → is_among key (keys_of xs) ≡ false
      → get new key ≡ option_map (with_notice changed) (get old key) → SameOthers old new key
      → IsChain old before ((key, notice) ∷ xs) behind → IsChain new before ((key, changed) ∷ xs) behind
  chain_notice old new before behind key notice changed xs absent written same h =
      (written ∙ ap (option_map (with_notice changed)) h.0, chain_kept old new key (Some key) behind xs same absent h.1)

  -- a walk along a chain gives its items
  pub walk_chain : (slab : Slab (Entry W)) (before behind : Option ℕ) (xs : List (ℕ × EntryState W))
      → IsChain slab before xs behind → walk slab (length xs) (first_key xs behind) ≡ xs
  walk_chain slab before behind [] h = refl
  walk_chain slab before behind (x ∷ xs) h = rw h.0 (ap (λ ys. x ∷ ys) (walk_chain slab (Some x.0) behind xs h.1))

  pub untold_of-map : (untold : List (ℕ × W)) → untold_of (map untold_item untold) ≡ untold
  untold_of-map [] = refl
  untold_of-map (entry ∷ rest) = ap (λ xs. entry ∷ xs) (untold_of-map rest)

  pub first_key-untold : (untold : List (ℕ × W)) → first_key (map untold_item untold) None ≡ first_key untold None
  first_key-untold [] = refl
  first_key-untold (entry ∷ rest) = refl

pub keys_of-told : (W : Type 0) (told : List ℕ) → map (λ item. item.0) (map (told_item {W = W}) told) ≡ told
keys_of-told W [] = refl
keys_of-told W (key ∷ rest) = ap (λ xs. key ∷ xs) (keys_of-told W rest)

module _ {W : Type 0} where
  pub keys_of-untold : (untold : List (ℕ × W))
      → map (λ item. item.0) (map untold_item untold) ≡ map (λ entry. entry.0) untold
  keys_of-untold [] = refl
  keys_of-untold (entry ∷ rest) = ap (λ xs. entry.0 ∷ xs) (keys_of-untold rest)

  pub keys_of-items : (list : Waiting W) → keys_of (items list) ≡ keys list
  keys_of-items list =
      map-append (λ (item : ℕ × EntryState W). item.0) (map told_item list.told) (map untold_item list.untold)
      ∙ rw (keys_of-told W list.told, keys_of-untold list.untold) refl

  pub Keeps-shown : (slab : Slab (Entry W)) (ends : Ends) (len told : ℕ) (list : Waiting W)
      → Keeps slab ends len told list → shown slab ends len told ≡ list
  Keeps-shown slab ends len told list keeps =
      let front = map (told_item {W = W}) list.told in
      let back = map untold_item list.untold in
      let linked = keeps.links in
      let told_is : told ≡ length front = keeps.counted ∙ sym (length-map list.told (told_item {W = W})) in
      let first_is : ends.first ≡ first_key front (first_key back None) = linked.first_is
      ∙ first_key-append front back None in
      let first_walk : walk slab told ends.first ≡ front =
      rw (told_is, first_is) (walk_chain slab None (first_key back None) front
      (chain_front slab None None front back linked.linked)) in
      let rest_is : len - told ≡ length back =
      omega (arith, keeps.counted, keeps.total, length-map list.untold (untold_item {W = W})) in
      let cursor_is : ends.cursor ≡ first_key back None = linked.cursor_is ∙ sym (first_key-untold list.untold) in
      let back_walk : walk slab (len - told) ends.cursor ≡ back =
      rw (rest_is, cursor_is) (walk_chain slab (last_key None front) None back
      (chain_back slab None None front back linked.linked)) in
      let told_part : map (λ item. item.0) (walk slab told ends.first) ≡ list.told =
      ap (map (λ item. item.0)) first_walk ∙ keys_of-told W list.told in
      let untold_part : untold_of (walk slab (len - told) ends.cursor) ≡ list.untold = ap untold_of back_walk
      ∙ untold_of-map list.untold in
      rw (told_part, untold_part) refl

  pub last_some : (key : ℕ) (xs : List (ℕ × EntryState W)) → (last : ℕ) × (last_key (Some key) xs ≡ Some last)
  last_some key [] = (key, refl)
  last_some key (x ∷ xs) = last_some x.0 xs

  -- a write of the last item's neighbour behind
  pub rebehind : (old new : Slab (Entry W)) (behind next : Option ℕ) (xs ys : List (ℕ × EntryState W))
      → MayRewrite (with_behind next) old new (last_key None xs) → AreDifferent (keys_of xs ++ keys_of ys)
      → IsChain old None xs behind → IsChain new None xs next
      × ((z e : Option ℕ) → IsChain old z ys e → IsChain new z ys e)
  rebehind old new behind next [] ys write different h = (tt, λ z e i. subst (λ s. IsChain s z ys e) (sym write) i)
  rebehind old new behind next (x ∷ xs) ys write different h =
      let last = last_some x.0 xs in
      let written : Rewrites old new last.0 (option_map (with_behind next) (get old last.0)) =
      subst (MayRewrite (with_behind next) old new) last.1 write in (
        chain_end old new last.0 None behind next x xs last.1
            (different_left (keys_of (x ∷ xs)) (keys_of ys) different) written.changed written.others h,
        λ z e i. chain_kept old new last.0 z e ys written.others
            (apart (keys_of (x ∷ xs)) (keys_of ys) last.0 different (last_among x xs last.0 last.1)) i,
      )

  -- a write of the first item's neighbour before
  pub rebefore : (old new : Slab (Entry W)) (before next : Option ℕ) (xs ys : List (ℕ × EntryState W))
      → MayRewrite (with_before next) old new (first_key ys None) → AreDifferent (keys_of xs ++ keys_of ys)
      → IsChain old before ys None → IsChain new next ys None
      × ((z e : Option ℕ) → IsChain old z xs e → IsChain new z xs e)
  rebefore old new before next xs [] write different h = (tt, λ z e i. subst (λ s. IsChain s z xs e) (sym write) i)
  rebefore old new before next xs (y ∷ ys) write different h = (
    chain_start old new before None next y ys
        (different_right (keys_of xs) (keys_of (y ∷ ys)) different).0 write.changed write.others h,
    λ z e i. chain_kept old new y.0 z e xs write.others
        (apart_back (keys_of xs) (keys_of (y ∷ ys)) y.0 different (or_left _ _ (eqb_same y.0))) i,
  )

  -- what is left once an item was taken out and its neighbours name one another
  pub unlinked : (old gone mid new : Slab (Entry W)) (key : ℕ) (notice : EntryState W) (xs ys : List (ℕ × EntryState W))
      → IsChain old None (xs ++ (key, notice) ∷ ys) None → Midst key (keys_of xs) (keys_of ys) → SameOthers old gone key
      → MayRewrite (with_behind (first_key ys None)) gone mid (last_key None xs)
      → MayRewrite (with_before (last_key None xs)) mid new (first_key ys None) → IsChain new None (xs ++ ys) None
  unlinked old gone mid new key notice xs ys h midst same first second =
      let front = chain_kept old gone key None (Some key) xs same midst.not_before
      (chain_front old None None xs ((key, notice) ∷ ys) h) in
      let back = chain_kept old gone key (Some key) None ys same midst.not_behind
      (chain_back old None None xs ((key, notice) ∷ ys) h).1 in
      let one = rebehind gone mid (Some key) (first_key ys None) xs ys first midst.different front in
      let two = rebefore mid new (Some key) (last_key None xs) xs ys second midst.different
      (one.1 (Some key) None back) in
      chain_append new None None xs ys (two.1 None (first_key ys None) one.0) two.0

  -- a new item behind the last one
  pub pushed : (old put new : Slab (Entry W)) (key : ℕ) (notice : EntryState W) (xs : List (ℕ × EntryState W))
      → IsChain old None xs None → AreDifferent (keys_of xs) → is_among key (keys_of xs) ≡ false
      → Updates old put key (Some (record { before = last_key None xs; behind = None; notice = notice }))
      → MayRewrite (with_behind (Some key)) put new (last_key None xs)
      → IsChain new None (xs ++ (key, notice) ∷ []) None
  pushed old put new key notice xs h different absent updates write =
      let front = chain_kept old put key None None xs updates.others absent h in
      let one = rebehind put new None (Some key) xs ((key, notice) ∷ []) write
      (different-push (keys_of xs) key absent different) front in
      chain_append new None None xs ((key, notice) ∷ []) one.0 (one.1 (last_key None xs) None (updates.changed, tt))

  -- a slot with nothing stays so
  pub may_none : (change : Entry W → Entry W) (old new : Slab (Entry W)) (at : Option ℕ) (key : ℕ)
      → MayRewrite change old new at → get old key ≡ None → get new key ≡ None
  may_none change old new None key write h = ap (λ s. get s key) write ∙ h
  may_none change old new (Some other) key write h =
      elim (cases_eq key other) [
        | inl same ↦ ap (get new) same ∙ write.changed ∙ ap (option_map change) (ap (get old) (sym same) ∙ h)
        | inr differs ↦ write.others key differs ∙ h
      ]

  pub first_without : (key : ℕ) (notice : EntryState W) (xs ys : List (ℕ × EntryState W))
      → cond (is_some (last_key None xs)) (first_key (xs ++ (key, notice) ∷ ys) None) (first_key ys None)
      ≡ first_key (xs ++ ys) None
  first_without key notice [] ys = refl
  first_without key notice (x ∷ xs) ys = ap (λ b. cond b (Some x.0) (first_key ys None))
      (ap is_some (last_some x.0 xs).1)

  pub last_without : (key : ℕ) (notice : EntryState W) (xs ys : List (ℕ × EntryState W))
      → cond (is_some (first_key ys None)) (last_key None (xs ++ (key, notice) ∷ ys)) (last_key None xs)
      ≡ last_key None (xs ++ ys)
  last_without key notice xs [] = ap (last_key None) (sym (append-nil xs))
  last_without key notice xs (y ∷ ys) = last_key-append None xs ((key, notice) ∷ y ∷ ys)
      ∙ sym (last_key-append None xs (y ∷ ys))
