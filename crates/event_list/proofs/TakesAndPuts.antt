-- What a take and a put of one entry make of the list that the entries keep.
use Rattle.std.proofs.Common.{◌≡◌, ℕ, ◌==◌, false, cond, List, [], ◌∷◌, ◌++◌, map, Option, Some, None, is_some, refl, sym, ap, ◌∙◌, subst, inl, inr}
use Rattle.std.specs.Option.{option_or}
use Rattle.std.proofs.lemmas.Bool.{eqb-false, ne_eqb, or_parts, or_from, cases_Bool, cases_eq}
use Rattle.std.proofs.lemmas.List.{map-append, append_assoc}
use Rattle.slab.specs.Slab.{Slab, get, Updates}
use Rattle.event_list.specs.Keys.{is_among, AreDifferent}
use Rattle.event_list.specs.Waiting.{Waiting, keys, untold_keys, joined, without}
use Rattle.event_list.specs.Entries.{with_behind, with_before, is_at, ends_without, ends_with, MayRewrite}
use Rattle.event_list.specs.Chain.{first_key, last_key, IsChain, told_item, untold_item, items, IsLinked}
use Rattle.event_list.specs.declared.entries.Entry.{Entry}
use Rattle.event_list.specs.declared.ends.Ends.{Ends}
use Rattle.event_list.specs.declared.entries.EntryState.{EntryState}
use Rattle.event_list.specs.declared.entries.EntryState.TheVariants.{Told, Untold}
use Rattle.event_list.proofs.Splits.{eqb_same, absent_left, absent_right, absent_both, Midst, different-push, told_midst, untold_midst, without_told, without_untold, different_without_told, different_without_untold}
use Rattle.event_list.proofs.ChainLemmas.{keys_of, last_key-append, unlinked, pushed, may_none, first_without, last_without, first_key-untold, keys_of-told, keys_of-untold, keys_of-items}
use Rattle.event_list.proofs.KeptEntries.{Midst-same, told_entry, untold_entry, vacant_absent}

module _ {W : Type 0} where
  linked_left : (old gone mid new : Slab (Entry W)) (ends : Ends) (list left : Waiting W) (key : ℕ) (notice : EntryState W)
      (xs ys : List (ℕ × EntryState W)) → IsLinked old ends list → items list ≡ xs ++ (key, notice) ∷ ys
      → items left ≡ xs ++ ys → Midst key (keys_of xs) (keys_of ys) → Updates old gone key None
      → MayRewrite (with_behind (first_key ys None)) gone mid (last_key None xs)
      → MayRewrite (with_before (last_key None xs)) mid new (first_key ys None)
      → cond (is_at ends.cursor key) (first_key ys None) ends.cursor ≡ first_key left.untold None
      → AreDifferent (keys left) → IsLinked new (ends_without ends key (last_key None xs) (first_key ys None)) left
  linked_left old gone mid new ends list left key notice xs ys linked whole rest midst updates one two cursor
      different =
      let chain = subst (λ es. IsChain old None es None) whole linked.linked in
      let keys_list : keys list ≡ keys_of xs ++ key ∷ keys_of ys = sym (keys_of-items list) ∙ ap keys_of whole
      ∙ map-append (λ (item : ℕ × EntryState W). item.0) xs ((key, notice) ∷ ys) in
      let keys_left : keys left ≡ keys_of xs ++ keys_of ys = sym (keys_of-items left) ∙ ap keys_of rest
      ∙ map-append (λ (item : ℕ × EntryState W). item.0) xs ys in
      let vacant : (other : ℕ) → is_among other (keys left) ≡ false → get gone other ≡ None =
      λ other absent. elim (cases_eq other key) [
        | inl same ↦ ap (get gone) same ∙ updates.changed
        | inr differs ↦
            let gone_too = sym (ap (is_among other) keys_left) ∙ absent in
            updates.others other differs
            ∙ linked.only other (ap (is_among other) keys_list
            ∙ absent_both other (keys_of xs) (key ∷ keys_of ys)
            (absent_left other (keys_of xs) (keys_of ys) gone_too)
            (or_from (key == other) (is_among other (keys_of ys)) (ne_eqb key other (λ e. differs (sym e)))
            (absent_right other (keys_of xs) (keys_of ys) gone_too)))
      ] in
      record {
        linked = rw rest (unlinked old gone mid new key notice xs ys chain midst updates.others one two);
        only = λ other absent. may_none (with_before (last_key None xs)) mid new (first_key ys None) other two
            (may_none (with_behind (first_key ys None)) gone mid (last_key None xs) other one (vacant other absent));
        first_is = ap (λ f. cond (is_some (last_key None xs)) f (first_key ys None))
            (linked.first_is ∙ ap (λ es. first_key es None) whole) ∙ first_without key notice xs ys
            ∙ ap (λ es. first_key es None) (sym rest);
        last_is = ap (λ f. cond (is_some (first_key ys None)) f (last_key None xs))
            (linked.last_is ∙ ap (last_key None) whole) ∙ last_without key notice xs ys ∙ ap (last_key None) (sym rest);
        cursor_is = cursor;
        different = different;
      }

  cursor_apart : (key : ℕ) (untold : List (ℕ × W)) → is_among key (map (λ entry. entry.0) untold) ≡ false
      → is_at (first_key untold None) key ≡ false
  cursor_apart key [] h = refl
  cursor_apart key (entry ∷ rest) h = (or_parts (entry.0 == key) (is_among key (map (λ entry. entry.0) rest)) h).0

  cursor_without : (key : ℕ) (payload : W) (front back : List (ℕ × W))
      → is_among key (map (λ entry. entry.0) front) ≡ false
      → cond (is_at (first_key (front ++ (key, payload) ∷ back) None) key) (first_key (map untold_item back) None)
      (first_key (front ++ (key, payload) ∷ back) None) ≡ first_key (front ++ back) None
  cursor_without key payload [] back h = ap (λ b. cond b (first_key (map untold_item back) None) (Some key))
      (eqb_same key) ∙ first_key-untold back
  cursor_without key payload (entry ∷ front) back h =
      ap (λ b. cond b (first_key (map untold_item back) None) (Some entry.0))
      (or_parts (entry.0 == key) (is_among key (map (λ entry. entry.0) front)) h).0

  -- the three keys, the neighbours of a key and the writes that a removal makes
  pub record TakesOut (old gone mid new : Slab (Entry W)) (key : ℕ) (entry : Entry W) : Type 0 where
    pub was : get old key ≡ Some entry
    pub taken : Updates old gone key None
    pub before : MayRewrite (with_behind entry.behind) gone mid entry.before
    pub behind : MayRewrite (with_before entry.before) mid new entry.behind

  pub linked_without : (old gone mid new : Slab (Entry W)) (ends : Ends) (list : Waiting W) (key : ℕ) (entry : Entry W)
      → IsLinked old ends list → TakesOut old gone mid new key entry
      → IsLinked new (ends_without ends key entry.before entry.behind) (without list key)
  linked_without old gone mid new ends list key entry linked takes =
      elim (cases_Bool (is_among key list.told)) [
        | inl told ↦
            let at = told_entry old ends list key linked told in
            let xs = map (told_item {W = W}) at.front in
            let ys = map told_item at.back ++ map untold_item list.untold in
            let is : entry ≡ record { before = last_key None xs; behind = first_key ys None; notice = Told } =
            (let both = sym takes.was ∙ at.entry in cc) in
            let midst = told_midst list key at.front at.back at.cut in
            let untold_absent = absent_right key at.back (untold_keys list) midst.not_behind in
            rw (is, without_told list key at.front at.back at.cut)
            (linked_left old gone mid new ends list (record list { told = at.front ++ at.back }) key Told xs ys
            linked at.whole
            (ap (λ es. es ++ map untold_item list.untold) (map-append told_item at.front at.back)
            ∙ append_assoc xs (map told_item at.back) (map untold_item list.untold))
            (Midst-same key (keys_of xs) (keys_of ys) at.front (at.back ++ untold_keys list) (keys_of-told W at.front)
            (map-append (λ (item : ℕ × EntryState W). item.0) (map told_item at.back) (map untold_item list.untold)
            ∙ rw (keys_of-told W at.back, keys_of-untold list.untold) refl) midst)
            takes.taken
            (subst (λ (n : Entry W). MayRewrite (with_behind n.behind) gone mid n.before) is takes.before)
            (subst (λ (n : Entry W). MayRewrite (with_before n.before) mid new n.behind) is takes.behind)
            (ap (λ b. cond b (first_key ys None) ends.cursor)
            (ap (λ at. is_at at key) linked.cursor_is ∙ cursor_apart key list.untold untold_absent)
            ∙ linked.cursor_is)
            (different_without_told list key at.front at.back at.cut))
        | inr not_told ↦ elim (cases_Bool (is_among key (untold_keys list))) [
          | inl untold ↦
              let at = untold_entry old ends list key linked untold in
              let xs = map told_item list.told ++ map untold_item at.front in
              let ys = map (untold_item {W = W}) at.back in
              let is : entry ≡ record {
                before = last_key None xs;
                behind = first_key ys None;
                notice = Untold at.payload;
              } = (let both = sym takes.was ∙ at.entry in cc) in
              let midst = untold_midst list key at.payload at.front at.back at.cut in
              rw (is, without_untold list key at.payload at.front at.back at.cut)
              (linked_left old gone mid new ends list (record list { untold = at.front ++ at.back }) key
              (Untold at.payload) xs ys linked at.whole
              (ap (λ es. map told_item list.told ++ es) (map-append untold_item at.front at.back)
              ∙ sym (append_assoc (map told_item list.told) (map untold_item at.front) ys))
              (Midst-same key (keys_of xs) (keys_of ys) (list.told ++ map (λ entry. entry.0) at.front)
              (map (λ entry. entry.0) at.back) (map-append (λ (item : ℕ × EntryState W). item.0)
              (map told_item list.told) (map untold_item at.front)
              ∙ rw (keys_of-told W list.told, keys_of-untold at.front) refl) (keys_of-untold at.back) midst)
              takes.taken
              (subst (λ (n : Entry W). MayRewrite (with_behind n.behind) gone mid n.before) is takes.before)
              (subst (λ (n : Entry W). MayRewrite (with_before n.before) mid new n.behind) is takes.behind)
              (ap (λ c. cond (is_at c key) (first_key ys None) c)
              (linked.cursor_is ∙ ap (λ es. first_key es None) at.cut.is_here)
              ∙ cursor_without key at.payload at.front at.back
              (absent_right key list.told (map (λ entry. entry.0) at.front) midst.not_before))
              (different_without_untold list key at.payload at.front at.back at.cut))
          | inr absent ↦ absurd (let clash = sym takes.was
              ∙ linked.only key (absent_both key list.told (untold_keys list) not_told absent) in cc)
        ]
      ]

  -- the writes that putting a new entry behind the last one makes
  pub record PutsLast (old put new : Slab (Entry W)) (last : Option ℕ) (key : ℕ) (payload : W) : Type 0 where
    pub placed : Updates old put key (Some (record { before = last; behind = None; notice = Untold payload }))
    pub behind : MayRewrite (with_behind (Some key)) put new last

  first_with : (key : ℕ) (notice : EntryState W) (xs : List (ℕ × EntryState W))
      → option_or (first_key xs None) (Some key) ≡ first_key (xs ++ (key, notice) ∷ []) None
  first_with key notice [] = refl
  first_with key notice (x ∷ xs) = refl

  cursor_with : (key : ℕ) (payload : W) (untold : List (ℕ × W))
      → option_or (first_key untold None) (Some key) ≡ first_key (untold ++ (key, payload) ∷ []) None
  cursor_with key payload [] = refl
  cursor_with key payload (entry ∷ rest) = refl

  pub linked_with : (old put new : Slab (Entry W)) (ends : Ends) (list : Waiting W) (key : ℕ) (payload : W)
      → IsLinked old ends list → get old key ≡ None → PutsLast old put new ends.last key payload
      → IsLinked new (ends_with ends key) (joined list key payload)
  linked_with old put new ends list key payload linked vacant puts =
      let parts = vacant_absent old ends list key linked vacant in
      let absent : is_among key (keys list) ≡ false = absent_both key list.told (untold_keys list) parts.0 parts.1 in
      let xs = items list in
      let placed : Updates old put key (Some (record
      { before = last_key None xs; behind = None; notice = Untold payload })) =
      subst (λ last. Updates old put key (Some (record { before = last; behind = None; notice = Untold payload })))
      linked.last_is puts.placed in
      let behind : MayRewrite (with_behind (Some key)) put new (last_key None xs) =
      subst (MayRewrite (with_behind (Some key)) put new) linked.last_is puts.behind in
      let whole : items (joined list key payload) ≡ xs ++ (key, Untold payload) ∷ [] =
      ap (λ es. map told_item list.told ++ es) (map-append (untold_item {W = W}) list.untold ((key, payload) ∷ []))
      ∙ sym (append_assoc (map told_item list.told) (map untold_item list.untold) ((key, Untold payload) ∷ [])) in
      let all : keys (joined list key payload) ≡ keys list ++ key ∷ [] =
      ap (λ ks. list.told ++ ks) (map-append (λ (entry : ℕ × W). entry.0) list.untold ((key, payload) ∷ []))
      ∙ sym (append_assoc list.told (untold_keys list) (key ∷ [])) in
      record {
        linked = rw whole (pushed old put new key (Untold payload) xs linked.linked
            (rw (keys_of-items list) linked.different) (rw (keys_of-items list) absent) placed behind);
        only = λ other gone.
            let apart_too = sym (ap (is_among other) all) ∙ gone in
            let not_key = (or_parts (key == other) false (absent_right other (keys list) (key ∷ []) apart_too)).0 in
            may_none (with_behind (Some key)) put new (last_key None xs) other behind
            (placed.others other (λ e. eqb-false key other not_key (sym e))
            ∙ linked.only other (absent_left other (keys list) (key ∷ []) apart_too));
        first_is = ap (λ first. option_or first (Some key)) linked.first_is ∙ first_with key (Untold payload) xs
            ∙ ap (λ es. first_key es None) (sym whole);
        last_is = sym (ap (last_key None) whole ∙ last_key-append None xs ((key, Untold payload) ∷ []));
        cursor_is = ap (λ cursor. option_or cursor (Some key)) linked.cursor_is ∙ cursor_with key payload list.untold;
        different = rw all (different-push (keys list) key absent linked.different);
      }
