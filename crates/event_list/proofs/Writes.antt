-- What a write of one notice makes of the list that the entries keep.
use Rattle.std.proofs.Common.{◌≡◌, ℕ, false, List, [], ◌∷◌, ◌++◌, map, Option, Some, None, refl, sym, ap, ◌∙◌, subst}
use Rattle.std.specs.Option.{option_map}
use Rattle.std.proofs.lemmas.List.{map-append, append_assoc, append-nil}
use Rattle.slab.specs.Slab.{Slab, get}
use Rattle.event_list.specs.Keys.{is_among}
use Rattle.event_list.specs.Waiting.{Waiting, keys, told_flag, renewed, told_one}
use Rattle.event_list.specs.Entries.{with_notice, Rewrites}
use Rattle.event_list.specs.Chain.{first_key, last_key, IsChain, told_item, untold_item, items, IsLinked}
use Rattle.event_list.specs.declared.entries.Entry.{Entry}
use Rattle.event_list.specs.declared.ends.Ends.{Ends}
use Rattle.event_list.specs.declared.entries.EntryState.{EntryState}
use Rattle.event_list.specs.declared.entries.EntryState.TheVariants.{Told, Untold}
use Rattle.event_list.proofs.Splits.{Midst, UntoldCut, untold_midst, untold_is, repaid_cut}
use Rattle.event_list.proofs.ChainLemmas.{keys_of, first_key-append, last_key-append, chain_append, chain_front, chain_back, chain_kept, chain_notice, may_none, first_key-untold, keys_of-told, keys_of-untold}
use Rattle.event_list.proofs.KeptEntries.{Midst-same, entry_at, untold_entry, untold_from_flag}

module _ {W : Type 0} where
  first_changed : (key : ℕ) (notice changed : EntryState W) (xs ys : List (ℕ × EntryState W))
      → first_key (xs ++ (key, notice) ∷ ys) None ≡ first_key (xs ++ (key, changed) ∷ ys) None
  first_changed key notice changed [] ys = refl
  first_changed key notice changed (x ∷ xs) ys = refl

  -- a write of one notice
  linked_changed : (old new : Slab (Entry W)) (ends : Ends) (cursor : Option ℕ) (list left : Waiting W) (key : ℕ)
      (notice changed : EntryState W) (xs ys : List (ℕ × EntryState W)) → IsLinked old ends list
      → items list ≡ xs ++ (key, notice) ∷ ys → items left ≡ xs ++ (key, changed) ∷ ys
      → Midst key (keys_of xs) (keys_of ys) → Rewrites old new key (option_map (with_notice changed) (get old key))
      → cursor ≡ first_key left.untold None → keys left ≡ keys list
      → IsLinked new (record ends { cursor = cursor }) left
  linked_changed old new ends cursor list left key notice changed xs ys linked whole rest midst writes cursor_is
      same_keys =
      let chain = subst (λ es. IsChain old None es None) whole linked.linked in
      record {
        linked = rw rest (chain_append new None None xs ((key, changed) ∷ ys)
            (chain_kept old new key None (Some key) xs writes.others midst.not_before
            (chain_front old None None xs ((key, notice) ∷ ys) chain))
            (chain_notice old new (last_key None xs) None key notice changed ys midst.not_behind writes.changed
            writes.others (chain_back old None None xs ((key, notice) ∷ ys) chain)));
        only = λ other absent. may_none (with_notice changed) old new (Some key) other writes
            (linked.only other (sym (ap (is_among other) same_keys) ∙ absent));
        first_is = linked.first_is ∙ ap (λ es. first_key es None) whole ∙ first_changed key notice changed xs ys
            ∙ ap (λ es. first_key es None) (sym rest);
        last_is = linked.last_is ∙ ap (last_key None) whole ∙ last_key-append None xs ((key, notice) ∷ ys)
            ∙ sym (last_key-append None xs ((key, changed) ∷ ys)) ∙ ap (last_key None) (sym rest);
        cursor_is = cursor_is;
        different = rw same_keys linked.different;
      }

  -- an untold entry gets another payload
  pub linked_renewed : (old new : Slab (Entry W)) (ends : Ends) (list : Waiting W) (key : ℕ) (payload : W)
      → IsLinked old ends list → told_flag list key ≡ Some false
      → Rewrites old new key (option_map (with_notice (Untold payload)) (get old key))
      → IsLinked new ends (renewed list key payload)
  linked_renewed old new ends list key payload linked marked writes =
      let marks = untold_from_flag list key marked in
      let at = untold_entry old ends list key linked marks.1 in
      let xs = map told_item list.told ++ map untold_item at.front in
      let ys = map (untold_item {W = W}) at.back in
      let midst = untold_midst list key at.payload at.front at.back at.cut in
      let left : Waiting W = record list { untold = at.front ++ (key, payload) ∷ at.back } in
      let is : renewed list key payload ≡ left =
      rw marks.0 (repaid_cut list key at.payload payload at.front at.back at.cut) in
      let first : ends.cursor ≡ first_key (at.front ++ (key, payload) ∷ at.back) None =
      linked.cursor_is ∙ ap (λ es. first_key es None) at.cut.is_here
      ∙ first_key-append at.front ((key, at.payload) ∷ at.back) None
      ∙ sym (first_key-append at.front ((key, payload) ∷ at.back) None) in
      subst (IsLinked new ends) (sym is) (linked_changed old new ends ends.cursor list left key (Untold at.payload)
      (Untold payload) xs ys linked at.whole
      (ap (λ es. map told_item list.told ++ es) (map-append untold_item at.front ((key, payload) ∷ at.back))
      ∙ sym (append_assoc (map told_item list.told) (map untold_item at.front) ((key, Untold payload) ∷ ys)))
      (Midst-same key (keys_of xs) (keys_of ys) (list.told ++ map (λ entry. entry.0) at.front)
      (map (λ entry. entry.0) at.back) (map-append (λ (item : ℕ × EntryState W). item.0) (map told_item list.told)
      (map untold_item at.front) ∙ rw (keys_of-told W list.told, keys_of-untold at.front) refl)
      (keys_of-untold at.back) midst)
      writes
      first
      (ap (λ ks. list.told ++ ks) (map-append (λ (entry : ℕ × W). entry.0) at.front ((key, payload) ∷ at.back)
      ∙ sym (untold_is list key at.payload at.front at.back at.cut))))

  -- the first untold one
  pub record FirstUntold (slab : Slab (Entry W)) (ends : Ends) (list : Waiting W) (key : ℕ) : Type 0 where
    pub payload : W
    pub rest : List (ℕ × W)
    pub untold : list.untold ≡ (key, payload) ∷ rest
    pub entry : get slab key ≡ Some (record {
      before = last_key None (map (told_item {W = W}) list.told);
      behind = first_key (map untold_item rest) None;
      notice = Untold payload;
    })

  pub first_untold : (slab : Slab (Entry W)) (ends : Ends) (list : Waiting W) (key : ℕ) → IsLinked slab ends list
      → ends.cursor ≡ Some key → FirstUntold slab ends list key
  first_untold slab ends list key linked at = by_untold list.untold refl
    where
      by_untold : (untold : List (ℕ × W)) → list.untold ≡ untold → FirstUntold slab ends list key
      by_untold [] h = absurd (let clash : Some key ≡ None = sym at ∙ linked.cursor_is
          ∙ ap (λ es. first_key es None) h in cc)
      by_untold (first ∷ rest) h =
          let same : Some key ≡ Some first.0 = sym at ∙ linked.cursor_is ∙ ap (λ es. first_key es None) h in
          let is : first.0 ≡ key = (cc) in
          let untold : list.untold ≡ (key, first.1) ∷ rest = h ∙ ap (λ k. (k, first.1) ∷ rest) is in
          record {
            payload = first.1;
            rest = rest;
            untold = untold;
            entry = entry_at slab list key (Untold first.1) (map told_item list.told)
                (map untold_item rest) linked.linked (ap (λ es. map told_item list.told ++ map untold_item es) untold);
          }

  -- the first untold one is told
  pub linked_told_one : (old new : Slab (Entry W)) (ends : Ends) (list : Waiting W) (key : ℕ) (behind : Option ℕ)
      (first : FirstUntold old ends list key) → IsLinked old ends list
      → behind ≡ first_key (map untold_item first.rest) None
      → Rewrites old new key (option_map (with_notice Told) (get old key))
      → IsLinked new (record ends { cursor = behind }) (told_one list)
  linked_told_one old new ends list key behind first linked behind_is writes =
      let left : Waiting W = record { told = list.told ++ key ∷ []; untold = first.rest } in
      let is : told_one list ≡ left = rw first.untold refl in
      let cut : UntoldCut list key first.payload [] first.rest =
      record { is_here = first.untold; different = linked.different } in
      let midst = untold_midst list key first.payload [] first.rest cut in
      let xs = map (told_item {W = W}) list.told in
      let ys = map (untold_item {W = W}) first.rest in
      subst (IsLinked new (record ends { cursor = behind })) (sym is)
      (linked_changed old new ends behind list left key (Untold first.payload) Told xs ys linked
      (ap (λ es. map told_item list.told ++ map untold_item es) first.untold)
      (ap (λ es. es ++ ys) (map-append told_item list.told (key ∷ [])) ∙ append_assoc xs ((key, Told) ∷ []) ys)
      (Midst-same key (keys_of xs) (keys_of ys) (list.told ++ []) (map (λ entry. entry.0) first.rest)
      (keys_of-told W list.told ∙ sym (append-nil list.told)) (keys_of-untold first.rest) midst)
      writes
      (behind_is ∙ first_key-untold first.rest)
      (append_assoc list.told (key ∷ []) (map (λ entry. entry.0) first.rest)
      ∙ ap (λ es. list.told ++ map (λ (entry : ℕ × W). entry.0) es) (sym first.untold)))
