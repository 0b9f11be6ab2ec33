-- What the slab says of a key, by the list that the entries keep: its entry, between its neighbours.
use Rattle.std.proofs.Common.{◌≡◌, ℕ, Bool, true, false, cond, List, ◌∷◌, ◌++◌, map, Option, Some, None, refl, sym, ap, ◌∙◌, subst, inl, inr}
use Rattle.std.proofs.lemmas.Bool.{cases_Bool}
use Rattle.std.proofs.lemmas.List.{map-id, map-append, append_assoc}
use Rattle.slab.specs.Slab.{Slab, get}
use Rattle.event_list.specs.Keys.{is_among}
use Rattle.event_list.specs.Waiting.{Waiting, untold_keys, told_flag}
use Rattle.event_list.specs.Calls.{IsEntryAt}
use Rattle.event_list.specs.Entries.{notice_at}
use Rattle.event_list.specs.Chain.{first_key, last_key, IsChain, told_item, untold_item, items, IsLinked}
use Rattle.event_list.specs.declared.entries.Entry.{Entry}
use Rattle.event_list.specs.declared.ends.Ends.{Ends}
use Rattle.event_list.specs.declared.entries.EntryState.{EntryState}
use Rattle.event_list.specs.declared.entries.EntryState.TheVariants.{Told, Untold}
use Rattle.event_list.proofs.Splits.{absent_both, Midst, cut_at, ToldCut, UntoldCut, payload_none, payload_told, payload_cut}
use Rattle.event_list.proofs.ChainLemmas.{chain_back}

pub Midst-same : (key : ℕ) (xs ys us vs : List ℕ) → xs ≡ us → ys ≡ vs → Midst key us vs → Midst key xs ys
Midst-same key xs ys us vs left right midst = record {
  not_before = ap (is_among key) left ∙ midst.not_before;
  not_behind = ap (is_among key) right ∙ midst.not_behind;
  different = rw (left, right) midst.different;
}

module _ {W : Type 0} where
  -- the entry of a told key, between its neighbours
  pub record ToldEntry (slab : Slab (Entry W)) (list : Waiting W) (key : ℕ) : Type 0 where
    pub front : List ℕ
    pub back : List ℕ
    pub cut : ToldCut list key front back
    pub whole : items list ≡ map told_item front ++ (key, Told) ∷ (map told_item back ++ map untold_item list.untold)
    pub entry : get slab key ≡ Some (record {
      before = last_key None (map (told_item {W = W}) front);
      behind = first_key (map told_item back ++ map untold_item list.untold) None;
      notice = Told;
    })

  -- the entry of an untold key, between its neighbours
  pub record UntoldEntry (slab : Slab (Entry W)) (list : Waiting W) (key : ℕ) : Type 0 where
    pub front : List (ℕ × W)
    pub payload : W
    pub back : List (ℕ × W)
    pub cut : UntoldCut list key payload front back
    pub whole : items list ≡ (map told_item list.told ++ map untold_item front) ++ (key, Untold payload)
        ∷ map untold_item back
    pub entry : get slab key ≡ Some (record {
      before = last_key None (map told_item list.told ++ map untold_item front);
      behind = first_key (map untold_item back) None;
      notice = Untold payload;
    })

  pub entry_at : (slab : Slab (Entry W)) (list : Waiting W) (key : ℕ) (notice : EntryState W) (xs ys : List (ℕ × EntryState W))
      → IsChain slab None (items list) None → items list ≡ xs ++ (key, notice) ∷ ys
      → get slab key ≡ Some (record { before = last_key None xs; behind = first_key ys None; notice = notice })
  entry_at slab list key notice xs ys linked whole =
      (chain_back slab None None xs ((key, notice) ∷ ys) (subst (λ es. IsChain slab None es None) whole linked)).0

  pub told_entry : (slab : Slab (Entry W)) (ends : Ends) (list : Waiting W) (key : ℕ) → IsLinked slab ends list
      → is_among key list.told ≡ true → ToldEntry slab list key
  told_entry slab ends list key linked among =
      let here = cut_at (λ (k : ℕ). k) key list.told
      (subst (λ ks. is_among key ks ≡ true) (sym (map-id list.told)) among) in
      let front = here.0 in
      let back = here.2 in
      let is_here : list.told ≡ front ++ key ∷ back = here.3 ∙ ap (λ k. front ++ k ∷ back) here.4 in
      let whole : items list ≡ map told_item front ++ (key, Told)
      ∷ (map told_item back ++ map untold_item list.untold) =
      ap (λ ks. map told_item ks ++ map untold_item list.untold) is_here
      ∙ ap (λ es. es ++ map untold_item list.untold) (map-append (told_item {W = W}) front (key ∷ back))
      ∙ append_assoc (map told_item front) ((key, Told) ∷ map told_item back) (map untold_item list.untold) in
      record {
        front = front;
        back = back;
        cut = record { is_here = is_here; different = linked.different };
        whole = whole;
        entry = entry_at slab list key Told (map told_item front)
            (map told_item back ++ map untold_item list.untold) linked.linked whole;
      }

  pub untold_entry : (slab : Slab (Entry W)) (ends : Ends) (list : Waiting W) (key : ℕ) → IsLinked slab ends list
      → is_among key (untold_keys list) ≡ true → UntoldEntry slab list key
  untold_entry slab ends list key linked among =
      let here = cut_at (λ (entry : ℕ × W). entry.0) key list.untold among in
      let front = here.0 in
      let payload = here.1.1 in
      let back = here.2 in
      let is_here : list.untold ≡ front ++ (key, payload) ∷ back = here.3
      ∙ ap (λ k. front ++ (k, payload) ∷ back) here.4 in
      let whole : items list ≡ (map told_item list.told ++ map untold_item front) ++ (key, Untold payload)
      ∷ map untold_item back =
      ap (λ es. map told_item list.told ++ map untold_item es) is_here
      ∙ ap (λ es. map told_item list.told ++ es) (map-append (untold_item {W = W}) front ((key, payload) ∷ back))
      ∙ sym (append_assoc (map told_item list.told) (map untold_item front)
      ((key, Untold payload) ∷ map untold_item back)) in
      record {
        front = front;
        payload = payload;
        back = back;
        cut = record { is_here = is_here; different = linked.different };
        whole = whole;
        entry = entry_at slab list key (Untold payload) (map told_item list.told ++ map untold_item front)
            (map untold_item back) linked.linked whole;
      }

  -- the notice under a key is the list's entry
  pub entry_is : (slab : Slab (Entry W)) (ends : Ends) (list : Waiting W) (key : ℕ) {entry : Option (EntryState W)}
      → IsLinked slab ends list → entry ≡ notice_at slab key → IsEntryAt list key entry
  entry_is slab ends list key linked is =
      elim (cases_Bool (is_among key list.told)) [
        | inl told ↦ rw (is, (told_entry slab ends list key linked told).entry) (record {
          was_told = rw told refl;
          payload = sym (payload_told list key linked.different told);
        })
        | inr not_told ↦ elim (cases_Bool (is_among key (untold_keys list))) [
          | inl untold ↦
              let at = untold_entry slab ends list key linked untold in
              rw (is, at.entry) (record {
                was_told = rw (not_told, untold) refl;
                payload = sym (payload_cut list key at.payload at.front at.back at.cut);
              })
          | inr absent ↦
              rw (is, linked.only key (absent_both key list.told (untold_keys list) not_told absent)) (record {
                was_told = rw (not_told, absent) refl;
                payload = sym (payload_none key list.untold absent);
              })
        ]
      ]

  pub untold_from_flag : (list : Waiting W) (key : ℕ) → told_flag list key ≡ Some false
      → (is_among key list.told ≡ false) × (is_among key (untold_keys list) ≡ true)
  untold_from_flag list key h = by_tests (is_among key list.told) (is_among key (untold_keys list)) h
    where
      by_tests : (told untold : Bool) → cond told (Some true) (cond untold (Some false) None) ≡ Some false
          → (told ≡ false) × (untold ≡ true)
      by_tests true untold h = absurd (cc)
      by_tests false true h = (refl, refl)
      by_tests false false h = absurd (cc)

  pub told_from_flag : (list : Waiting W) (key : ℕ) → told_flag list key ≡ Some true → is_among key list.told ≡ true
  told_from_flag list key h = by_tests (is_among key list.told) (is_among key (untold_keys list)) h
    where
      by_tests : (told untold : Bool) → cond told (Some true) (cond untold (Some false) None) ≡ Some true → told ≡ true
      by_tests true untold h = refl
      by_tests false true h = absurd (let clash : false ≡ true = (cc) in cc)
      by_tests false false h = absurd (cc)

  -- a vacant key isn't in the list
  pub vacant_absent : (slab : Slab (Entry W)) (ends : Ends) (list : Waiting W) (key : ℕ) → IsLinked slab ends list
      → get slab key ≡ None → (is_among key list.told ≡ false) × (is_among key (untold_keys list) ≡ false)
  vacant_absent slab ends list key linked vacant = (
    elim (cases_Bool (is_among key list.told)) [
      | inl told ↦ absurd (let clash = sym (told_entry slab ends list key linked told).entry ∙ vacant in cc)
      | inr absent ↦ absent
    ],
    elim (cases_Bool (is_among key (untold_keys list))) [
      | inl untold ↦ absurd (let clash = sym (untold_entry slab ends list key linked untold).entry ∙ vacant in cc)
      | inr absent ↦ absent
    ],
  )
