-- Lists of keys, cut at one key: what is among them, and what is left without it.
use Rattle.std.proofs.Common.{◌≡◌, ℕ, ◌==◌, true, false, not, cond, ◌||◌, List, [], ◌∷◌, ◌++◌, map, filter, length, Some, None, is_some, refl, sym, ap, ◌∙◌, arith, subst, inl, inr}
use Rattle.std.proofs.lemmas.Bool.{eqb-true, eqb-false, eq-eqb, ne_eqb, or_parts, or_from, or_right, or_cases, cases_Bool, both_ways}
use Rattle.std.proofs.lemmas.List.{map-id, length-append, map-append, append_assoc, append-nil}
use Rattle.std.proofs.lemmas.List.Folds.{list_any-append}
use Rattle.std.proofs.lemmas.List.Elements.{filter-append}
use Rattle.event_list.specs.Keys.{is_among, AreDifferent}
use Rattle.event_list.specs.Waiting.{Waiting, LosesOne, IsWaiting, payload_in, keys, untold_keys, told_flag, joined, without, repaid, renewed}

pub eqb_swap : (x y : ℕ) → (x == y) ≡ false → (y == x) ≡ false
eqb_swap x y h = ne_eqb y x (λ e. eqb-false x y h (sym e))

pub eqb_same : (x : ℕ) → (x == x) ≡ true
eqb_same x = eq-eqb x x refl

-- what is among two lists, one behind the other
pub is_among-append : (key : ℕ) (xs ys : List ℕ) → is_among key (xs ++ ys) ≡ (is_among key xs || is_among key ys)
is_among-append key xs ys = list_any-append (λ other. other == key) xs ys

pub absent_left : (key : ℕ) (xs ys : List ℕ) → is_among key (xs ++ ys) ≡ false → is_among key xs ≡ false
absent_left key xs ys h = (or_parts _ _ (sym (is_among-append key xs ys) ∙ h)).0

pub absent_right : (key : ℕ) (xs ys : List ℕ) → is_among key (xs ++ ys) ≡ false → is_among key ys ≡ false
absent_right key xs ys h = (or_parts _ _ (sym (is_among-append key xs ys) ∙ h)).1

pub absent_both : (key : ℕ) (xs ys : List ℕ) → is_among key xs ≡ false → is_among key ys ≡ false
    → is_among key (xs ++ ys) ≡ false
absent_both key xs ys h i = is_among-append key xs ys ∙ or_from _ _ h i

-- a key is among a list that names it
pub is_among-here : (key : ℕ) (front back : List ℕ) → is_among key (front ++ key ∷ back) ≡ true
is_among-here key [] back = ap (λ b. b || is_among key back) (eqb_same key)
is_among-here key (x ∷ front) back = or_right (x == key) _ (is_among-here key front back)

-- a list without a key in its midst
pub absent-middle : (key other : ℕ) (front back : List ℕ) → is_among key (front ++ other ∷ back) ≡ false
    → (is_among key (front ++ back) ≡ false) × ((other == key) ≡ false)
absent-middle key other front back h =
    let at_back = or_parts _ _ (absent_right key front (other ∷ back) h) in (
      absent_both key front back (absent_left key front (other ∷ back) h) at_back.1,
      at_back.0,
    )

-- a key in the midst of different ones stands nowhere else
pub record Midst (key : ℕ) (front back : List ℕ) : Type 0 where
  pub not_before : is_among key front ≡ false
  pub not_behind : is_among key back ≡ false
  pub different : AreDifferent (front ++ back)

pub different-midst : (key : ℕ) (front back : List ℕ) → AreDifferent (front ++ key ∷ back) → Midst key front back
different-midst key [] back d = record { not_before = refl; not_behind = d.0; different = d.1 }
different-midst key (x ∷ front) back d =
    let later = different-midst key front back d.1 in
    let apart = absent-middle x key front back d.0 in
    record {
      not_before = or_from _ _ (eqb_swap key x apart.1) later.not_before;
      not_behind = later.not_behind;
      different = (apart.0, later.different);
    }

pub different-insert : (key : ℕ) (front back : List ℕ) → is_among key (front ++ back) ≡ false
    → AreDifferent (front ++ back) → AreDifferent (front ++ key ∷ back)
different-insert key [] back h d = (h, d)
different-insert key (x ∷ front) back h d =
    let parts = or_parts (x == key) _ h in (
      absent_both x front (key ∷ back) (absent_left x front back d.0)
          (or_from _ _ (eqb_swap x key parts.0) (absent_right x front back d.0)),
      different-insert key front back parts.1 d.1,
    )

module _ {X : Type 0} (f : X → ℕ) where
  -- nothing leaves a list if the key isn't
  pub filter-absent : (key : ℕ) (xs : List X) → is_among key (map f xs) ≡ false → filter (λ x. not (f x == key)) xs ≡ xs
  filter-absent key [] h = refl
  filter-absent key (x ∷ xs) h =
      let parts = or_parts (f x == key) (is_among key (map f xs)) h in
      rw (parts.0, filter-absent key xs parts.1) refl

  -- the key alone leaves
  pub filter-midst : (key : ℕ) (front back : List X) (x : X) → f x ≡ key → is_among key (map f front) ≡ false
      → is_among key (map f back) ≡ false → filter (λ x. not (f x == key)) (front ++ x ∷ back) ≡ front ++ back
  filter-midst key front back x at h i =
      filter-append (λ x. not (f x == key)) front (x ∷ back)
      ∙ ap (λ ys. ys ++ filter (λ x. not (f x == key)) (x ∷ back)) (filter-absent key front h)
      ∙ ap (λ ys. front ++ ys) (ap (λ b. cond (not b) (x ∷ filter (λ x. not (f x == key)) back)
      (filter (λ x. not (f x == key)) back)) (eq-eqb (f x) key at) ∙ filter-absent key back i)

  -- a key that is among a list's keys cuts the list in two
  pub cut_at : (key : ℕ) (xs : List X) → is_among key (map f xs) ≡ true
      → (front : List X) × (x : X) × (back : List X) × (xs ≡ front ++ x ∷ back) × (f x ≡ key)
  cut_at key [] h = absurd (both_ways _ refl h)
  cut_at key (x ∷ xs) h =
      elim (cases_Bool (f x == key)) [
        | inl here ↦ ([], x, xs, refl, eqb-true (f x) key here)
        | inr there ↦
            let later = cut_at key xs (sym (ap (λ b. b || is_among key (map f xs)) there) ∙ h) in
            (x ∷ later.0, later.1, later.2, ap (λ ys. x ∷ ys) later.3, later.4)
      ]

module _ {W : Type 0} where
  -- an entry keeps its payload if the key isn't
  pub repaid-absent : (key : ℕ) (payload : W) (xs : List (ℕ × W)) → is_among key (map (λ entry. entry.0) xs) ≡ false
      → map (λ entry. cond (entry.0 == key) (key, payload) entry) xs ≡ xs
  repaid-absent key payload [] h = refl
  repaid-absent key payload (x ∷ xs) h =
      let parts = or_parts (x.0 == key) (is_among key (map (λ entry. entry.0) xs)) h in
      rw (parts.0, repaid-absent key payload xs parts.1) refl

  -- the list, cut at a told key
  pub record ToldCut (list : Waiting W) (key : ℕ) (front back : List ℕ) : Type 0 where
    pub is_here : list.told ≡ front ++ key ∷ back
    pub different : AreDifferent (keys list)

  -- the list, cut at an untold key
  pub record UntoldCut (list : Waiting W) (key : ℕ) (payload : W) (front back : List (ℕ × W)) : Type 0 where
    pub is_here : list.untold ≡ front ++ (key, payload) ∷ back
    pub different : AreDifferent (keys list)

  pub mark_at_told : (list : Waiting W) (key : ℕ) (front back : List ℕ) → ToldCut list key front back
      → is_among key list.told ≡ true
  mark_at_told list key front back cut = rw cut.is_here (is_among-here key front back)

  pub told_midst : (list : Waiting W) (key : ℕ) (front back : List ℕ) → ToldCut list key front back
      → Midst key front (back ++ untold_keys list)
  told_midst list key front back cut =
      different-midst key front (back ++ untold_keys list) (rw append_assoc at (rw cut.is_here at cut.different))

  pub without_told : (list : Waiting W) (key : ℕ) (front back : List ℕ) → ToldCut list key front back
      → without list key ≡ record list { told = front ++ back }
  without_told list key front back cut =
      let midst = told_midst list key front back cut in
      let told : filter (λ other. not (other == key)) list.told ≡ front ++ back =
      rw cut.is_here (filter-midst (λ (x : ℕ). x) key front back key refl (rw map-id midst.not_before)
      (rw map-id (absent_left key back (untold_keys list) midst.not_behind))) in
      let untold = filter-absent (λ (entry : ℕ × W). entry.0) key list.untold
      (absent_right key back (untold_keys list) midst.not_behind) in
      rw (told, untold) refl

  pub different_without_told : (list : Waiting W) (key : ℕ) (front back : List ℕ) → ToldCut list key front back
      → AreDifferent ((front ++ back) ++ untold_keys list)
  different_without_told list key front back cut = rw append_assoc (told_midst list key front back cut).different

  pub untold_is : (list : Waiting W) (key : ℕ) (payload : W) (front back : List (ℕ × W))
      → UntoldCut list key payload front back → untold_keys list ≡ map (λ entry. entry.0) front ++ key
      ∷ map (λ entry. entry.0) back
  untold_is list key payload front back cut = ap (map (λ (entry : ℕ × W). entry.0)) cut.is_here
      ∙ map-append (λ (entry : ℕ × W). entry.0) front ((key, payload) ∷ back)

  pub untold_midst : (list : Waiting W) (key : ℕ) (payload : W) (front back : List (ℕ × W))
      → UntoldCut list key payload front back → Midst key (list.told ++ map (λ entry. entry.0) front)
      (map (λ entry. entry.0) back)
  untold_midst list key payload front back cut =
      different-midst key (list.told ++ map (λ entry. entry.0) front) (map (λ entry. entry.0) back)
      (rw append_assoc (subst AreDifferent (ap (λ ks. list.told ++ ks) (untold_is list key payload front back cut))
      cut.different))

  pub mark_at_untold : (list : Waiting W) (key : ℕ) (payload : W) (front back : List (ℕ × W))
      → UntoldCut list key payload front back → (is_among key list.told ≡ false)
      × (is_among key (untold_keys list) ≡ true)
  mark_at_untold list key payload front back cut = (
    absent_left key list.told (map (λ entry. entry.0) front) (untold_midst list key payload front back cut).not_before,
    ap (is_among key) (untold_is list key payload front back cut)
        ∙ is_among-here key (map (λ entry. entry.0) front) (map (λ entry. entry.0) back),
  )

  pub without_untold : (list : Waiting W) (key : ℕ) (payload : W) (front back : List (ℕ × W))
      → UntoldCut list key payload front back → without list key ≡ record list { untold = front ++ back }
  without_untold list key payload front back cut =
      let midst = untold_midst list key payload front back cut in
      let told : filter (λ other. not (other == key)) list.told ≡ list.told =
      filter-absent (λ (x : ℕ). x) key list.told
      (rw map-id (absent_left key list.told (map (λ entry. entry.0) front) midst.not_before)) in
      let untold : filter (λ (entry : ℕ × W). not (entry.0 == key)) list.untold ≡ front ++ back =
      ap (filter (λ (entry : ℕ × W). not (entry.0 == key))) cut.is_here
      ∙ filter-midst (λ (entry : ℕ × W). entry.0) key front back (key, payload) refl
      (absent_right key list.told (map (λ entry. entry.0) front) midst.not_before) midst.not_behind in
      rw (told, untold) refl

  pub different_without_untold : (list : Waiting W) (key : ℕ) (payload : W) (front back : List (ℕ × W))
      → UntoldCut list key payload front back → AreDifferent (list.told ++ map (λ entry. entry.0) (front ++ back))
  different_without_untold list key payload front back cut =
      rw (map-append (λ (entry : ℕ × W). entry.0) front back, ← append_assoc)
      (untold_midst list key payload front back cut).different

  pub repaid_cut : (list : Waiting W) (key : ℕ) (payload new : W) (front back : List (ℕ × W))
      → UntoldCut list key payload front back → repaid list key new
      ≡ record list { untold = front ++ (key, new) ∷ back }
  repaid_cut list key payload new front back cut =
      let midst = untold_midst list key payload front back cut in
      let change : (ℕ × W) → ℕ × W = λ entry. cond (entry.0 == key) (key, new) entry in
      let untold : map change list.untold ≡ front ++ (key, new) ∷ back =
      ap (map change) cut.is_here
      ∙ map-append change front ((key, payload) ∷ back)
      ∙ ap (λ xs. xs ++ map change ((key, payload) ∷ back))
      (repaid-absent key new front (absent_right key list.told (map (λ entry. entry.0) front) midst.not_before))
      ∙ ap (λ xs. front ++ xs) (ap (λ b. cond b (key, new) (key, payload) ∷ map change back) (eqb_same key)
      ∙ ap (λ xs. (key, new) ∷ xs) (repaid-absent key new back midst.not_behind)) in
      ap (λ xs. record { told = list.told; untold = xs }) untold

  -- a key that isn't in the list changes nothing
  pub without_absent : (list : Waiting W) (key : ℕ) → is_among key list.told ≡ false
      → is_among key (untold_keys list) ≡ false → without list key ≡ list
  without_absent list key h i =
      let told : filter (λ other. not (other == key)) list.told ≡ list.told =
      filter-absent (λ (x : ℕ). x) key list.told (rw map-id h) in
      let untold : filter (λ (entry : ℕ × W). not (entry.0 == key)) list.untold ≡ list.untold =
      filter-absent (λ (entry : ℕ × W). entry.0) key list.untold i in
      rw (told, untold) refl

  pub renewed_absent : (list : Waiting W) (key : ℕ) (payload : W) → is_among key list.told ≡ false
      → is_among key (untold_keys list) ≡ false → renewed list key payload ≡ list
  renewed_absent list key payload h i =
      rw h (ap (λ xs. record { told = list.told; untold = xs }) (repaid-absent key payload list.untold i))

-- a new key goes last
pub different-push : (keys : List ℕ) (key : ℕ) → is_among key keys ≡ false → AreDifferent keys
    → AreDifferent (keys ++ key ∷ [])
different-push keys key h d = different-insert key keys [] (rw append-nil h) (rw append-nil d)

-- so are the keys of a part of a list
pub different_left : (xs ys : List ℕ) → AreDifferent (xs ++ ys) → AreDifferent xs
different_left [] ys d = tt
different_left (x ∷ xs) ys d = (absent_left x xs ys d.0, different_left xs ys d.1)

pub different_right : (xs ys : List ℕ) → AreDifferent (xs ++ ys) → AreDifferent ys
different_right [] ys d = d
different_right (x ∷ xs) ys d = different_right xs ys d.1

-- what is among the first of two lists isn't among the second
pub apart : (xs ys : List ℕ) (key : ℕ) → AreDifferent (xs ++ ys) → is_among key xs ≡ true → is_among key ys ≡ false
apart [] ys key d h = absurd (both_ways false refl h)
apart (x ∷ xs) ys key d h =
    elim (or_cases (x == key) (is_among key xs) h) [
      | inl here ↦ absent_right key xs ys (subst (λ k. is_among k (xs ++ ys) ≡ false) (eqb-true x key here) d.0)
      | inr there ↦ apart xs ys key d.1 there
    ]

pub apart_back : (xs ys : List ℕ) (key : ℕ) → AreDifferent (xs ++ ys) → is_among key ys ≡ true → is_among key xs ≡ false
apart_back xs ys key d h =
    elim (cases_Bool (is_among key xs)) [
      | inl there ↦ absurd (both_ways (is_among key ys) (apart xs ys key d there) h)
      | inr absent ↦ absent
    ]

module _ {W : Type 0} where
  told_loses : (list : Waiting W) (key : ℕ) (front back : List ℕ) → ToldCut list key front back → LosesOne list key
  told_loses list key front back cut =
      let is = without_told list key front back cut in
      let among = mark_at_told list key front back cut in
      let absent = absent_right key back (untold_keys list) (told_midst list key front back cut).not_behind in (
        rw among (omega (
          arith,
          ap (λ (v : Waiting W). length v.told) is,
          ap length cut.is_here,
          length-append front
              back,
          length-append front (key ∷ back),
        )),
        rw absent (omega (arith, ap (λ (v : Waiting W). length v.untold) is)),
      )

  untold_loses : (list : Waiting W) (key : ℕ) (payload : W) (front back : List (ℕ × W))
      → UntoldCut list key payload front back → LosesOne list key
  untold_loses list key payload front back cut =
      let is = without_untold list key payload front back cut in
      let marks = mark_at_untold list key payload front back cut in (
        rw marks.0 (omega (arith, ap (λ (v : Waiting W). length v.told) is)),
        rw marks.1 (omega (
          arith,
          ap (λ (v : Waiting W). length v.untold) is,
          ap length cut.is_here,
          length-append front
              back,
          length-append front ((key, payload) ∷ back),
        )),
      )

  -- one entry leaves with its key, and no other
  pub loses_one : (list : Waiting W) (key : ℕ) → AreDifferent (keys list) → LosesOne list key
  loses_one list key different =
      elim (cases_Bool (is_among key list.told)) [
        | inl told ↦
            let here = cut_at (λ (k : ℕ). k) key list.told
            (subst (λ ks. is_among key ks ≡ true) (sym (map-id list.told)) told) in
            told_loses list key here.0 here.2 (record
            { is_here = here.3 ∙ ap (λ k. here.0 ++ k ∷ here.2) here.4; different = different })
        | inr not_told ↦ elim (cases_Bool (is_among key (untold_keys list))) [
          | inl untold ↦
              let here = cut_at (λ (entry : ℕ × W). entry.0) key list.untold untold in
              untold_loses list key here.1.1 here.0 here.2
              (record {
                is_here = here.3 ∙ ap (λ k. here.0 ++ (k, here.1.1) ∷ here.2) here.4;
                different = different;
              })
          | inr absent ↦
              let is = without_absent list key not_told absent in (
                rw not_told (omega (arith, ap (λ (v : Waiting W). length v.told) is)),
                rw absent
                    (omega (arith, ap (λ (v : Waiting W). length v.untold) is)),
              )
        ]
      ]

module _ {W : Type 0} where
  payload_here : (key : ℕ) (payload : W) (front back : List (ℕ × W))
      → is_among key (map (λ entry. entry.0) front) ≡ false
      → payload_in key (front ++ (key, payload) ∷ back) ≡ Some payload
  payload_here key payload [] back h = ap (λ b. cond b (Some payload) (payload_in key back)) (eqb_same key)
  payload_here key payload (entry ∷ front) back h =
      let parts = or_parts (entry.0 == key) (is_among key (map (λ entry. entry.0) front)) h in
      ap (λ b. cond b (Some entry.1) (payload_in key (front ++ (key, payload) ∷ back))) parts.0
      ∙ payload_here key payload front back parts.1

  -- no payload is there under a key that isn't untold
  pub payload_none : (key : ℕ) (xs : List (ℕ × W)) → is_among key (map (λ entry. entry.0) xs) ≡ false
      → payload_in key xs ≡ None
  payload_none key [] h = refl
  payload_none key (entry ∷ rest) h =
      let parts = or_parts (entry.0 == key) (is_among key (map (λ entry. entry.0) rest)) h in
      ap (λ b. cond b (Some entry.1) (payload_in key rest)) parts.0 ∙ payload_none key rest parts.1

  -- so under a told one
  pub payload_told : (list : Waiting W) (key : ℕ) → AreDifferent (keys list) → is_among key list.told ≡ true
      → payload_in key list.untold ≡ None
  payload_told list key different told =
      payload_none key list.untold (apart list.told (untold_keys list) key different told)

  -- an untold key's payload
  pub payload_cut : (list : Waiting W) (key : ℕ) (payload : W) (front back : List (ℕ × W))
      → UntoldCut list key payload front back → payload_in key list.untold ≡ Some payload
  payload_cut list key payload front back cut = ap (payload_in key) cut.is_here
      ∙ payload_here key payload front back (absent_right key list.told (map (λ entry. entry.0) front)
      (untold_midst list key payload front back cut).not_before)

  waits_at : (list : Waiting W) (key : ℕ) (payload : W) (front back : List (ℕ × W))
      → list.untold ≡ front ++ (key, payload) ∷ back → is_among key list.told ≡ false
      → is_among key (map (λ entry. entry.0) front) ≡ false → IsWaiting list key payload
  waits_at list key payload front back is not_told absent =
      let here : is_among key (untold_keys list) ≡ true =
      ap (λ es. is_among key (map (λ (entry : ℕ × W). entry.0) es)) is
      ∙ ap (is_among key) (map-append (λ (entry : ℕ × W). entry.0) front ((key, payload) ∷ back))
      ∙ is_among-here key (map (λ entry. entry.0) front) (map (λ entry. entry.0) back) in
      record {
        is_untold = rw (not_told, here) refl;
        holds = ap (payload_in key) is ∙ payload_here key payload front back absent;
      }

  -- a new entry is untold, with its payload
  pub joined_waits : (list : Waiting W) (key : ℕ) (payload : W) → is_among key (keys list) ≡ false
      → IsWaiting (joined list key payload) key payload
  joined_waits list key payload absent =
      waits_at (joined list key payload) key payload list.untold [] refl
      (absent_left key list.told (untold_keys list) absent) (absent_right key list.told (untold_keys list) absent)

  -- so is one that waits again
  pub renewed_waits : (list : Waiting W) (key : ℕ) (payload : W) → AreDifferent (keys list)
      → is_some (told_flag list key) ≡ true → IsWaiting (renewed list key payload) key payload
  renewed_waits list key payload different present =
      elim (cases_Bool (is_among key list.told)) [
        | inl told ↦
            let here = cut_at (λ (k : ℕ). k) key list.told
            (subst (λ ks. is_among key ks ≡ true) (sym (map-id list.told)) told) in
            let front = here.0 in
            let back = here.2 in
            let cut : ToldCut list key front back = record {
              is_here = here.3 ∙ ap (λ k. front ++ k ∷ back) here.4;
              different = different;
            } in
            let midst = told_midst list key front back cut in
            let left : Waiting W = record list { told = front ++ back } in
            let is : renewed list key payload ≡ joined left key payload =
            rw told (ap (λ (v : Waiting W). joined v key payload) (without_told list key front back cut)) in
            subst (λ (v : Waiting W). IsWaiting v key payload) (sym is)
            (waits_at (joined left key payload) key payload list.untold [] refl
            (absent_both key front back midst.not_before (absent_left key back (untold_keys list) midst.not_behind))
            (absent_right key back (untold_keys list) midst.not_behind))
        | inr not_told ↦ elim (cases_Bool (is_among key (untold_keys list))) [
          | inl untold ↦
              let here = cut_at (λ (entry : ℕ × W). entry.0) key list.untold untold in
              let front = here.0 in
              let back = here.2 in
              let cut : UntoldCut list key here.1.1 front back =
              record { is_here = here.3 ∙ ap (λ k. front ++ (k, here.1.1) ∷ back) here.4; different = different } in
              let midst = untold_midst list key here.1.1 front back cut in
              let left : Waiting W = record list { untold = front ++ (key, payload) ∷ back } in
              let is : renewed list key payload ≡ left =
              rw not_told (repaid_cut list key here.1.1 payload front back cut) in
              subst (λ (v : Waiting W). IsWaiting v key payload) (sym is)
              (waits_at left key payload front back refl not_told
              (absent_right key list.told (map (λ entry. entry.0) front) midst.not_before))
          | inr absent ↦ absurd (both_ways false refl (rw (not_told, absent) at present))
        ]
      ]
