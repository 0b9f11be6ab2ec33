-- Chunks that are put together as they come.
use Rattle.std.proofs.Common.{◌≡◌, ◌≢◌, ℕ, ◌+◌, ◌-◌, ◌<◌, ◌≤◌, min, false, true, List, [], ◌∷◌, ◌++◌, length, take, drop, get_or, map, refl, ap, sym, ◌∙◌, subst, ◌⊎◌, inl, inr, ⊎_elim, arith, length-append, length-take, length-drop, true≢false}
use Rattle.std.proofs.Math.Seq.{take-add}
use Rattle.std.proofs.lemmas.Bool.{cases_eq, cases_lt}
use Rattle.std.proofs.lemmas.List.{length-map, take_all, take_min, take-map, drop-map, get_or-map, nil_from_length}
use Rattle.std.proofs.lemmas.List.Elements.{All-map, All-push, All-contains, All-weaker, Contains-get_or, Contains-append_left, Contains-push, Contains-push_cases}
use Rattle.std.proofs.lemmas.List.Sorted.{IsPermutation-sym, All-permutation, Contains-permutation}
use Rattle.std.proofs.lemmas.Bool.Decides.{eqb_tells}
use Rattle.std.specs.BTreeMap.{BTreeMap, Updates, get}
use Rattle.std.specs.Cmp.{unsigned_tied}
use Rattle.std.specs.Ordering.{nat_cmp}
use Rattle.std.specs.Prelude.{IsPermutation, IsSome, is_some, Option, Some, None, Vec, All, Contains}
use Rattle.parallel_map.specs.Chunks.{ChunkView, chunk_at, AreStartsOf}
use Rattle.parallel_map.specs.Joining.{AreSoFar}

-- the places sent so far: the first, and after each the next, unless that is to be sent now or is
-- after the last
pub record AreBefore (count size from : ℕ) (places : List ℕ) : Type 0 where
  pub first : (from ≡ 0) ⊎ Contains places 0
  pub next : (place : ℕ) → Contains places place
      → (place + size ≡ from) ⊎ (Contains places (place + size) ⊎ (count ≤ place + size))

pub none_yet : (count size : ℕ) → AreBefore count size 0 []
none_yet count size = record {
  first = inl refl;
  next = λ place there. absurd (omega (arith, there.1));
}

pub one_more : (count size from next : ℕ) (places : List ℕ) → AreBefore count size from places
    → next ≡ from + min size (count - from) → AreBefore count size next (places ++ from ∷ [])
one_more count size from next places are end =
    let sent = λ (n : ℕ) (is : n ≡ from). subst (Contains (places ++ from ∷ [])) (sym is) (Contains-push places from) in
    record {
      first = inr (⊎_elim (λ is. sent 0 (sym is)) (Contains-append_left places (from ∷ []) 0) are.first);
      next = λ place there.
          ⊎_elim (λ old.
          ⊎_elim (λ is. inr (inl (sent (place + size) is)))
          (λ more. inr (⊎_elim (λ behind. inl (Contains-append_left places (from ∷ []) (place + size) behind)) (λ last. inr last) more))
          (are.next place old))
          (λ same.
          ⊎_elim (λ less. inl (omega (arith, same, end, less))) (λ last. inr (inr (omega (arith, same, last))))
          (cases_lt (place + size) count))
          (Contains-push_cases places from place there);
    }

pub to_the_end : (count size from : ℕ) (places : List ℕ) → AreBefore count size from places → count ≤ from → AreStartsOf count size places
to_the_end count size from places are end = record {
  first = λ some. ⊎_elim (λ is. absurd (omega (arith, some, is, end))) (λ there. there) are.first;
  next = λ place there less.
      ⊎_elim (λ is. absurd (omega (arith, is, end, less)))
      (λ more. ⊎_elim (λ behind. behind) (λ last. absurd (omega (arith, last, less))) more)
      (are.next place there);
}

module _ {A B : Type 0} (answer : A → B) where
  -- the answers for a chunk are a chunk of the answers
  pub answered_part : (inputs : List A) (size from : ℕ) → take size (drop from (map answer inputs)) ≡ map answer (take size (drop from inputs))
  answered_part inputs size from = ap (take size) (drop-map answer from inputs) ∙ take-map answer size (drop from inputs)

module _ {B : Type 0} (all : List B) (size : ℕ) (places : List ℕ) where
  starts : (from : ℕ) → Contains (map (chunk_at all size) places) (chunk_at all size from) → Contains places from
  starts from there =
      let within : there.0 < length places = omega (arith, there.1, length-map places (chunk_at all size)) in (
        there.0,
        within,
        ap (λ (c : ChunkView B). c.from) (sym (get_or-map (chunk_at all size) places there.0 from (chunk_at all size from) within) ∙ there.2),
      )

  chunk_there : (from : ℕ) → Contains places from → Contains (map (chunk_at all size) places) (chunk_at all size from)
  chunk_there from there = (
    there.0,
    omega (arith, there.1, length-map places (chunk_at all size)),
    get_or-map (chunk_at all size) places there.0 from (chunk_at all size from) there.1 ∙ ap (chunk_at all size) there.2,
  )

module _ {B Z : Type 0} (all : List B) (size : ℕ) where
  pub nothing_came : (kept : ℕ → Option (Vec B Z)) → ((q : ℕ) → kept q ≡ None) → AreSoFar all size [] [] kept
  nothing_came kept none = record {
    first = refl;
    ends = inl refl;
    each = λ k d within. absurd (omega (arith, within));
    aside = λ from list is. let clash : ◌≡◌ {A = Option (Vec B Z)} None (Some list) = sym (none from) ∙ is in cc;
  }

  module _ (came : List (ChunkView B)) (answers : List B) (kept after : ℕ → Option (Vec B Z)) (list : Vec B Z) (are : AreSoFar all size came answers kept) where
    is_kept : (q : ℕ) → after q ≡ Some list → IsSome (after q)
    is_kept q is = ap is_some is

    -- one more came, and is kept
    pub one_came : (c : ChunkView B) → c ≡ chunk_at all size c.from → list.items ≡ c.answers
        → after c.from ≡ Some list → ((q : ℕ) → q ≢ c.from → after q ≡ kept q) → AreSoFar all size (came ++ c ∷ []) answers after
    one_came c right same here others = record {
      first = are.first;
      ends = ⊎_elim (λ none. inl none)
          (λ e. inr (e.0, Contains-append_left came (c ∷ []) (chunk_at all size e.0) e.1, e.2)) are.ends;
      each = All-push (λ d. (take size (drop d.from all) ≡ []) ⊎ ((d.from < length answers) ⊎ IsSome (after d.from))) came c
          (All-weaker (λ d. (take size (drop d.from all) ≡ []) ⊎ ((d.from < length answers) ⊎ IsSome (kept d.from)))
          (λ d. (take size (drop d.from all) ≡ []) ⊎ ((d.from < length answers) ⊎ IsSome (after d.from)))
          (λ d is. ⊎_elim (λ none. inl none) (λ some. ⊎_elim (λ less. inr (inl less))
          (λ there. inr (inr (⊎_elim (λ e. is_kept d.from (ap after e ∙ here)) (λ ne. subst IsSome (sym (others d.from ne)) there) (cases_eq d.from c.from)))) some) is)
          came are.each)
          (inr (inr (is_kept c.from here)));
      aside = λ from found is.
          ⊎_elim (λ e.
          let one : ◌≡◌ {A = Option (Vec B Z)} (Some found) (Some list) = sym is ∙ ap after e ∙ here in
          let found_it : found ≡ list = cc in (
            ap (λ (v : Vec B Z). v.items) found_it ∙ same ∙ ap (λ (d : ChunkView B). d.answers) right ∙ ap (λ n. take size (drop n all)) (sym e),
            subst (Contains (came ++ c ∷ [])) (right ∙ ap (chunk_at all size) (sym e)) (Contains-push came c),
          ))
          (λ ne.
          let old = are.aside from found (sym (others from ne) ∙ is) in
          (old.0, Contains-append_left came (c ∷ []) (chunk_at all size from) old.1))
          (cases_eq from c.from);
    }

    -- the one for the next place is appended, and not kept any longer
    pub one_appended : kept (length answers) ≡ Some list → ((q : ℕ) → q ≢ length answers → after q ≡ kept q)
        → after (length answers) ≡ None → AreSoFar all size came (answers ++ list.items) after
    one_appended here others gone =
        let at = length answers in
        let old = are.aside at list here in
        let part = take size (drop at all) in
        let longer : length (answers ++ list.items) ≡ at + length list.items = length-append answers list.items in
        let whole : part ≡ take (length list.items) (drop at all) =
        sym (take_min size (drop at all)) ∙ ap (λ n. take n (drop at all)) (sym (length-take size (drop at all)) ∙ ap length (sym old.0)) in
        record {
          first = ap (λ l. answers ++ l) (old.0 ∙ whole) ∙ ap (λ l. l ++ take (length list.items) (drop at all)) are.first
              ∙ sym (take-add at (length list.items) all) ∙ ap (λ n. take n all) (sym longer);
          ends = inr (at, old.1, ap (λ l. at + length l) (sym old.0) ∙ sym longer);
          each = All-weaker (λ d. (take size (drop d.from all) ≡ []) ⊎ ((d.from < at) ⊎ IsSome (kept d.from)))
              (λ d. (take size (drop d.from all) ≡ []) ⊎ ((d.from < length (answers ++ list.items)) ⊎ IsSome (after d.from)))
              (λ d is. ⊎_elim (λ none. inl none)
              (λ some. ⊎_elim (λ less. inr (inl (omega (arith, longer, less))))
              (λ there. ⊎_elim
              (λ e. ⊎_elim
              (λ more. inr (inl (omega (arith, longer, e, more))))
              (λ none. inl (ap (λ n. take size (drop n all)) e ∙ sym old.0 ∙ nil_from_length list.items (omega (arith, none))))
              (cases_lt 0 (length list.items)))
              (λ ne. inr (inr (subst IsSome (sym (others d.from ne)) there)))
              (cases_eq d.from at)) some) is)
              came are.each;
          aside = λ from found is.
              ⊎_elim (λ e. let clash : ◌≡◌ {A = Option (Vec B Z)} None (Some found) = sym gone ∙ ap after (sym e) ∙ is in cc)
              (λ ne. are.aside from found (sym (others from ne) ∙ is))
              (cases_eq from at);
        }

  -- once all came, and nothing is kept for the next place, all answers are there
  pub all_there : (places : List ℕ) (came : List (ChunkView B)) (answers : List B) (kept : ℕ → Option (Vec B Z)) → 0 < size
      → (All (λ c. c ≡ chunk_at all size c.from) came → AreSoFar all size came answers kept)
      → kept (length answers) ≡ None → AreStartsOf (length all) size places → IsPermutation came (map (chunk_at all size) places) → answers ≡ all
  all_there places came answers kept some of_chunks none begun same =
      let at = length answers in
      let chunks = map (chunk_at all size) places in
      let right : All (λ c. c ≡ chunk_at all size c.from) chunks = All-map (λ c. c ≡ chunk_at all size c.from) (chunk_at all size) places (λ k d within. refl) in
      let are = of_chunks (All-permutation (λ c. c ≡ chunk_at all size c.from) chunks came (IsPermutation-sym came chunks same) right) in
      ⊎_elim (λ less.
      let next : Contains places at =
      ⊎_elim (λ zero. subst (Contains places) (sym zero) (begun.first (omega (arith, less))))
      (λ e.
      let here = length-take size (drop e.0 all) in
      let rest = length-drop e.0 all in
      let end = e.2 in
      let is : e.0 + size ≡ at = omega (arith, here, rest, end, less) in
      subst (Contains places) is (begun.next e.0 (starts all size places e.0 (Contains-permutation came chunks (chunk_at all size e.0) same e.1)) (omega (arith, is, less))))
      are.ends in
      let it = All-contains (λ d. (take size (drop d.from all) ≡ []) ⊎ ((d.from < at) ⊎ IsSome (kept d.from))) came (chunk_at all size at) are.each
      (Contains-permutation chunks came (chunk_at all size at) (IsPermutation-sym came chunks same) (chunk_there all size places at next)) in
      absurd (⊎_elim (λ nil.
      let here = length-take size (drop at all) in
      let rest = length-drop at all in
      let zero : length (take size (drop at all)) ≡ 0 = ap length nil in
      omega (arith, here, rest, zero, less, some))
      (λ more. ⊎_elim (λ below. omega (arith, below)) (λ kept_it. let clash : true ≡ false = sym kept_it ∙ ap is_some none in true≢false clash) more) it))
      (λ last. are.first ∙ take_all at all last)
      (cases_lt at (length all))

  pub put_in : (came : List (ChunkView B)) (answers : List B) (kept after : ℕ → Option (Vec B Z)) (list : Vec B Z) (c : ChunkView B)
      → (All (λ d. d ≡ chunk_at all size d.from) came → AreSoFar all size came answers kept) → list.items ≡ c.answers → after c.from ≡ Some list
      → ((q : ℕ) → q ≢ c.from → after q ≡ kept q) → All (λ d. d ≡ chunk_at all size d.from) (came ++ c ∷ []) → AreSoFar all size (came ++ c ∷ []) answers after
  put_in came answers kept after list c before same here others right =
      let is = λ (d : ChunkView B) (there : Contains (came ++ c ∷ []) d). All-contains (λ d. d ≡ chunk_at all size d.from) (came ++ c ∷ []) d right there in
      one_came came answers kept after list
      (before (λ k d within. is (get_or came k d) (Contains-append_left came (c ∷ []) (get_or came k d) (Contains-get_or came k d within))))
      c (is c (Contains-push came c)) same here others

-- a map of numbers has at other keys what it had
pub elsewhere : {X : Type 0} (old new : BTreeMap ℕ X) (key : ℕ) (value : Option X) → Updates nat_cmp old new key value
    → (q : ℕ) → q ≢ key → get nat_cmp new q ≡ get nat_cmp old q
elsewhere old new key value is q ne = is.2 q (unsigned_tied key q ∙ ⊎_elim (λ yes. absurd (ne (sym yes.1))) (λ no. no.0) (eqb_tells key q))
