-- Slots and pieces.
use Rattle.std.proofs.Common.{◌≡◌, ◌≢◌, ℕ, ◌+◌, ◌<◌, ◌≤◌, ◌==◌, true, false, cond, List, [], ◌∷◌, length, set, take, drop, replicate, map, get_or, ◌++◌, Some, None, Option, zero, suc, slice_get, refl, ap, sym, ◌∙◌, subst, ⊎_elim, arith, length-set, length-append, ◌⊎◌, inl, inr}
use Rattle.std.proofs.lemmas.Bool.Decides.{eqb_tells}
use Rattle.std.proofs.lemmas.List.Sums.{sum_by_push}
use Rattle.std.proofs.lemmas.List.Elements.{All-push}
use Rattle.std.proofs.lemmas.List.{map_more, nil_from_length, drop_all, append-nil, take_all, length-replicate}
use Rattle.std.proofs.lemmas.Option.{slice_get_within}
use Rattle.std.specs.Vec.Iter.{into_iter_items, into_iter_len, into_iter_steps}
use Rattle.std.specs.declared.vec.IntoIter.{IntoIter}
use Rattle.std.specs.Iterator.{Yields}
use Rattle.parallel_map.specs.declared.error.MapError.{MapError}
use Rattle.parallel_map.specs.declared.error.MapError.TheVariants.{OutOfMemory, NoStamps, NoThread, Stranger, Doubled, Missing}
use Rattle.parallel_map.specs.Pieces.{PieceView, IsOfItsInput, count_at, AreSound, AreWhole, IsFault}
use Rattle.parallel_map.specs.Slots.{AreFilled, IsRefused}

-- a list after one of its places was written

get_set_same : {X : Type 0} (xs : List X) (i : ℕ) (y : X) → i < length xs
    → slice_get (set xs i y) i ≡ Some y
get_set_same [] i y low = absurd (omega arith)
get_set_same (x ∷ xs) zero y low = refl
get_set_same (x ∷ xs) (suc i) y low = get_set_same xs i y (omega arith)

get_set_other : {X : Type 0} (xs : List X) (i j : ℕ) (y : X) → j ≢ i
    → slice_get (set xs i y) j ≡ slice_get xs j
get_set_other [] i j y ne = refl
get_set_other (x ∷ xs) zero zero y ne = absurd (ne refl)
get_set_other (x ∷ xs) zero (suc j) y ne = refl
get_set_other (x ∷ xs) (suc i) zero y ne = refl
get_set_other (x ∷ xs) (suc i) (suc j) y ne = get_set_other xs i j y (λ e. ne (ap suc e))

-- how many pieces are for a place, once another came

count_more : {A : Type 0} (place : ℕ) (pieces : List (PieceView A)) (piece : PieceView A)
    → count_at place (pieces ++ piece ∷ [])
    ≡ count_at place pieces + cond (piece.place == place) 1 0
count_more place pieces piece = sum_by_push (λ p. cond (p.place == place) 1 0) pieces piece

count_own : {A : Type 0} (place : ℕ) (pieces : List (PieceView A)) (piece : PieceView A)
    → (piece.place == place) ≡ true
    → count_at place (pieces ++ piece ∷ []) ≡ suc (count_at place pieces)
count_own place pieces piece own =
    let more = count_more place pieces piece ∙ ap (λ b. count_at place pieces + cond b 1 0) own in
    more ∙ omega arith

count_other : {A : Type 0} (place : ℕ) (pieces : List (PieceView A)) (piece : PieceView A)
    → (piece.place == place) ≡ false → count_at place (pieces ++ piece ∷ []) ≡ count_at place pieces
count_other place pieces piece other =
    let more = count_more place pieces piece ∙ ap (λ b. count_at place pieces + cond b 1 0) other in
    more ∙ omega arith

none_or_some : (n : ℕ) → (n ≡ 0) ⊎ (0 < n)
none_or_some zero = inl refl
none_or_some (suc n) = inr (omega arith)

-- a slot with nothing in it is of a place without a piece
none_at : {A B : Type 0} (answer : A → B) (inputs : List A) (pieces : List (PieceView A))
    (slots : List (Option B)) (place : ℕ) (input : A)
    → AreFilled answer inputs pieces slots → slice_get inputs place ≡ Some input
    → slice_get slots place ≡ Some None → count_at place pieces ≡ 0
none_at answer inputs pieces slots place input h stands vacant =
    ⊎_elim (λ none. none)
    (λ some.
    let clash : Some None ≡ Some (Some (answer input)) = sym vacant ∙ h.filled place input stands some in
    cc)
    (none_or_some (count_at place pieces))

-- a slot with something in it is of a place with one piece
one_at : {A B : Type 0} (answer : A → B) (inputs : List A) (pieces : List (PieceView A))
    (slots : List (Option B)) (place : ℕ)
    → AreSound inputs pieces → AreFilled answer inputs pieces slots → place < length inputs
    → slice_get slots place ≢ Some None → count_at place pieces ≡ 1
one_at answer inputs pieces slots place sound h within taken =
    ⊎_elim (λ none. absurd (taken (h.vacant place within none)))
    (λ some. let once = sound.once place in omega (arith, some, once))
    (none_or_some (count_at place pieces))

-- one more piece, for a vacant slot

pub more_sound : {A B : Type 0} (answer : A → B) (inputs : List A) (pieces : List (PieceView A))
    (slots : List (Option B)) (piece : PieceView A)
    → AreSound inputs pieces → AreFilled answer inputs pieces slots → IsOfItsInput inputs piece
    → slice_get slots piece.place ≡ Some None
    → AreSound inputs (pieces ++ piece ∷ [])
more_sound answer inputs pieces slots piece sound h stands vacant = record {
  of_inputs = All-push (IsOfItsInput inputs) pieces piece sound.of_inputs stands;
  once = λ place.
      ⊎_elim
      (λ own.
      let none = none_at answer inputs pieces slots piece.place piece.input h stands vacant in
      let none_here : count_at place pieces ≡ 0 =
      subst (λ (k : ℕ). count_at k pieces ≡ 0) own.1 none in
      let more = count_own place pieces piece own.0 in
      omega (arith, more, none_here))
      (λ other.
      let same = count_other place pieces piece other.0 in
      let once = sound.once place in
      omega (arith, same, once))
      (eqb_tells piece.place place);
}

pub more_filled : {A B : Type 0} (answer : A → B) (inputs : List A) (pieces : List (PieceView A))
    (slots : List (Option B)) (piece : PieceView A)
    → AreFilled answer inputs pieces slots → IsOfItsInput inputs piece
    → AreFilled answer inputs (pieces ++ piece ∷ [])
    (set slots piece.place (Some (answer piece.input)))
more_filled answer inputs pieces slots piece h stands = record {
  long = length-set slots piece.place (Some (answer piece.input)) ∙ h.long;
  vacant = λ place within none.
      ⊎_elim
      (λ own. let more = count_own place pieces piece own.0 in absurd (omega (arith, more, none)))
      (λ other.
      get_set_other slots piece.place place (Some (answer piece.input)) (λ e. other.1 (sym e))
      ∙ h.vacant place within (sym (count_other place pieces piece other.0) ∙ none))
      (eqb_tells piece.place place);
  filled = λ place input at some.
      ⊎_elim
      (λ own.
      let low = slice_get_within inputs piece.place piece.input stands in
      let long = h.long in
      let within : piece.place < length slots = omega (arith, low, long) in
      let own_answer = Some (answer piece.input) in
      let here = subst (λ (k : ℕ). slice_get (set slots piece.place own_answer) k ≡ Some own_answer)
      own.1 (get_set_same slots piece.place own_answer within) in
      let one_input : Some piece.input ≡ Some input =
      sym stands ∙ (ap (slice_get inputs) own.1 ∙ at) in
      let same : piece.input ≡ input = cc in
      here ∙ ap (λ x. Some (Some (answer x))) same)
      (λ other.
      get_set_other slots piece.place place (Some (answer piece.input)) (λ e. other.1 (sym e))
      ∙ h.filled place input at
      (subst (λ (k : ℕ). 0 < k) (count_other place pieces piece other.0) some))
      (eqb_tells piece.place place);
}

-- a piece that can't be put into its slot is the first with a fault
pub refused_is_fault : {A B : Type 0} (answer : A → B) (inputs : List A)
    (pieces before after : List (PieceView A)) (slots : List (Option B)) (piece : PieceView A)
    (error : MapError)
    → pieces ≡ before ++ piece ∷ after → AreSound inputs before
    → AreFilled answer inputs before slots → IsRefused inputs slots piece error
    → IsFault inputs pieces error
refused_is_fault answer inputs pieces before after slots piece
    (Stranger place) split sound h refused = (
      before,
      piece,
      record { after = after; split = split; sound = sound },
      sym refused.0,
      refused.1,
    )
refused_is_fault answer inputs pieces before after slots piece
    (Doubled place) split sound h refused =
    let within = slice_get_within inputs piece.place piece.input refused.1 in
    let one = one_at answer inputs before slots piece.place sound h within refused.2 in (
      before,
      piece,
      record { after = after; split = split; sound = sound },
      sym refused.0,
      refused.1,
      subst (λ (k : ℕ). count_at k before ≡ 1) (sym refused.0) one,
    )
refused_is_fault answer inputs pieces before after slots piece
    (Missing place) split sound h refused = absurd refused
refused_is_fault answer inputs pieces before after slots piece OutOfMemory split sound h refused =
    absurd refused
refused_is_fault answer inputs pieces before after slots piece NoStamps split sound h refused =
    absurd refused
refused_is_fault answer inputs pieces before after slots piece NoThread split sound h refused =
    absurd refused

-- the slots are emptied in order

element : {X : Type 0} (xs : List X) (i : ℕ) → i < length xs → (x : X) × (slice_get xs i ≡ Some x)
    × (get_or xs i x ≡ x)
element [] i low = absurd (omega arith)
element (x ∷ xs) zero low = (x, refl, refl)
element (x ∷ xs) (suc i) low = element xs i (omega arith)

-- as long as no slot was vacant, the answers are those of the first inputs, each of which has a
-- piece
pub record AreEmptied {A B : Type 0} (answer : A → B) (inputs : List A)
    (pieces : List (PieceView A)) (place : ℕ) (answers : List B) : Type 0 where
  pub mapped : answers ≡ map answer (take place inputs)
  pub each : (lower : ℕ) → lower < place → count_at lower pieces ≡ 1

pub none_emptied : {A B : Type 0} (answer : A → B) (inputs : List A) (pieces : List (PieceView A))
    (answers : List B) → answers ≡ [] → AreEmptied answer inputs pieces 0 answers
none_emptied answer inputs pieces answers empty = record {
  mapped = empty;
  each = λ lower low.
      absurd (omega arith);
}

lower_too : {A : Type 0} (pieces : List (PieceView A)) (place : ℕ)
    → ((lower : ℕ) → lower < place → count_at lower pieces ≡ 1) → count_at place pieces ≡ 1
    → (lower : ℕ) → lower < place + 1 → count_at lower pieces ≡ 1
lower_too pieces place each one lower low =
    ⊎_elim (λ here. subst (λ (k : ℕ). count_at k pieces ≡ 1) (sym here.1) one)
    (λ away. each lower (let ne = away.1 in omega (arith, ne, low)))
    (eqb_tells lower place)

pub one_emptied : {A B : Type 0} (answer : A → B) (inputs : List A) (pieces : List (PieceView A))
    (slots : List (Option B)) (place : ℕ) (answers : List B) (here : B)
    → AreSound inputs pieces → AreFilled answer inputs pieces slots → place < length inputs
    → slice_get slots place ≡ Some (Some here)
    → AreEmptied answer inputs pieces place answers
    → AreEmptied answer inputs pieces (place + 1) (answers ++ here ∷ [])
one_emptied answer inputs pieces slots place answers here sound h low at so_far =
    let x = element inputs place low in
    let one = one_at answer inputs pieces slots place sound h low
    (λ none. let clash : Some (Some here) ≡ Some None = sym at ∙ none in cc) in
    let some : 0 < count_at place pieces = omega (arith, one) in
    let there : Some (Some here) ≡ Some (Some (answer x.0)) = sym at
    ∙ h.filled place x.0 x.1 some in
    let same : here ≡ answer x.0 = cc in
    record {
      mapped = ap (λ ys. ys ++ here ∷ []) so_far.mapped
          ∙ (ap (λ y. map answer (take place inputs) ++ y ∷ []) (same ∙ sym (ap answer x.2))
          ∙ sym (map_more answer inputs place x.0 low));
      each = lower_too pieces place so_far.each one;
    }

pub vacant_is_fault : {A B : Type 0} (answer : A → B) (inputs : List A)
    (pieces : List (PieceView A)) (slots : List (Option B)) (place : ℕ) (answers : List B)
    → AreSound inputs pieces → AreFilled answer inputs pieces slots → place < length inputs
    → slice_get slots place ≡ Some None
    → AreEmptied answer inputs pieces place answers → IsFault inputs pieces (Missing place)
vacant_is_fault answer inputs pieces slots place answers sound h low vacant so_far =
    let x = element inputs place low in
    (sound, low, none_at answer inputs pieces slots place x.0 h x.1 vacant, so_far.each)

pub all_emptied : {A B : Type 0} (answer : A → B) (inputs : List A) (pieces : List (PieceView A))
    (place : ℕ) (answers : List B)
    → AreSound inputs pieces → length inputs ≤ place → AreEmptied answer inputs pieces place answers
    → AreWhole inputs pieces × (answers ≡ map answer inputs)
all_emptied answer inputs pieces place answers sound all so_far = (
  record {
    of_inputs = sound.of_inputs;
    each = λ lower low.
        so_far.each lower (omega (arith, low, all));
  },
  so_far.mapped ∙ ap (map answer) (take_all place inputs all),
)

pub later_more : {X : Type 0} (xs ys : List X) (place : ℕ) (y : X)
    → ((i : ℕ) → place ≤ i → slice_get xs i ≡ slice_get ys i) → (i : ℕ) → place + 1 ≤ i
    → slice_get (set xs place y) i ≡ slice_get ys i
later_more xs ys place y h i above =
    let away : i ≢ place = λ e. omega (arith, e) in
    get_set_other xs place i y away ∙ h i (omega arith)

-- what the iterator of a vector has given is a front of its items
pub taken_front : {X A : Type 0} (s : IntoIter X A) (xs : List X) (t : IntoIter X A)
    → Yields into_iter_steps s xs t → into_iter_items s ≡ xs ++ into_iter_items t
taken_front s [] t y = ap into_iter_items y
taken_front s (x ∷ xs) t y = y.1.0 ∙ ap (λ ys. x ∷ ys) (taken_front y.0 xs t y.2)

-- a vector whose slice was written whole
pub written : {X : Type 0} (new old : List X) (n : ℕ) → n ≡ length old → length new ≡ length old
    → take n (new ++ drop (length new) old) ≡ new
written new old n long same =
    ap (λ zs. take n (new ++ zs)) (drop_all (length new) old (omega arith))
    ∙ (ap (take n) (append-nil new) ∙ take_all n new (omega arith))

abbrev none_in : (B : Type 0) → Option B
none_in B = None

get_none : {B : Type 0} (n i : ℕ) → i < n → slice_get (replicate n (none_in B)) i ≡ Some None
get_none zero i low = absurd (omega arith)
get_none (suc n) zero low = refl
get_none (suc n) (suc i) low = get_none n i (omega arith)

-- nothing is filled at first
pub none_filled : {A B : Type 0} (answer : A → B) (inputs : List A)
    → AreFilled answer inputs [] (replicate (length inputs) (none_in B))
none_filled answer inputs = record {
  long = length-replicate (length inputs) None;
  vacant = λ place within none. get_none (length inputs) place within;
  filled = λ place input at some. absurd (omega (arith, some));
}

pub none_sound : {A : Type 0} (inputs : List A) → AreSound inputs []
none_sound inputs = record {
  of_inputs = λ i d low. absurd (omega arith);
  once = λ place.
      omega arith;
}

taken_len : {X A : Type 0} (s : IntoIter X A) (xs : List X) (t : IntoIter X A)
    → Yields into_iter_steps s xs t → length xs + into_iter_len t ≡ into_iter_len s
taken_len s [] t y = omega (arith, ap into_iter_len y)
taken_len s (x ∷ xs) t y = omega (arith, taken_len y.0 xs t y.2, y.1.1)

-- once nothing is left, all was given
pub taken_all : {X A : Type 0} (s : IntoIter X A) (xs : List X) (t : IntoIter X A) (items : List X)
    → into_iter_items s ≡ items → into_iter_len s ≡ length items → into_iter_len t ≡ 0
    → Yields into_iter_steps s xs t → items ≡ xs
taken_all s xs t items is long empty y =
    let front : items ≡ xs ++ into_iter_items t = sym is ∙ taken_front s xs t y in
    let none : into_iter_items t ≡ [] = nil_from_length (into_iter_items t)
    (omega (
      arith,
      taken_len s xs t y,
      long,
      empty,
      ap length front,
      length-append xs
          (into_iter_items t),
    )) in
    front ∙ (ap (λ ys. xs ++ ys) none ∙ append-nil xs)
