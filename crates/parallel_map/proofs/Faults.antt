-- Whole pieces have no fault, and others have one.
use Rattle.std.proofs.Common.{◌≡◌, ◌≢◌, ℕ, ◌+◌, ◌<◌, ◌==◌, true, cond, List, [], ◌∷◌, ◌++◌, Ok, Err, Result, zero, suc, refl, ap, sym, ◌∙◌, subst, ⊎_elim, ◌⊎◌, inl, inr, arith}
use Rattle.std.specs.Prelude.{IsOk, IfOk, IfErr}
use Rattle.std.specs.List.{All}
use Rattle.std.proofs.lemmas.Bool.Decides.{eqb_tells}
use Rattle.std.proofs.lemmas.List.Sums.{sum_by-append, sum_by-cons}
use Rattle.std.proofs.lemmas.Option.{slice_get_within}
use Rattle.parallel_map.specs.declared.error.MapError.{MapError}
use Rattle.parallel_map.specs.declared.error.MapError.TheVariants.{OutOfMemory, NoStamps, NoThread, Stranger, Doubled, Missing}
use Rattle.parallel_map.specs.Pieces.{PieceView, IsOfItsInput, count_at, AreSound, AreWhole, IsFirstFaulty, IsFault}

-- what holds of all holds of the one at a split
all_at : {X : Type 0} (P : X → Type 0) (before : List X) (x : X) (after : List X)
    → All P (before ++ x ∷ after) → P x
all_at P [] x after all = all 0 x (omega arith)
all_at P (y ∷ ys) x after all = all_at P ys x after (λ i d low. all (suc i) d (omega (arith, low)))

itself : (n : ℕ) → (n == n) ≡ true
itself n = ⊎_elim (λ yes. yes.0) (λ no. absurd (no.1 refl)) (eqb_tells n n)

-- the pieces for the place of one of them are one more than those before it and after it
count_split : {A : Type 0} (before : List (PieceView A)) (piece : PieceView A)
    (after : List (PieceView A))
    → count_at piece.place (before ++ piece ∷ after) ≡ suc
    (count_at piece.place before + count_at piece.place after)
count_split {A} before piece after =
    let test : PieceView A → ℕ = λ p. cond (p.place == piece.place) 1 0 in
    let both = sum_by-append test before (piece ∷ after) in
    let first = sum_by-cons test piece after
    ∙ ap (λ b. cond b 1 0 + count_at piece.place after) (itself piece.place) in
    both ∙ (ap (λ n. count_at piece.place before + n) first ∙ omega arith)

-- why a piece is at fault, behind those before it
abbrev IsAtFault : {A : Type 0} → List A → List (PieceView A) → PieceView A → Type 0
IsAtFault inputs before piece = (IsOfItsInput inputs piece → ⊥) ⊎ (count_at piece.place before ≡ 1)

-- sound pieces have none at fault
none_at_fault : {A : Type 0} (inputs : List A) (before : List (PieceView A)) (piece : PieceView A)
    (after : List (PieceView A))
    → AreSound inputs (before ++ piece ∷ after) → IsAtFault inputs before piece → ⊥
none_at_fault inputs before piece after sound fault =
    ⊎_elim (λ stranger. stranger (all_at (IsOfItsInput inputs) before piece after sound.of_inputs))
    (λ doubled.
    let once = sound.once piece.place in let count = count_split before piece after in
    omega
    (arith, once, count, doubled))
    fault

-- two splits of one list: the same, or one lies before the other
abbrev LiesWithin : {X : Type 0} → List X → X → List X → Type 0
LiesWithin {X} before x whole = (between : List X) × (whole ≡ before ++ x ∷ between)

splits : {X : Type 0} (xs : List X) (x : X) (after : List X) (ys : List X) (y : X) (rest : List X)
    → xs ++ x ∷ after ≡ ys ++ y ∷ rest
    → ((xs ≡ ys) × (x ≡ y)) ⊎ (LiesWithin xs x ys ⊎ LiesWithin ys y xs)
splits [] x after [] y rest e = inl (refl, cc)
splits [] x after (z ∷ zs) y rest e = let first : z ≡ x = cc in inr
    (inl (zs, ap (λ w. w ∷ zs) first))
splits (z ∷ zs) x after [] y rest e = let first : z ≡ y = cc in inr
    (inr (zs, ap (λ w. w ∷ zs) first))
splits (z ∷ zs) x after (w ∷ ws) y rest e =
    let first : z ≡ w = cc in
    let others : zs ++ x ∷ after ≡ ws ++ y ∷ rest = cc in
    ⊎_elim (λ same. inl (ap (λ l. z ∷ l) same.0 ∙ ap (λ v. v ∷ ws) first, same.1))
    (λ apart.
    ⊎_elim (λ within.
    inr (inl (
      within.0,
      ap (λ l. w ∷ l) within.1
          ∙ ap (λ v. v ∷ (zs ++ x ∷ within.0)) (sym first),
    )))
    (λ within.
    inr (inr (within.0, ap (λ l. z ∷ l) within.1 ∙ ap (λ v. v ∷ (ws ++ y ∷ within.0)) first)))
    apart)
    (splits zs x after ws y rest others)

-- the first piece at fault is one piece
one_first : {A : Type 0} (inputs : List A) (pieces xs ys : List (PieceView A)) (x y : PieceView A)
    → IsFirstFaulty inputs pieces xs x → IsAtFault inputs xs x → IsFirstFaulty inputs pieces ys y
    → IsAtFault inputs ys y → (xs ≡ ys) × (x ≡ y)
one_first inputs pieces xs ys x y f at_x g at_y =
    ⊎_elim (λ same. same)
    (λ apart.
    ⊎_elim (λ within.
    absurd (none_at_fault inputs xs x within.0 (subst (AreSound inputs) within.1 g.sound) at_x))
    (λ within.
    absurd (none_at_fault inputs ys y within.0 (subst (AreSound inputs) within.1 f.sound) at_y))
    apart)
    (splits xs x f.after ys y g.after (sym f.split ∙ g.split))

twice_at_fault : {A : Type 0} (inputs : List A) (before : List (PieceView A)) (piece : PieceView A)
    (place : ℕ) → piece.place ≡ place → count_at place before ≡ 1 → IsAtFault inputs before piece
twice_at_fault inputs before piece place is one = inr
    (subst (λ (k : ℕ). count_at k before ≡ 1) (sym is) one)

-- if all pieces are sound, none is first at fault
no_first : {A : Type 0} (inputs : List A) (pieces before : List (PieceView A)) (piece : PieceView A)
    → AreSound inputs pieces → IsFirstFaulty inputs pieces before piece
    → IsAtFault inputs before piece → ⊥
no_first inputs pieces before piece sound f at = none_at_fault inputs before piece f.after
    (subst (AreSound inputs) f.split sound) at

lower_or_above : (a b : ℕ) → a ≢ b → (a < b) ⊎ (b < a)
lower_or_above zero zero ne = absurd (ne refl)
lower_or_above zero (suc b) ne = inl (omega arith)
lower_or_above (suc a) zero ne = inr (omega arith)
lower_or_above (suc a) (suc b) ne =
    ⊎_elim (λ low. inl (omega (arith, low))) (λ low. inr (omega (arith, low)))
    (lower_or_above a b (λ e. ne (ap suc e)))

least_is_one : {A : Type 0} (pieces : List (PieceView A)) (p q : ℕ) → count_at p pieces ≡ 0
    → count_at q pieces ≡ 0
    → ((lower : ℕ) → lower < p → count_at lower pieces ≡ 1)
    → ((lower : ℕ) → lower < q → count_at lower pieces ≡ 1) → p ≡ q
least_is_one pieces p q none_p none_q below_p below_q =
    ⊎_elim (λ same. same.1)
    (λ apart.
    ⊎_elim (λ low. let one = below_q p low in absurd (omega (arith, one, none_p)))
    (λ low. let one = below_p q low in absurd (omega (arith, one, none_q)))
    (lower_or_above p q apart.1))
    (eqb_tells p q)

-- pieces have one fault at most
pub one_fault : {A : Type 0} (inputs : List A) (pieces : List (PieceView A))
    (error other : MapError) → IsFault inputs pieces error → IsFault inputs pieces other
    → error ≡ other
one_fault inputs pieces (Stranger p) (Stranger q) f g =
    let same = one_first inputs pieces f.0 g.0 f.1 g.1 f.2 (inl f.4) g.2 (inl g.4) in
    ap Stranger (sym f.3 ∙ (ap (λ piece. piece.place) same.1 ∙ g.3))
one_fault inputs pieces (Stranger p) (Doubled q) f g =
    let same = one_first inputs pieces f.0 g.0 f.1 g.1 f.2 (inl f.4) g.2
    (twice_at_fault inputs g.0 g.1 q g.3 g.5) in
    absurd (f.4 (subst (IsOfItsInput inputs) (sym same.1) g.4))
one_fault inputs pieces (Doubled p) (Stranger q) f g =
    let same = one_first inputs pieces f.0 g.0 f.1 g.1 f.2
    (twice_at_fault inputs f.0 f.1 p f.3 f.5) g.2 (inl g.4) in
    absurd (g.4 (subst (IsOfItsInput inputs) same.1 f.4))
one_fault inputs pieces (Doubled p) (Doubled q) f g =
    let same = one_first inputs pieces f.0 g.0 f.1 g.1 f.2
    (twice_at_fault inputs f.0 f.1 p f.3 f.5) g.2 (twice_at_fault inputs g.0 g.1 q g.3 g.5) in
    ap Doubled (sym f.3 ∙ (ap (λ piece. piece.place) same.1 ∙ g.3))
one_fault inputs pieces (Missing p) (Missing q) f g = ap Missing
    (least_is_one pieces p q f.2 g.2 f.3 g.3)
one_fault inputs pieces (Missing p) (Stranger q) f g = absurd
    (no_first inputs pieces g.0 g.1 f.0 g.2 (inl g.4))
one_fault inputs pieces (Missing p) (Doubled q) f g = absurd
    (no_first inputs pieces g.0 g.1 f.0 g.2 (twice_at_fault inputs g.0 g.1 q g.3 g.5))
one_fault inputs pieces (Stranger p) (Missing q) f g = absurd
    (no_first inputs pieces f.0 f.1 g.0 f.2 (inl f.4))
one_fault inputs pieces (Doubled p) (Missing q) f g = absurd
    (no_first inputs pieces f.0 f.1 g.0 f.2 (twice_at_fault inputs f.0 f.1 p f.3 f.5))
one_fault inputs pieces OutOfMemory other f g = absurd f
one_fault inputs pieces NoStamps other f g = absurd f
one_fault inputs pieces NoThread other f g = absurd f
one_fault inputs pieces error OutOfMemory f g = absurd g
one_fault inputs pieces error NoStamps f g = absurd g
one_fault inputs pieces error NoThread f g = absurd g

-- whole pieces have none

no_stranger : {A : Type 0} (inputs : List A) (pieces before : List (PieceView A))
    (piece : PieceView A) → AreWhole inputs pieces → IsFirstFaulty inputs pieces before piece
    → IsAtFault inputs before piece → ⊥
no_stranger inputs pieces before piece whole f at =
    let stands = all_at (IsOfItsInput inputs) before piece f.after
    (subst (All (IsOfItsInput inputs)) f.split whole.of_inputs) in
    let within = slice_get_within inputs piece.place piece.input stands in
    let one = ap (count_at piece.place) (sym f.split) ∙ whole.each piece.place within in
    let count = count_split before piece f.after in
    ⊎_elim (λ stranger. stranger stands) (λ doubled. omega (arith, one, count, doubled)) at

pub no_fault : {A : Type 0} (inputs : List A) (pieces : List (PieceView A)) (error : MapError)
    → AreWhole inputs pieces → IsFault inputs pieces error → ⊥
no_fault inputs pieces (Stranger p) whole f = no_stranger inputs pieces f.0 f.1 whole f.2 (inl f.4)
no_fault inputs pieces (Doubled p) whole f = no_stranger inputs pieces f.0 f.1 whole f.2
    (twice_at_fault inputs f.0 f.1 p f.3 f.5)
no_fault inputs pieces (Missing p) whole f = let one = whole.each p f.1 in let none = f.2 in omega
    (arith, one, none)
no_fault inputs pieces OutOfMemory whole f = f
no_fault inputs pieces NoStamps whole f = f
no_fault inputs pieces NoThread whole f = f

-- so an answer that is right when it comes is also the one that comes

pub comes_whole : {A X : Type 0} (inputs : List A) (pieces : List (PieceView A))
    (r : Result X MapError)
    → IfErr r (λ error. (error ≡ OutOfMemory) ⊎ IsFault inputs pieces error)
    → AreWhole inputs pieces → (r ≡ Err OutOfMemory) ⊎ IsOk r
comes_whole inputs pieces (Ok x) fault whole = inr refl
comes_whole inputs pieces (Err error) fault whole =
    ⊎_elim (λ memory. inl (ap Err memory))
    (λ is. absurd (no_fault inputs pieces error whole is)) fault

pub comes_faulty : {A X : Type 0} (inputs : List A) (pieces : List (PieceView A))
    (r : Result X MapError) (error : MapError)
    → IfOk r (λ _. AreWhole inputs pieces)
    → IfErr r (λ e. (e ≡ OutOfMemory) ⊎ IsFault inputs pieces e) → IsFault inputs pieces error
    → (r ≡ Err OutOfMemory) ⊎ (r ≡ Err error)
comes_faulty inputs pieces (Ok x) error whole fault is = absurd
    (no_fault inputs pieces error whole is)
comes_faulty inputs pieces (Err given) error whole fault is =
    ⊎_elim (λ memory. inl (ap Err memory))
    (λ other. inr (ap Err (one_fault inputs pieces given error other is))) fault
