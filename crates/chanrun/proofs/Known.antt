-- Known bytes, one call after another.
use Rattle.std.proofs.Common.{◌≡◌, ℕ, ◌<◌, ◌≤◌, ◌==◌, ◌&&◌, not, cond, true, false, List, [], ◌∷◌, ◌++◌, length, take, drop, min, Some, None, Option, refl, ap, sym, ◌∙◌, subst, arith}
use Rattle.std.proofs.lemmas.List.{append-nil, append_assoc, take_at, take_min, take-append-le, take-append-drop}
use Rattle.std.proofs.lemmas.Bool.Decides.{nat_tests}
use Rattle.std.specs.Io.KnownBytes.{Consumes, Appends, Keeps}
use Rattle.chanrun.specs.Device.{AppendsFront, one_more}

pub appends_none : (known : Option (List ℕ)) → Appends known known []
appends_none None = tt
appends_none (Some xs) = sym (append-nil xs)

pub appends_more : (a b c : Option (List ℕ)) (xs ys : List ℕ) → Appends a b xs → Appends b c ys → Appends a c (xs ++ ys)
appends_more None b c xs ys h k = tt
appends_more (Some p) None c xs ys h k = absurd h
appends_more (Some p) (Some q) None xs ys h k = absurd k
appends_more (Some p) (Some q) (Some r) xs ys h k = k ∙ (ap (λ zs. zs ++ ys) h ∙ append_assoc p xs ys)

pub appends_kept : (a b c : Option (List ℕ)) (xs : List ℕ) → Appends a b xs → Keeps b c → Appends a c xs
appends_kept None b c xs h k = tt
appends_kept (Some p) None c xs h k = absurd h
appends_kept (Some p) (Some q) None xs h k = absurd k
appends_kept (Some p) (Some q) (Some r) xs h k = k ∙ h

pub consumes_none : (known : Option (List ℕ)) → Consumes known known []
consumes_none None = tt
consumes_none (Some xs) = refl

pub consumes_more : (a b c : Option (List ℕ)) (xs ys : List ℕ) → Consumes a b xs → Consumes b c ys
    → Consumes a c (xs ++ ys)
consumes_more None b c xs ys h k = tt
consumes_more (Some p) None c xs ys h k = absurd h
consumes_more (Some p) (Some q) None xs ys h k = absurd k
consumes_more (Some p) (Some q) (Some r) xs ys h k = h ∙ (ap (λ zs. xs ++ zs) k ∙ sym (append_assoc xs ys r))

-- a part was written, and then a part of the rest
pub written_more : (a b c : Option (List ℕ)) (text done rest : List ℕ) (n : ℕ) → done ++ rest ≡ text
    → Appends a b done → Appends b c (take n rest)
    → (more : List ℕ) × (more ++ drop n rest ≡ text) × Appends a c more
written_more a b c text done rest n e h k =
    (done ++ take n rest, append_assoc done (take n rest) (drop n rest) ∙ (ap (λ zs. done ++ zs) (take-append-drop n rest) ∙ e), appends_more a b c done (take n rest) h k)

-- what was written is a front of the text
pub front_of : (a b : Option (List ℕ)) (text done rest : List ℕ) → done ++ rest ≡ text → Appends a b done
    → AppendsFront a b text
front_of a b text done rest e h =
    (length done, subst (λ (zs : List ℕ). Appends a b zs) (sym (ap (take (length done)) (sym e) ∙ take_at done rest (length done) refl)) h)

pub front_more : (a b : Option (List ℕ)) (xs ys : List ℕ) → AppendsFront a b xs → AppendsFront a b (xs ++ ys)
front_more a b xs ys h =
    let low : min h.0 (length xs) ≤ length xs = omega arith in
    (min h.0 (length xs), subst (λ (zs : List ℕ). Appends a b zs) (sym (take-append-le (min h.0 (length xs)) xs ys low ∙ take_min h.0 xs)) h.1)

-- a part was written, and then a front of the rest
pub front_behind : (a b c : Option (List ℕ)) (xs ys : List ℕ) → Appends a b xs → AppendsFront b c ys
    → AppendsFront a c (xs ++ ys)
front_behind a b c xs ys h k =
    front_of a c (xs ++ ys) (xs ++ take k.0 ys) (drop k.0 ys) (append_assoc xs (take k.0 ys) (drop k.0 ys) ∙ ap (λ zs. xs ++ zs) (take-append-drop k.0 ys)) (appends_more a b c xs (take k.0 ys) h k.1)

-- a write that took some bytes isn't a failure, and one that took none of some is
pub took_some : (count offered old new : ℕ) → 0 < count
    → new ≡ cond ((count == 0) && not (offered == 0)) (one_more old) old → new ≡ old
took_some count offered old new some is =
    let test : (count == 0) ≡ false = grind (arith, nat_tests) in
    rw test at is

pub took_none : (count offered old new : ℕ) → count ≤ 0 → (offered == 0) ≡ false
    → new ≡ cond ((count == 0) && not (offered == 0)) (one_more old) old → new ≡ one_more old
took_none count offered old new none there is =
    let test : (count == 0) ≡ true = grind (arith, nat_tests) in
    rw (test, there) at is

-- a list without items
pub nothing_left : {X : Type 0} (xs : List X) → length xs ≡ 0 → xs ≡ []
nothing_left [] none = refl
nothing_left (x ∷ xs) none = absurd (omega (arith, none))
