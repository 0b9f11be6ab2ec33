-- Places that rise, and places that are claimed.
use Rattle.std.proofs.Common.{◌≡◌, ℕ, zero, suc, ◌+◌, ◌<◌, ◌≤◌, ◌==◌, ◌||◌, Bool, true, false, cond, List, [], ◌∷◌, ◌++◌, length, set, get_or, map, take, arith, refl, ap, ap₂, sym, ◌∙◌, ◌≢◌, subst, ⊎_elim, inl, inr, nat_lt, replicate}
use Rattle.std.specs.List.{All, count_by, fold, slice_index}
use Rattle.std.specs.List.Sorted.{IsStrictlyIncreasing}
use Rattle.std.proofs.lemmas.List.{get_or-map, get_or-set_same, get_or-set_other, get_or-replicate, get_or_past, length-map, length-replicate, take-map, take_more}
use Rattle.std.proofs.lemmas.List.Elements.{All-get_or}
use Rattle.std.proofs.lemmas.List.Folds.{list_any-append}
use Rattle.std.proofs.lemmas.List.Sums.{fold_push, sum_by-append}
use Rattle.std.proofs.Math.Bool.{or-false, or-true}
use Rattle.std.proofs.lemmas.Bool.{cases_lt}
use Rattle.std.proofs.lemmas.Bool.Decides.{eqb_tells, nat_tests}
use Rattle.channel_record.specs.declared.calls.Call.{Call}
use Rattle.channel_record.specs.declared.calls.Outcome.{Outcome}
use Rattle.channel_record.specs.Claims.{AddsClaims, CanClaim, IsFree, IsNext, claims_on, held}
use Rattle.channel_record.specs.Shares.{IsAt, holds, place_of}

-- ---- places that rise

-- each is above the one before, the first isn't below low, and the last is below high
abbrev pub RisesTo : ℕ → List ℕ → ℕ → Type 0
RisesTo low [] high = low ≤ high
RisesTo low (place ∷ places) high = (low ≤ place) × RisesTo (place + 1) places high

pub rises-push : (low : ℕ) (places : List ℕ) (high place : ℕ) → RisesTo low places high
    → high ≤ place → RisesTo low (places ++ place ∷ []) (place + 1)
rises-push low [] high place rises above = (omega arith, omega arith)
rises-push low (first ∷ places) high place rises above =
    (rises.0, rises-push (first + 1) places high place rises.1 above)

pub rises-strictly : (low : ℕ) (places : List ℕ) (high : ℕ) → RisesTo low places high
    → IsStrictlyIncreasing places
rises-strictly low [] high rises k below = absurd (omega arith)
rises-strictly low (first ∷ []) high rises k below = absurd (omega arith)
rises-strictly low (first ∷ second ∷ places) high rises zero below = omega (arith, rises.1.0)
rises-strictly low (first ∷ second ∷ places) high rises (suc k) below =
    let next : suc (k + 1) ≡ suc k + 1 = omega arith in
    subst (λ (j : ℕ). slice_index (first ∷ second ∷ places) (suc k)
    < slice_index (first ∷ second ∷ places) j) next
    (rises-strictly (first + 1) (second ∷ places) high rises.1 k (omega arith))

-- they end where they begin or above
rises-end : (low : ℕ) (places : List ℕ) (high : ℕ) → RisesTo low places high → low ≤ high
rises-end low [] high rises = rises
rises-end low (first ∷ places) high rises =
    let here : low ≤ first = rises.0 in
    let rest : first + 1 ≤ high = rises-end (first + 1) places high rises.1 in
    omega arith

-- a place that is above all of them is none of them
pub none_above : (low : ℕ) (places : List ℕ) (high p : ℕ) → RisesTo low places high → high ≤ p
    → holds p places ≡ false
none_above low [] high p rises above = refl
none_above low (first ∷ places) high p rises above =
    let rest : first + 1 ≤ high = rises-end (first + 1) places high rises.1 in
    let other : (first == p) ≡ false = grind (arith, nat_tests) in
    ap₂ (λ (same more : Bool). same || more) other
    (none_above (first + 1) places high p rises.1 above)

-- one more than the last of these places, and 0 behind none
abbrev pub next_of : List ℕ → ℕ
next_of places = fold (λ next place. place + 1) 0 places

pub next_of-push : (places : List ℕ) (p : ℕ) → next_of (places ++ p ∷ []) ≡ p + 1
next_of-push places p = fold_push (λ next place. place + 1) 0 places p

next_of-more : (all : List ℕ) (k : ℕ) → k + 1 < length all → IsStrictlyIncreasing all
    → next_of (take (k + 1) all) ≤ get_or all (k + 1) 0
next_of-more all k below rise =
    let last : next_of (take (k + 1) all) ≡ get_or all k 0 + 1 =
    ap next_of (take_more all k 0 (omega arith)) ∙ next_of-push (take k all) (get_or all k 0) in
    let above : get_or all k 0 < get_or all (k + 1) 0 = rise k below in
    omega (arith, last, above)

-- in a list that rises each place is above those before it
pub next_of-take : (all : List ℕ) (k : ℕ) → k < length all → IsStrictlyIncreasing all
    → next_of (take k all) ≤ get_or all k 0
next_of-take all zero below rise = omega arith
next_of-take all (suc k) below rise =
    let next : k + 1 ≡ suc k = omega arith in
    subst (λ (n : ℕ). next_of (take n all) ≤ get_or all n 0) next
    (next_of-more all k (omega arith) rise)

-- ---- numbers of flags

pub flag_down : (flag : Bool) → ◌≡◌ {A = ℕ} (cond flag 1 0) 0 → flag ≡ false
flag_down true none = absurd (omega arith)
flag_down false none = refl

pub flag_up : (flag : Bool) → ◌≡◌ {A = ℕ} (cond flag 1 0) 1 → flag ≡ true
flag_up true one = refl
flag_up false one = absurd (omega arith)

-- ---- one place more is claimed

holds-push : (place p : ℕ) (places : List ℕ)
    → holds place (places ++ p ∷ []) ≡ (holds place places || ((p == place) || false))
holds-push place p places = list_any-append (λ other. other == place) places (p ∷ [])

pub claims-more : (old claimed : List Bool) (places : List ℕ) (p : ℕ) → IsFree claimed p
    → AddsClaims old claimed places → AddsClaims old (set claimed p true) (places ++ p ∷ [])
claims-more old claimed places p free adds place =
    let before = adds place in
    ⊎_elim
    (λ same.
    let here : get_or (set claimed p true) place false ≡ true =
    subst (λ (k : ℕ). get_or (set claimed p true) k false ≡ true) same.1
    (get_or-set_same claimed p true false free.within) in
    let was : get_or claimed place false ≡ false =
    subst (λ (k : ℕ). get_or claimed k false ≡ false) same.1 free.unclaimed in
    let none : claims_on claimed place ≡ 0 = rw was refl in
    let one : held place (places ++ p ∷ []) ≡ 1 =
    ap (λ among. cond among 1 0) (holds-push place p places
    ∙ ap (λ same. holds place places || (same || false)) same.0
    ∙ or-true (holds place places)) in
    let yes : claims_on (set claimed p true) place ≡ 1 = ap (λ b. cond b 1 0) here in
    omega (arith, none, one, yes, before))
    (λ other.
    let away : place ≢ p = λ e. other.1 (sym e) in
    let still : held place (places ++ p ∷ []) ≡ held place places =
    ap (λ among. cond among 1 0) (holds-push place p places
    ∙ ap (λ same. holds place places || (same || false)) other.0
    ∙ or-false (holds place places)) in
    let same : claims_on (set claimed p true) place ≡ claims_on claimed place =
    ap (λ b. cond b 1 0) (get_or-set_other claimed p place true false away) in
    omega (arith, still, same, before))
    (eqb_tells p place)

-- what is free now was free before
pub was_free : (old claimed : List Bool) (places : List ℕ) (p : ℕ) → length claimed ≡ length old
    → AddsClaims old claimed places → IsFree claimed p → IsFree old p
was_free old claimed places p long adds free =
    let none : claims_on claimed p ≡ 0 = ap (λ flag. cond flag 1 0) free.unclaimed in
    let sum = adds p in
    record {
      within = omega (arith, free.within);
      unclaimed = flag_down (get_or old p false) (omega (arith, none, sum));
    }

-- what was free before and is none of the places is free now
still_free : (old claimed : List Bool) (places : List ℕ) (p : ℕ) → length claimed ≡ length old
    → AddsClaims old claimed places → holds p places ≡ false → IsFree old p → IsFree claimed p
still_free old claimed places p long adds away free =
    let none : claims_on old p ≡ 0 = ap (λ flag. cond flag 1 0) free.unclaimed in
    let out : held p places ≡ 0 = ap (λ flag. cond flag 1 0) away in
    let sum = adds p in
    record {
      within = omega (arith, free.within);
      unclaimed = flag_down (get_or claimed p false) (omega (arith, none, out, sum));
    }

-- An entry that is refused its place behind claims of those before it refutes that all of them can be made.
pub refused_entry : {T : Type 0} (history : List (Call T × Outcome T)) (old claimed : List Bool)
    (entries : List (ℕ × Call T × Outcome T)) (k : ℕ) (entry : ℕ × Call T × Outcome T)
    (places : List ℕ) (low : ℕ)
    → k < length entries → entry ≡ get_or entries k entry → length claimed ≡ length old
    → places ≡ map place_of (take k entries) → RisesTo 0 places low → low ≡ next_of places
    → AddsClaims old claimed places
    → ¬ IsNext history claimed low entry → ¬ CanClaim history old entries
refused_entry {T} history old claimed entries k entry places low within is long front rises next adds bad can =
    let all : List ℕ = map place_of entries in
    let here : get_or all k 0 ≡ entry.0 =
    get_or-map place_of entries k entry 0 within ∙ sym (ap place_of is) in
    let before : next_of (take k all) ≡ low =
    ap next_of (take-map place_of k entries ∙ sym front) ∙ sym next in
    let count : length all ≡ length entries = length-map entries place_of in
    let above : next_of (take k all) ≤ get_or all k 0 = next_of-take all k (omega arith) can.rise in
    let is_above : low ≤ entry.0 = omega (arith, here, before, above) in
    bad record {
      rises = is_above;
      free = still_free old claimed places entry.0 long adds
          (none_above 0 places low entry.0 rises is_above)
          (subst (λ (e : ℕ × Call T × Outcome T). IsFree old (place_of e)) (sym is) (can.free k entry within));
      agrees = subst (λ (e : ℕ × Call T × Outcome T). IsAt history e) (sym is) (can.agree k entry within);
    }

-- ---- one list more is claimed

pub lists-more : (old claimed : List Bool) (lists : List (List ℕ)) (list : List ℕ)
    → ((place : ℕ) → count_by (holds place) lists ≡ claims_on old place)
    → AddsClaims old claimed list
    → (place : ℕ) → count_by (holds place) (lists ++ list ∷ []) ≡ claims_on claimed place
lists-more old claimed lists list sums adds place =
    let o = sums place in
    let n = adds place in
    let more = sum_by-append (λ places. cond (holds place places) 1 0) lists (list ∷ []) in
    omega (arith, more, o, n)

-- nothing is claimed at first
pub none_claimed : (n place : ℕ) → claims_on (replicate n false) place ≡ 0
none_claimed n place =
    elim (cases_lt place n) [
      | inl below ↦ ap (λ b. cond b 1 0) (get_or-replicate n place false false below)
      | inr past ↦ ap (λ b. cond b 1 0) (get_or_past (replicate n false) place false
          (omega (arith, length-replicate n false)))
    ]

-- if all places are claimed, each is claimed once
pub all_once : (claimed : List Bool) (n place : ℕ) → length claimed ≡ n
    → All (λ flag. flag ≡ true) claimed → claims_on claimed place ≡ cond (nat_lt place n) 1 0
all_once claimed n place long all =
    elim (cases_lt place n) [
      | inl below ↦
          let yes : nat_lt place n ≡ true = grind (arith, nat_tests) in
          rw yes (ap (λ b. cond b 1 0) (All-get_or (λ (flag : Bool). flag ≡ true) claimed place false
          (omega arith) all))
      | inr past ↦
          let no : nat_lt place n ≡ false = grind (arith, nat_tests) in
          rw no (ap (λ b. cond b 1 0) (get_or_past claimed place false (omega arith)))
    ]
