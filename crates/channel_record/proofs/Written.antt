-- What shows that a history is what the clerks wrote down, and what refutes it.
use Rattle.std.proofs.Common.{◌≡◌, ◌==◌, ℕ, ◌+◌, ◌<◌, ◌≤◌, Bool, true, false, cond, List, [], length, get_or, map, take, arith, ap, sym, ◌∙◌, subst, nat_lt, eq-eqb}
use Rattle.std.specs.List.{All, count_by}
use Rattle.std.specs.List.Sorted.{IsStrictlyIncreasing}
use Rattle.std.proofs.lemmas.List.{get_or-map, get_or_default, length-map, take-map}
use Rattle.std.proofs.lemmas.List.Folds.{list_any_at}
use Rattle.std.proofs.lemmas.List.Sums.{sum_by_more_le}
use Rattle.std.proofs.lemmas.Bool.Decides.{nat_tests}
use Rattle.std.proofs.lemmas.Option.{slice_get_within}
use Rattle.channel_record.specs.declared.calls.Call.{Call}
use Rattle.channel_record.specs.declared.calls.Outcome.{Outcome}
use Rattle.channel_record.specs.Claims.{CanClaim, IsFree, claims_on, held}
use Rattle.channel_record.specs.Shares.{AgreesWith, AreShares, ClerkView, IsAt, IsWrittenDown, holds, place_of, places_of}
use Rattle.channel_record.proofs.Claims.{all_once, flag_down, flag_up}

-- each place is claimed as often as it is told in the lists
abbrev pub Counts : List (List ℕ) → List Bool → Type 0
Counts lists claimed = (place : ℕ) → count_by (holds place) lists ≡ claims_on claimed place

-- the place of an entry is among those of its clerk
among_at : {T : Type 0} (entries : List (ℕ × Call T × Outcome T)) (k : ℕ)
    (d : ℕ × Call T × Outcome T) → k < length entries
    → holds (place_of (get_or entries k d)) (map place_of entries) ≡ true
among_at entries k d below =
    let p : ℕ = place_of (get_or entries k d) in
    let here : get_or (map place_of entries) k 0 ≡ p = get_or-map place_of entries k d 0 below in
    let count : length (map place_of entries) ≡ length entries = length-map entries place_of in
    list_any_at (λ other. other == p) (map place_of entries) k 0 (omega arith)
    (eq-eqb (get_or (map place_of entries) k 0) p here)

-- a place that is told once, by one of the lists, is told by none before it
once_before : (all : List (List ℕ)) (j p : ℕ) → j < length all
    → holds p (get_or all j []) ≡ true → count_by (holds p) all ≡ 1
    → count_by (holds p) (take j all) ≡ 0
once_before all j p within among once =
    let part : count_by (holds p) (take j all) + held p (get_or all j []) ≤ count_by (holds p) all =
    sum_by_more_le (λ places. cond (holds p places) 1 0) all j [] within in
    let one : held p (get_or all j []) ≡ 1 = ap (λ flag. cond flag 1 0) among in
    omega (arith, part, one, once)

-- of shares, what one list has is free while those before it alone are claimed
free_place : (all : List (List ℕ)) (j p n : ℕ) (claimed : List Bool) → j < length all → p < n
    → holds p (get_or all j []) ≡ true → length claimed ≡ n → AreShares n all
    → Counts (take j all) claimed → IsFree claimed p
free_place all j p n claimed within below among long shares counts =
    let yes : nat_lt p n ≡ true = grind (arith, nat_tests) in
    let once : count_by (holds p) all ≡ 1 = shares.in_one p ∙ ap (λ flag. cond flag 1 0) yes in
    let none : count_by (holds p) (take j all) ≡ 0 = once_before all j p within among once in
    let sum = counts p in
    record {
      within = omega arith;
      unclaimed = flag_down (get_or claimed p false) (omega (arith, none, sum));
    }

-- A clerk that can't claim its places behind those before it refutes that the clerks wrote the history down.
pub refused_clerk : {T : Type 0} (history : List (Call T × Outcome T)) (clerks : List (ClerkView T))
    (j : ℕ) (clerk : ClerkView T) (claimed : List Bool) (lists : List (List ℕ))
    → j < length clerks → clerk ≡ get_or clerks j clerk → length claimed ≡ length history
    → lists ≡ map places_of (take j clerks) → Counts lists claimed
    → ¬ CanClaim history claimed clerk.entries → ¬ IsWrittenDown history clerks
refused_clerk {T} history clerks j clerk claimed lists within is long front counts bad written =
    let all : List (List ℕ) = map places_of clerks in
    let count : length all ≡ length clerks = length-map clerks places_of in
    let here : get_or all j [] ≡ places_of clerk =
    get_or-map places_of clerks j clerk [] within ∙ sym (ap places_of is) in
    let before : lists ≡ take j all = front ∙ sym (take-map places_of j clerks) in
    let agrees : All (IsAt history) clerk.entries =
    subst (λ (c : ClerkView T). AgreesWith history c) (sym is) (written.agree j clerk within) in
    bad record {
      agree = agrees;
      rise = subst (λ (places : List ℕ). IsStrictlyIncreasing places) here
          (written.shares.rising j [] (omega arith));
      free = λ k d below.
          let entry : ℕ × Call T × Outcome T = get_or clerk.entries k d in
          free_place all j (place_of entry) (length history) claimed (omega arith)
          (slice_get_within history (place_of entry) (entry.1, entry.2) (agrees k d below))
          (subst (λ (places : List ℕ). holds (place_of entry) places ≡ true) (sym here)
          (among_at clerk.entries k d below))
          long written.shares
          (subst (λ (ls : List (List ℕ)). Counts ls claimed) before counts);
    }

-- So does a place that nobody has claimed in the end.
pub refused_end : {T : Type 0} (history : List (Call T × Outcome T)) (clerks : List (ClerkView T))
    (claimed : List Bool) (lists : List (List ℕ)) → length claimed ≡ length history
    → lists ≡ map places_of clerks → Counts lists claimed
    → ¬ All (λ flag. flag ≡ true) claimed → ¬ IsWrittenDown history clerks
refused_end history clerks claimed lists long front counts bad written = bad (λ k d below.
    let yes : nat_lt k (length history) ≡ true = grind (arith, nat_tests) in
    let once : count_by (holds k) (map places_of clerks) ≡ 1 =
    written.shares.in_one k ∙ ap (λ flag. cond flag 1 0) yes in
    let told : count_by (holds k) (map places_of clerks) ≡ claims_on claimed k =
    subst (λ (ls : List (List ℕ)). count_by (holds k) ls ≡ claims_on claimed k) front (counts k) in
    get_or_default claimed k d false below ∙ flag_up (get_or claimed k false) (sym told ∙ once))

-- If all places are claimed, by lists that rise and entries at their places, the clerks wrote the history down.
pub written_down : {T : Type 0} (history : List (Call T × Outcome T)) (clerks : List (ClerkView T))
    (claimed : List Bool) (lists : List (List ℕ)) → length claimed ≡ length history
    → lists ≡ map places_of clerks → Counts lists claimed
    → All (λ flag. flag ≡ true) claimed → All IsStrictlyIncreasing lists
    → All (AgreesWith history) clerks → IsWrittenDown history clerks
written_down history clerks claimed lists long front counts up rise agree = record {
  shares = subst (λ (ls : List (List ℕ)). AreShares (length history) ls) front (record {
    in_one = λ place. counts place ∙ all_once claimed (length history) place long up;
    rising = rise;
  });
  agree = agree;
}
