-- The orders that a search has handed over, and those that are left.
use Rattle.std.proofs.Common.{◌≡◌, ℕ, zero, suc, ◌+◌, ◌<◌, ◌≤◌, List, [], ◌∷◌, ◌++◌, length, take, take_at, length-append, Option, None, Some, refl, ap, sym, ◌∙◌, append_assoc, arith, Bool, true, false, true≢false}
use Rattle.chanexplore.specs.declared.party.Act.{Act}
use Rattle.chanexplore.specs.declared.search.Choice.{Choice}
use Rattle.chanexplore.specs.declared.party.Turn.{Turn}
use Rattle.chanexplore.specs.Orders.{Moment, begun_with, orders_by, orders_of, turns_from}
use Rattle.chanexplore.specs.Trail.{IsNext, Spot, Tree, begun, behind_all}
use Rattle.channel_model.specs.declared.step.Kind.{Kind}
use Rattle.chanexplore.specs.Searches.{HasSearched}
use Rattle.std.specs.Prelude.{min, IfErr, MatchOption, is_some, not}
use Rattle.std.proofs.Common.{Result, Ok, Err}
use Rattle.std.proofs.Math.Nat.{min-eq_left, min-eq_right}

-- all that was handed over is a front of all orders
pub front : (done left all : List (List Turn)) → done ++ left ≡ all → take (length done) all ≡ done
front done left all is = ap (take (length done)) (sym is) ∙ take_at done left (length done) refl

pub front_of : (done left all : List (List Turn)) (made : ℕ) → done ++ left ≡ all → length done ≡ made → take made all ≡ done
front_of done left all made is count = ap (λ n. take n all) (sym count) ∙ front done left all is

-- one more order is handed over
pub one_more : (done left rest all : List (List Turn)) (order : List Turn) (made : ℕ) → done ++ left ≡ all → left ≡ order ∷ rest → length done ≡ made
    → ((done ++ order ∷ []) ++ rest ≡ all) × (length (done ++ order ∷ []) ≡ made + 1)
one_more done left rest all order made is first count = (
  append_assoc done (order ∷ []) rest ∙ ap (λ os. done ++ os) (sym first) ∙ is,
  omega (arith, length-append done (order ∷ []), count),
)

pub counted : (done left all : List (List Turn)) → done ++ left ≡ all → length done + length left ≡ length all
counted done left all is = sym (length-append done left) ∙ ap length is

-- From each moment there is an order.
some_order : (kind : Kind) (lines : List (List Act)) (more : ℕ) (moment : Moment)
    → (order : List Turn) × (orders : List (List Turn)) × (orders_of kind lines more moment ≡ order ∷ orders)
some_order kind lines zero moment = ([], [], refl)
some_order kind lines (suc more) moment = opening (turns_from kind lines moment 0) (some_order kind lines more)
  where
    opening : (nexts : List (Turn × Moment))
        → ((at : Moment) → (order : List Turn) × (orders : List (List Turn)) × (orders_of kind lines more at ≡ order ∷ orders))
        → (order : List Turn) × (orders : List (List Turn)) × (orders_by (orders_of kind lines more) nexts ≡ order ∷ orders)
    opening [] from = ([], [], refl)
    opening (next ∷ nexts) from =
        let one = from next.1 in
        (next.0 ∷ one.0, behind_all (next.0 ∷ []) one.1 ++ begun_with (orders_of kind lines more) nexts, ap (λ os. behind_all (next.0 ∷ []) os ++ begun_with (orders_of kind lines more) nexts) one.2)

-- If a party is to go on, an order is left.
pub one_left : (tree : Tree) (party : ℕ) (choices : List Choice) (orders : List (List Turn)) → IsNext tree party choices orders
    → 1 ≤ length orders
one_left tree party choices orders is =
    let one = some_order tree.kind tree.parties is.more is.next.1 in
    let nexts = begun tree is.more (turns_from tree.kind tree.parties is.spot.moment (party + 1)) in
    let first : orders ≡ (is.turns ++ is.next.0 ∷ one.0) ∷ (behind_all is.turns (behind_all (is.next.0 ∷ []) one.1 ++ nexts) ++ is.spot.left)
    = is.left ∙ ap (λ os. behind_all is.turns (behind_all (is.next.0 ∷ []) os ++ nexts) ++ is.spot.left) one.2 in
    rw first (omega arith)

-- Nothing is left: the orders that were made are all.
pub whole_search : (done left all : List (List Turn)) (made limit : ℕ) → done ++ left ≡ all → left ≡ [] → length done ≡ made → made ≤ limit
    → HasSearched all limit (record { orders = made; whole = true })
whole_search done left all made limit is none count within =
    let all_made : length all ≡ made = omega (arith, counted done left all is, ap length none, count) in
    record { count = sym (ap (min limit) all_made ∙ min-eq_right within); whole = (λ yes. omega (arith, all_made, within), λ less. refl) }

-- Something is left: the limit stands before it.
pub part_search : (done left all : List (List Turn)) (made limit : ℕ) → done ++ left ≡ all → 1 ≤ length left → length done ≡ made → made ≡ limit
    → HasSearched all limit (record { orders = made; whole = false })
part_search done left all made limit is some count same =
    let more : limit < length all = omega (arith, counted done left all is, some, count, same) in
    record { count = same ∙ sym (min-eq_left (omega (arith, more))); whole = (λ yes. absurd (true≢false (sym yes)), λ less. absurd (omega (arith, more, less))) }

-- the limit is reached
pub searched : (tree : Tree) (spot : Spot) (done all : List (List Turn)) (made limit : ℕ) (party : Option ℕ) (choices : List Choice) (none : Bool)
    → done ++ spot.left ≡ all → length done ≡ made → made ≡ limit
    → MatchOption party (spot.left ≡ []) (λ p. IsNext tree p choices spot.left) → is_some party ≡ not none
    → HasSearched all limit (record { orders = made; whole = none })
searched tree spot done all made limit None choices true is count same next some = whole_search done spot.left all made limit is next count (omega (arith, same))
searched tree spot done all made limit None choices false is count same next some = absurd (true≢false (sym some))
searched tree spot done all made limit (Some p) choices true is count same next some = absurd (true≢false some)
searched tree spot done all made limit (Some p) choices false is count same next some =
    part_search done spot.left all made limit is (one_left tree p choices spot.left next) count same

pub if_err : {A E : Type 0} (result : Result A E) (P : E → Type 0) → ((e : E) → P e) → IfErr result P
if_err (Ok value) P holds = record {}
if_err (Err e) P holds = holds e
