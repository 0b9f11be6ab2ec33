-- How the choices of a search lead from moment to moment, and which orders they leave.
use Rattle.std.proofs.Common.{◌≡◌, ℕ, zero, suc, ◌+◌, ◌^◌, ◌<◌, ◌≤◌, List, [], ◌∷◌, ◌++◌, length, get_or, drop, drop-cons, Option, None, Some, refl, ap, sym, ◌∙◌, subst, append_assoc, append-nil, arith}
use Rattle.chanexplore.specs.declared.party.Act.{Act}
use Rattle.chanexplore.specs.declared.search.Choice.{Choice}
use Rattle.chanexplore.specs.declared.party.Turn.{Turn}
use Rattle.chanexplore.specs.declared.party.Place.{Place}
use Rattle.chanexplore.specs.Orders.{Moment, orders_by, orders_of, turn_of, turns_from}
use Rattle.chanexplore.specs.Trail.{HasGone, IsAt, IsEnd, IsFirst, IsNext, IsOf, Leads, Spot, Stands, Tree, begun, begun_behind, behind_all, due_at, tree_of}
use Rattle.channel_model.specs.View.{View}
use Rattle.channel_model.specs.Past.{Past}
use Rattle.channel_model.specs.declared.step.Kind.{Kind}
use Rattle.std.specs.Prelude.{unwrap_or}

-- ---- turns before orders

pub behind_none : (orders : List (List Turn)) → behind_all [] orders ≡ orders
behind_none [] = refl
behind_none (order ∷ orders) = ap (λ os. order ∷ os) (behind_none orders)

pub behind_both : (xs ys : List Turn) (orders : List (List Turn)) → behind_all (xs ++ ys) orders ≡ behind_all xs (behind_all ys orders)
behind_both xs ys [] = refl
behind_both xs ys (order ∷ orders) =
    ap (λ o. o ∷ behind_all (xs ++ ys) orders) (append_assoc xs ys order) ∙ ap (λ os. (xs ++ (ys ++ order)) ∷ os) (behind_both xs ys orders)

pub behind_append : (xs : List Turn) (os ps : List (List Turn)) → behind_all xs (os ++ ps) ≡ behind_all xs os ++ behind_all xs ps
behind_append xs [] ps = refl
behind_append xs (order ∷ os) ps = ap (λ qs. (xs ++ order) ∷ qs) (behind_append xs os ps)

no_less : (m : ℕ) → suc m ≡ zero → ⊥
no_less m e = omega (arith, e)

-- ---- one choice more

-- how the orders that are left grow by those that another party's turn begins
grown : (turn : Turn) (turns : List Turn) (now later behind left : List (List Turn))
    → left ≡ behind_all (turn ∷ []) later ++ behind
    → behind_all (turn ∷ turns) now ++ left ≡ behind_all (turn ∷ []) (behind_all turns now ++ later) ++ behind
grown turn turns now later behind left is =
    ap (λ os. behind_all (turn ∷ turns) now ++ os) is
    ∙ sym (append_assoc (behind_all (turn ∷ turns) now) (behind_all (turn ∷ []) later) behind)
    ∙ ap (λ os. os ++ behind_all (turn ∷ []) later ++ behind) (behind_both (turn ∷ []) turns now)
    ∙ ap (λ os. os ++ behind) (sym (behind_append (turn ∷ []) (behind_all turns now) later))

one_some : {A : Type 0} (x y : A) → Some x ≡ Some y → x ≡ y
one_some x y e = ap (λ o. unwrap_or o x) e

pub leads_more : (tree : Tree) (n : ℕ) (s : Moment) (cs : List Choice) (ts : List Turn) (m : ℕ) (here : Moment) (left : List (List Turn)) (c : Choice) (t : Turn) (after : Moment)
    → Leads tree n s cs ts (suc m) here left
    → turn_of tree.kind tree.parties here c.party ≡ Some (t, after)
    → IsFirst tree.kind tree.parties here (c.party + 1) c.next
    → Leads tree n s (cs ++ c ∷ []) (ts ++ t ∷ []) m after (behind_all ts (begun_behind tree m here c.party) ++ left)
leads_more tree zero s [] [] m here left c t after h e f = absurd (no_less m h.0)
leads_more tree (suc n) s [] [] m here left c t after h e f =
    let same : m ≡ n = omega (arith, h.0) in (
      after,
      [],
      rw (sym h.1) e,
      rw (sym h.1) f,
      (same, refl, refl),
      ap (λ os. behind_all [] (begun_behind tree m here c.party) ++ os) h.2 ∙ append-nil _ ∙ behind_none _ ∙ ap (λ k. begun_behind tree k here c.party) same ∙ ap (λ at. begun_behind tree n at c.party) h.1,
    )
leads_more tree zero s [] (x ∷ ts) m here left c t after h e f = absurd h
leads_more tree (suc n) s [] (x ∷ ts) m here left c t after h e f = absurd h
leads_more tree zero s (d ∷ cs) [] m here left c t after h e f = absurd h
leads_more tree (suc n) s (d ∷ cs) [] m here left c t after h e f = absurd h
leads_more tree zero s (d ∷ cs) (x ∷ ts) m here left c t after h e f = absurd h
leads_more tree (suc n) s (d ∷ cs) (x ∷ ts) m here left c t after h e f = (
  h.0,
  behind_all ts (begun_behind tree m here c.party) ++ h.1,
  h.2,
  h.3,
  leads_more tree n h.0 cs ts m here h.1 c t after h.4 e f,
  grown x ts (begun_behind tree m here c.party) h.1 (begun_behind tree n s d.party) left h.5,
)

-- ---- one choice less

-- what the last choice was made at
pub record Last (tree : Tree) (n : ℕ) (s : Moment) (cs : List Choice) (c : Choice) (m : ℕ) (left : List (List Turn)) : Type 0 where
  pub turns : List Turn
  pub here : Moment
  pub later : List (List Turn)
  pub leads : Leads tree n s cs turns (suc m) here later
  pub first : IsFirst tree.kind tree.parties here (c.party + 1) c.next
  pub is : left ≡ behind_all turns (begun_behind tree m here c.party) ++ later

pub leads_less : (tree : Tree) (n : ℕ) (s : Moment) (cs : List Choice) (c : Choice) (ts : List Turn) (m : ℕ) (there : Moment) (left : List (List Turn))
    → Leads tree n s (cs ++ c ∷ []) ts m there left
    → Last tree n s cs c m left
leads_less tree zero s [] c [] m there left h = absurd h
leads_less tree zero s [] c (t ∷ ts) m there left h = absurd h
leads_less tree (suc n) s [] c [] m there left h = absurd h
leads_less tree (suc n) s [] c (t ∷ []) m there left h =
    record {
      turns = [];
      here = s;
      later = [];
      leads = (ap suc h.4.0, refl, refl);
      first = h.3;
      is = h.5 ∙ ap (λ os. behind_all (t ∷ []) os ++ begun_behind tree n s c.party) h.4.2 ∙ ap (λ k. begun_behind tree k s c.party) (sym h.4.0) ∙ sym (append-nil _ ∙ behind_none _);
    }
leads_less tree (suc n) s [] c (t ∷ u ∷ ts) m there left h = absurd h.4
leads_less tree zero s (d ∷ cs) c [] m there left h = absurd h
leads_less tree zero s (d ∷ cs) c (t ∷ ts) m there left h = absurd h
leads_less tree (suc n) s (d ∷ cs) c [] m there left h = absurd h
leads_less tree (suc n) s (d ∷ cs) c (t ∷ ts) m there left h =
    let last = leads_less tree n h.0 cs c ts m there h.1 h.4 in
    record {
      turns = t ∷ last.turns;
      here = last.here;
      later = behind_all (t ∷ []) last.later ++ begun_behind tree n s d.party;
      leads = (h.0, last.later, h.2, h.3, last.leads, refl);
      first = last.first;
      is = h.5 ∙ ap (λ os. behind_all (t ∷ []) os ++ begun_behind tree n s d.party) last.is
          ∙ sym (grown t last.turns (begun_behind tree m last.here c.party) last.later (begun_behind tree n s d.party) _ refl);
    }

-- ---- how many turns may come

pub leads_deep : (tree : Tree) (n : ℕ) (s : Moment) (cs : List Choice) (ts : List Turn) (m : ℕ) (here : Moment) (left : List (List Turn))
    → Leads tree n s cs ts m here left → length cs + m ≡ n
leads_deep tree zero s [] [] m here left h = omega (arith, h.0)
leads_deep tree (suc n) s [] [] m here left h = omega (arith, h.0)
leads_deep tree zero s [] (x ∷ ts) m here left h = absurd h
leads_deep tree (suc n) s [] (x ∷ ts) m here left h = absurd h
leads_deep tree zero s (d ∷ cs) [] m here left h = absurd h
leads_deep tree (suc n) s (d ∷ cs) [] m here left h = absurd h
leads_deep tree zero s (d ∷ cs) (x ∷ ts) m here left h = absurd h
leads_deep tree (suc n) s (d ∷ cs) (x ∷ ts) m here left h = omega (arith, leads_deep tree n h.0 cs ts m here h.1 h.4)

-- ---- the search's steps

-- If nobody can go on, the turns so far are an order.
pub ended : (tree : Tree) (spot : Spot) (turns : List Turn) → turns_from tree.kind tree.parties spot.moment 0 ≡ []
    → due_at tree turns spot ≡ turns ∷ spot.left
ended tree spot turns none =
    ap (λ os. behind_all turns os ++ spot.left) (one spot.more)
    ∙ ap (λ o. o ∷ spot.left) (append-nil turns)
  where
    one : (more : ℕ) → orders_of tree.kind tree.parties more spot.moment ≡ [] ∷ []
    one zero = refl
    one (suc more) = ap (orders_by (orders_of tree.kind tree.parties more)) none

-- If somebody can, the orders are those that begin with the turns that can be next.
pub opened : (tree : Tree) (spot : Spot) (turns : List Turn) (more : ℕ) (next : Turn × Moment) (nexts : List (Turn × Moment))
    → spot.more ≡ suc more → turns_from tree.kind tree.parties spot.moment 0 ≡ next ∷ nexts
    → due_at tree turns spot ≡ behind_all turns (begun tree more (next ∷ nexts)) ++ spot.left
opened tree spot turns more next nexts deeper is =
    ap (λ n. behind_all turns (orders_of tree.kind tree.parties n spot.moment) ++ spot.left) deeper
    ∙ ap (λ ns. behind_all turns (orders_by (orders_of tree.kind tree.parties more) ns) ++ spot.left) is

-- The first of these turns is had: the orders that begin with the others are left.
pub entered : (tree : Tree) (turns : List Turn) (more : ℕ) (turn : Turn) (after : Moment) (nexts : List (Turn × Moment)) (left : List (List Turn))
    → behind_all turns (begun tree more ((turn, after) ∷ nexts)) ++ left
    ≡ behind_all (turns ++ turn ∷ []) (orders_of tree.kind tree.parties more after) ++ (behind_all turns (begun tree more nexts) ++ left)
entered tree turns more turn after nexts left =
    ap (λ os. os ++ left) (behind_append turns (behind_all (turn ∷ []) (orders_of tree.kind tree.parties more after)) (begun tree more nexts)
    ∙ ap (λ os. os ++ behind_all turns (begun tree more nexts)) (sym (behind_both turns (turn ∷ []) (orders_of tree.kind tree.parties more after))))
    ∙ append_assoc (behind_all (turns ++ turn ∷ []) (orders_of tree.kind tree.parties more after)) (behind_all turns (begun tree more nexts)) left

-- a choice, and the turn that it made
pub chosen : (tree : Tree) (spot : Spot) (more : ℕ) (next : Turn × Moment) (choices : List Choice) (turns : List Turn) (party : ℕ) (behind : Option ℕ) (turn : Turn) (run : View ℕ) (places : List Place)
    → IsAt tree spot choices turns
    → spot.more ≡ suc more → turn_of tree.kind tree.parties spot.moment party ≡ Some next
    → IsFirst tree.kind tree.parties spot.moment (party + 1) behind
    → HasGone tree.kind tree.parties spot.moment party (Some turn) run places
    → (after : Spot) × IsAt tree after (choices ++ record { party = party; next = behind } ∷ []) (turns ++ turn ∷ [])
    × Stands tree.kind after.moment run places
    × (behind_all turns (begun tree more (next ∷ turns_from tree.kind tree.parties spot.moment (party + 1))) ++ spot.left ≡ due_at tree (turns ++ turn ∷ []) after)
chosen tree spot more next choices turns party behind turn run places at deeper can first went =
    let after : Spot = record { more = more; moment = went.0; left = behind_all turns (begun_behind tree more spot.moment party) ++ spot.left } in
    let same : next ≡ (turn, went.0) = one_some next (turn, went.0) (sym can ∙ went.1) in (
      after,
      leads_more tree tree.most tree.first choices turns more spot.moment spot.left (record { party = party; next = behind }) turn went.0 (rw deeper at at) went.1 first,
      went.2,
      ap (λ n. behind_all turns (begun tree more (n ∷ turns_from tree.kind tree.parties spot.moment (party + 1))) ++ spot.left) same
          ∙ entered tree turns more turn went.0 (turns_from tree.kind tree.parties spot.moment (party + 1)) spot.left,
    )

-- a choice with no other party behind it is taken back
pub taken_alone : (tree : Tree) (spot : Spot) (choices : List Choice) (choice : Choice) (turns : List Turn)
    → IsAt tree spot (choices ++ choice ∷ []) turns → choice.next ≡ None
    → (now : Spot) × (before : List Turn) × IsAt tree now choices before × (now.left ≡ spot.left)
taken_alone tree spot choices choice turns at alone =
    let last = leads_less tree tree.most tree.first choices choice turns spot.more spot.moment spot.left at in
    let none : turns_from tree.kind tree.parties last.here (choice.party + 1) ≡ [] = subst (λ (n : Option ℕ). IsFirst tree.kind tree.parties last.here (choice.party + 1) n) alone last.first in (
      record { more = suc spot.more; moment = last.here; left = last.later },
      last.turns,
      last.leads,
      sym (last.is ∙ ap (λ ns. behind_all last.turns (begun tree spot.more ns) ++ last.later) none),
    )

-- .. and one with another party behind it gives the turn to that one
pub taken_back : (tree : Tree) (spot : Spot) (choices : List Choice) (choice : Choice) (turns : List Turn) (party : ℕ) (orders : List (List Turn))
    → IsAt tree spot (choices ++ choice ∷ []) turns → choice.next ≡ Some party → spot.left ≡ orders
    → IsNext tree party choices orders
taken_back tree spot choices choice turns party orders at other is =
    let last = leads_less tree tree.most tree.first choices choice turns spot.more spot.moment spot.left at in
    let first : IsFirst tree.kind tree.parties last.here (choice.party + 1) (Some party) = subst (λ (n : Option ℕ). IsFirst tree.kind tree.parties last.here (choice.party + 1) n) other last.first in
    record {
      turns = last.turns;
      spot = record { more = suc spot.more; moment = last.here; left = last.later };
      more = spot.more;
      next = first.0;
      at = last.leads;
      deeper = refl;
      can = first.1;
      left = sym is ∙ last.is ∙ ap (λ ns. behind_all last.turns (begun tree spot.more ns) ++ last.later) first.2;
    }

-- ---- the same over the lines of the code

pub first_in : (tree : Tree) (lines : List (List Act)) (moment : Moment) (from : ℕ) (first : Option ℕ) → tree.parties ≡ lines
    → IsFirst tree.kind lines moment from first → IsFirst tree.kind tree.parties moment from first
first_in tree lines moment from first same is = subst (λ (ls : List (List Act)). IsFirst tree.kind ls moment from first) (sym same) is

pub gone_in : (tree : Tree) (lines : List (List Act)) (moment : Moment) (party : ℕ) (turn : Option Turn) (run : View ℕ) (places : List Place) → tree.parties ≡ lines
    → HasGone tree.kind lines moment party turn run places → HasGone tree.kind tree.parties moment party turn run places
gone_in tree lines moment party turn run places same is = subst (λ (ls : List (List Act)). HasGone tree.kind ls moment party turn run places) (sym same) is

-- a party that can go on has a turn
pub not_gone : (tree : Tree) (moment : Moment) (party : ℕ) (next : Turn × Moment)
    → turn_of tree.kind tree.parties moment party ≡ None → turn_of tree.kind tree.parties moment party ≡ Some next → ⊥
not_gone tree moment party next none some = some_none (sym none ∙ some)
  where
    some_none : {A : Type 0} {x : A} → None ≡ Some x → ⊥
    some_none e = cc

pub deeper_still : (tree : Tree) (spot : Spot) (choices : List Choice) (turns : List Turn) → IsAt tree spot choices turns
    → length choices < 2 ^ 64 → 2 ^ 64 ≤ tree.most → (more : ℕ) × (spot.more ≡ suc more)
deeper_still tree spot choices turns at few room = go spot.more refl
  where
    deep : length choices + spot.more ≡ tree.most
    deep = leads_deep tree tree.most tree.first choices turns spot.more spot.moment spot.left at

    go : (n : ℕ) → spot.more ≡ n → (more : ℕ) × (spot.more ≡ suc more)
    go zero e = absurd (omega (arith, deep, few, room, e))
    go (suc n) e = (n, e)

pub nothing_left : (tree : Tree) (n : ℕ) (s : Moment) (ts : List Turn) (m : ℕ) (here : Moment) (left : List (List Turn)) → Leads tree n s [] ts m here left → left ≡ []
nothing_left tree n s [] m here left h = h.2
nothing_left tree zero s (t ∷ ts) m here left h = absurd h
nothing_left tree (suc n) s (t ∷ ts) m here left h = absurd h

pub same_end : (tree : Tree) (order : List Turn) (choices : List Choice) (orders due : List (List Turn)) → orders ≡ due → IsEnd tree order choices due → IsEnd tree order choices orders
same_end tree order choices orders due same is = record { spot = is.spot; at = is.at; first = same ∙ is.first }

-- all orders are due at the beginning
pub due_first : (tree : Tree) (turns : List Turn) → turns ≡ []
    → orders_of tree.kind tree.parties tree.most tree.first ≡ due_at tree turns (record { more = tree.most; moment = tree.first; left = [] })
due_first tree turns none =
    sym (append-nil _ ∙ behind_none _) ∙ ap (λ ts. due_at tree ts (record { more = tree.most; moment = tree.first; left = [] })) (sym none)

-- the first of the choices that are left, and its turn
pub record Ahead (tree : Tree) (moment : Moment) (choice : Choice) (choices : List Choice) (rest : List Turn) (more' : ℕ) (moment' : Moment) : Type 0 where
  pub turn : Turn
  pub turns : List Turn
  pub more : ℕ
  pub after : Moment
  pub left : List (List Turn)
  pub is : rest ≡ turn ∷ turns
  pub has : turn_of tree.kind tree.parties moment choice.party ≡ Some (turn, after)
  pub leads : Leads tree more after choices turns more' moment' left

pub ahead : (tree : Tree) (more : ℕ) (moment : Moment) (choice : Choice) (choices : List Choice) (rest : List Turn) (more' : ℕ) (moment' : Moment) (left : List (List Turn))
    → Leads tree more moment (choice ∷ choices) rest more' moment' left → Ahead tree moment choice choices rest more' moment'
ahead tree zero moment choice choices [] more' moment' left h = absurd h
ahead tree zero moment choice choices (t ∷ ts) more' moment' left h = absurd h
ahead tree (suc more) moment choice choices [] more' moment' left h = absurd h
ahead tree (suc more) moment choice choices (t ∷ ts) more' moment' left h =
    record { turn = t; turns = ts; more = more; after = h.0; left = h.1; is = refl; has = h.2; leads = h.4 }

-- the turn that was had is the one of the choice
pub same_turn : (tree : Tree) (moment : Moment) (party : ℕ) (turn had : Turn) (after then : Moment)
    → turn_of tree.kind tree.parties moment party ≡ Some (turn, after) → turn_of tree.kind tree.parties moment party ≡ Some (had, then)
    → (turn ≡ had) × (after ≡ then)
same_turn tree moment party turn had after then e f =
    let same : (turn, after) ≡ (had, then) = one_some _ _ (sym e ∙ f) in
    (ap (λ (p : Turn × Moment). p.0) same, ap (λ (p : Turn × Moment). p.1) same)

-- the end of an order that goes on from a spot
pub end_from : (tree : Tree) (spot : Spot) (orders : List (List Turn)) (order : List Turn) (choices : List Choice) (turns : List Turn)
    → orders ≡ due_at tree turns spot → IsEnd tree order choices (due_at tree turns spot) → IsEnd tree order choices orders
end_from tree spot orders order choices turns same is = same_end tree order choices orders _ same is

abbrev pub start_of : (tree : Tree) → Spot
start_of tree = record { more = tree.most; moment = tree.first; left = [] }

pub at_start : (tree : Tree) (choices : List Choice) (turns : List Turn) → choices ≡ [] → turns ≡ [] → IsAt tree (start_of tree) choices turns
at_start tree choices turns empty none = rw (empty, none) (refl, refl, refl)

pub of_lines : (kind : Kind) (past : Past ℕ) (lines : List (List Act)) (most : ℕ) → 2 ^ 64 ≤ most → IsOf (tree_of kind past lines most) lines
of_lines kind past lines most room = record { same = refl; room = room }

pub next_end : (tree : Tree) (spot after : Spot) (orders : List (List Turn)) (order : List Turn) (choices : List Choice) (made turns turns' : List Turn) (begun : List (List Turn))
    → orders ≡ behind_all made begun ++ spot.left → turns ≡ made
    → behind_all turns begun ++ spot.left ≡ due_at tree turns' after
    → IsEnd tree order choices (due_at tree turns' after) → IsEnd tree order choices orders
next_end tree spot after orders order choices made turns turns' begun is same due end =
    same_end tree order choices orders _ (is ∙ ap (λ ts. behind_all ts begun ++ spot.left) (sym same) ∙ due) end

pub choices_at : (choices : List Choice) (index : ℕ) → index < length choices → drop index choices ≡ get_or choices index (record { party = 0; next = None }) ∷ drop (index + 1) choices
choices_at choices index less =
    let same : suc index ≡ index + 1 = omega arith in
    drop-cons choices index _ less ∙ ap (λ n. get_or choices index (record { party = 0; next = None }) ∷ drop n choices) same

-- one more choice is made again
pub made_again : (tree : Tree) (more : ℕ) (moment : Moment) (choices : List Choice) (index : ℕ) (lines : List (List Act)) (turn : Turn) (turns rest made : List Turn) (more' : ℕ) (moment' : Moment) (left : List (List Turn)) (run : View ℕ) (places : List Place)
    → index < length choices
    → Leads tree more moment (drop index choices) rest more' moment' left
    → turns ++ rest ≡ made → tree.parties ≡ lines
    → HasGone tree.kind lines moment (get_or choices index (record { party = 0; next = None })).party (Some turn) run places
    → (rest' : List Turn) × (more : ℕ) × (moment : Moment) × (left : List (List Turn))
    × Leads tree more moment (drop (index + 1) choices) rest' more' moment' left
    × ((turns ++ turn ∷ []) ++ rest' ≡ made)
    × Stands tree.kind moment run places
made_again tree more moment choices index lines turn turns rest made more' moment' left run places less leads is same went =
    let choice : Choice = get_or choices index (record { party = 0; next = None }) in
    let one = ahead tree more moment choice (drop (index + 1) choices) rest more' moment' left (rw (choices_at choices index less) at leads) in
    let gone = gone_in tree lines moment choice.party (Some turn) run places same went in
    let alike = same_turn tree moment choice.party one.turn turn one.after gone.0 one.has gone.1 in (
      one.turns,
      one.more,
      one.after,
      one.left,
      one.leads,
      append_assoc turns (turn ∷ []) one.turns ∙ ap (λ t. turns ++ t ∷ one.turns) (sym alike.0) ∙ ap (λ ts. turns ++ ts) (sym one.is) ∙ is,
      rw alike.1 gone.2,
    )

pub none_ahead : (tree : Tree) (more : ℕ) (moment : Moment) (choices : List Choice) (index : ℕ) (lines : List (List Act)) (rest : List Turn) (more' : ℕ) (moment' : Moment) (left : List (List Turn))
    → index < length choices
    → Leads tree more moment (drop index choices) rest more' moment' left → tree.parties ≡ lines
    → turn_of tree.kind lines moment (get_or choices index (record { party = 0; next = None })).party ≡ None → ⊥
none_ahead tree more moment choices index lines rest more' moment' left less leads same none =
    let choice : Choice = get_or choices index (record { party = 0; next = None }) in
    let one = ahead tree more moment choice (drop (index + 1) choices) rest more' moment' left (rw (choices_at choices index less) at leads) in
    not_gone tree moment choice.party (one.turn, one.after) (ap (λ (ls : List (List Act)). turn_of tree.kind ls moment choice.party) same ∙ none) one.has

-- a list of the code has fewer items than the greatest number of 64 bits
pub few : (len cap count : ℕ) → len ≡ count → len ≤ cap → cap < 2 ^ 63 → count < 2 ^ 64
few len cap count is within small = omega (arith, is, within, small)
