-- Where a search stands among the orders. Private functions promise it; no public clause cites this
-- module.
use Rattle.std.specs.Prelude.{◌≡◌, ℕ, suc, ◌+◌, ◌^◌, ◌≤◌, List, [], ◌∷◌, ◌++◌, map, Option, None, Some}
use Rattle.channel_model.specs.declared.step.Kind.{Kind}
use Rattle.channel_model.specs.Past.{Past}
use Rattle.channel_model.specs.View.{View}
use Rattle.channel_run.specs.StandsFor.{StandsFor}
use Rattle.chanexplore.specs.declared.party.Act.{Act}
use Rattle.chanexplore.specs.declared.party.Place.{Place}
use Rattle.chanexplore.specs.declared.party.Turn.{Turn}
use Rattle.chanexplore.specs.declared.search.Choice.{Choice}
use Rattle.chanexplore.specs.Orders.{Moment, begun_with, first_moment, orders_of, turn_of, turns_from}

-- ---- a scene

-- The scene is as it is at this moment.
pub record Stands (kind : Kind) (moment : Moment) (run : View ℕ) (places : List Place)
    : Type 0 where
  pub stands : StandsFor kind moment.past run
  pub alike : places ≡ moment.places

-- The first party from this number on that can go on, and those after it, have the turns that can
-- be next.
abbrev pub IsFirst : Kind → List (List Act) → Moment → (from : ℕ) → Option ℕ → Type 0
IsFirst kind parties moment from None = turns_from kind parties moment from ≡ []
IsFirst kind parties moment from (Some party) =
    (next : Turn × Moment)
    × (turn_of kind parties moment party ≡ Some next)
    × (turns_from kind parties moment from ≡ next ∷ turns_from kind parties moment (party + 1))

-- The party had this turn, and the scene is as it is after it; or it can't go on.
abbrev pub HasGone : Kind → List (List Act) → Moment → (party : ℕ) → Option Turn → View ℕ
    → List Place → Type 0
HasGone kind parties moment party None run places = turn_of kind parties moment party ≡ None
HasGone kind parties moment party (Some turn) run places =
    (after : Moment)
    × (turn_of kind parties moment party ≡ Some (turn, after))
    × Stands kind after run places

-- ---- a search

-- the channel's kind, the parties' lines, how many turns an order may have, and where all orders
-- begin
pub record Tree : Type 0 where
  pub kind : Kind
  pub parties : List (List Act)
  pub most : ℕ
  pub first : Moment

abbrev pub tree_of : Kind → Past ℕ → List (List Act) → (most : ℕ) → Tree
tree_of kind past parties most =
    record { kind = kind; parties = parties; most = most; first = first_moment past parties }

-- a moment, how many turns there may be from it on, and the orders that come after all that go
-- through it
pub record Spot : Type 0 where
  pub more : ℕ
  pub moment : Moment
  pub left : List (List Turn)

-- these turns, and then each of these orders
abbrev pub behind_all : List Turn → List (List Turn) → List (List Turn)
behind_all turns orders = map (λ order. turns ++ order) orders

-- the orders that begin with one of these turns, and have so many more
abbrev pub begun : Tree → (more : ℕ) → List (Turn × Moment) → List (List Turn)
begun tree more nexts = begun_with (orders_of tree.kind tree.parties more) nexts

-- those that begin with a turn of a party after this one
abbrev pub begun_behind : Tree → (more : ℕ) → Moment → (party : ℕ) → List (List Turn)
begun_behind tree more moment party =
    begun tree more (turns_from tree.kind tree.parties moment (party + 1))

-- These choices lead by these turns from a moment with so many turns to come to another, and leave
-- these orders.
abbrev pub Leads : Tree → (more : ℕ) → Moment → List Choice → List Turn
    → (more' : ℕ) → Moment → List (List Turn) → Type 0
Leads tree more moment [] [] more' moment' left = (more' ≡ more) × (moment' ≡ moment) × (left ≡ [])
Leads tree (suc more) moment (choice ∷ choices) (turn ∷ turns) more' moment' left =
    (after : Moment) × (later : List (List Turn))
    × (turn_of tree.kind tree.parties moment choice.party ≡ Some (turn, after))
    × IsFirst tree.kind tree.parties moment (choice.party + 1) choice.next
    × Leads tree more after choices turns more' moment' later
    × (left ≡ behind_all (turn ∷ []) later ++ begun_behind tree more moment choice.party)
Leads tree more moment choices turns more' moment' left = ⊥

-- The choices lead by the turns to the spot.
abbrev pub IsAt : Tree → Spot → List Choice → List Turn → Type 0
IsAt tree spot choices turns =
    Leads tree tree.most tree.first choices turns spot.more spot.moment spot.left

-- The tree is that of these lines, and has room for each list of turns.
pub record IsOf (tree : Tree) (lines : List (List Act)) : Type 0 where
  pub same : tree.parties ≡ lines
  pub room : 2 ^ 64 ≤ tree.most

-- the orders that go through the spot, and those that come after them
abbrev pub due_at : Tree → List Turn → Spot → List (List Turn)
due_at tree turns spot =
    behind_all turns (orders_of tree.kind tree.parties spot.more spot.moment) ++ spot.left

-- The search stands at a spot from which these orders are left, and this party's turn begins the
-- first of them.
pub record IsNext (tree : Tree) (party : ℕ) (choices : List Choice) (orders : List (List Turn))
    : Type 0 where
  pub turns : List Turn
  pub spot : Spot
  pub more : ℕ
  pub next : Turn × Moment
  pub at : IsAt tree spot choices turns
  pub deeper : spot.more ≡ suc more
  pub can : turn_of tree.kind tree.parties spot.moment party ≡ Some next
  pub left : orders
      ≡ behind_all turns
      (begun tree more (next ∷ turns_from tree.kind tree.parties spot.moment (party + 1)))
      ++ spot.left

-- The search stands at the end of this order, which is the first of these.
pub record IsEnd (tree : Tree) (order : List Turn) (choices : List Choice)
    (orders : List (List Turn)) : Type 0 where
  pub spot : Spot
  pub at : IsAt tree spot choices order
  pub first : orders ≡ order ∷ spot.left
