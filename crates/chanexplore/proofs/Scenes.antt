-- Whose turns can be next, party by party.
use Rattle.std.proofs.Common.{◌≡◌, ℕ, suc, ◌+◌, ◌-◌, ◌<◌, ◌≤◌, Bool, true, false, List, [], ◌∷◌, length, Option, None, Some, refl, ap, sym, ◌∙◌, arith}
use Rattle.std.proofs.lemmas.List.{set_past}
use Rattle.std.specs.List.{cons_option, filter_map, range_with_len}
use Rattle.std.specs.Prelude.{Vec, is_some, option_map, slice_set}
use Rattle.std.specs.declared.alloc.Global.{Global}
use Rattle.chanexplore.specs.Lines.{acts_in}
use Rattle.channel_model.specs.declared.step.Kind.{Kind}
use Rattle.chanexplore.specs.declared.party.Act.{Act}
use Rattle.channel_model.specs.View.{View}
use Rattle.channel_run.specs.StandsFor.{StandsFor}
use Rattle.chanexplore.specs.declared.party.Response.{Response}
use Rattle.chanexplore.specs.declared.party.Place.{Place}
use Rattle.chanexplore.specs.declared.party.Turn.{Turn}
use Rattle.chanexplore.specs.Orders.{Moment, answer_to, is_await, line_at, lines_of, past_after_line, place_after, turn_of, turn_with, turns_from}
use Rattle.chanexplore.specs.Trail.{HasGone, IsFirst, Stands}

true_false : true ≡ false → ⊥
true_false e = cc

-- nobody stands from the number of parties on
pub turns_end : (kind : Kind) (parties : List (List Act)) (moment : Moment) (party : ℕ) → length parties ≤ party
    → turns_from kind parties moment party ≡ []
turns_end kind parties moment party less =
    let none : length parties - party ≡ 0 = omega (arith, less) in
    ap (λ n. filter_map (turn_of kind parties moment) (range_with_len party n)) none

one_more : (n : ℕ) (party : ℕ) → party < n → n - party ≡ suc (n - (party + 1))
one_more n party less = omega (arith, less)

-- a party that can't go on has no turn
pub turns_without : (kind : Kind) (parties : List (List Act)) (moment : Moment) (party : ℕ) → party < length parties
    → line_at parties moment party ≡ None
    → turns_from kind parties moment party ≡ turns_from kind parties moment (party + 1)
turns_without kind parties moment party less none =
    ap (λ n. filter_map (turn_of kind parties moment) (range_with_len party n)) (one_more (length parties) party less)
    ∙ ap (λ line. cons_option (option_map (turn_with kind parties moment party) line) (turns_from kind parties moment (party + 1))) none

-- one that can has the first
pub turns_with : (kind : Kind) (parties : List (List Act)) (moment : Moment) (party : ℕ) (line : Place × Act) → party < length parties
    → line_at parties moment party ≡ Some line
    → IsFirst kind parties moment party (Some party)
turns_with kind parties moment party line less can = (
  turn_with kind parties moment party line,
  ap (option_map (turn_with kind parties moment party)) can,
  ap (λ n. filter_map (turn_of kind parties moment) (range_with_len party n)) (one_more (length parties) party less)
      ∙ ap (λ line. cons_option (option_map (turn_with kind parties moment party) line) (turns_from kind parties moment (party + 1))) can,
)

-- the first from one number on is the first from another, if those between have no turn
pub first_from : (kind : Kind) (parties : List (List Act)) (moment : Moment) (from party : ℕ) (first : Option ℕ)
    → turns_from kind parties moment from ≡ turns_from kind parties moment party
    → IsFirst kind parties moment party first → IsFirst kind parties moment from first
first_from kind parties moment from party None same is = same ∙ is
first_from kind parties moment from party (Some who) same is = (is.0, is.1, same ∙ is.2)

-- whether it can, by a test
pub turns_if_not : (kind : Kind) (parties : List (List Act)) (moment : Moment) (party : ℕ) → party < length parties
    → is_some (line_at parties moment party) ≡ false
    → turns_from kind parties moment party ≡ turns_from kind parties moment (party + 1)
turns_if_not kind parties moment party less not = turns_without kind parties moment party less (go (line_at parties moment party) not)
  where
    go : (line : Option (Place × Act)) → is_some line ≡ false → line ≡ None
    go None e = refl
    go (Some line) e = absurd (true_false e)

pub turns_if : (kind : Kind) (parties : List (List Act)) (moment : Moment) (party : ℕ) → party < length parties
    → is_some (line_at parties moment party) ≡ true
    → IsFirst kind parties moment party (Some party)
turns_if kind parties moment party less can = go (line_at parties moment party) refl can
  where
    go : (line : Option (Place × Act)) → line_at parties moment party ≡ line → is_some line ≡ true → IsFirst kind parties moment party (Some party)
    go None is e = absurd (true_false (sym e))
    go (Some line) is e = turns_with kind parties moment party line less is

-- ---- a turn

pub no_turn : (kind : Kind) (parties : List (List Act)) (moment : Moment) (party : ℕ) → None ≡ line_at parties moment party
    → turn_of kind parties moment party ≡ None
no_turn kind parties moment party none = ap (option_map (turn_with kind parties moment party)) (sym none)

abbrev answered_turn : (party line : ℕ) → Response → Turn
answered_turn party line answer = record { party = party; line = line; answer = answer }

pub some_mapped : {A B : Type 0} (f : A → B) (found : Option A) → is_some (option_map f found) ≡ is_some found
some_mapped f None = refl
some_mapped f (Some x) = refl

-- as many parties as lists of lines
as_many : (parties : List (Vec Act Global)) → length (acts_in parties) ≡ length parties
as_many [] = refl
as_many (lines ∷ parties) = omega (arith, as_many parties)

pub party_below : (parties : List (Vec Act Global)) (party count : ℕ) → party < count → count ≡ length parties → party < length (acts_in parties)
party_below parties party count less is = omega (arith, less, is, as_many parties)

pub party_above : (parties : List (Vec Act Global)) (party count : ℕ) → count ≤ party → count ≡ length parties → length (acts_in parties) ≤ party
party_above parties party count less is = omega (arith, less, is, as_many parties)

pub gone : (kind : Kind) (parties : List (List Act)) (moment : Moment) (party : ℕ) (place : Place) (act : Act) (answer : Response)
    (old run : View ℕ) (places : List Place) (count : ℕ) (awaits : Bool) (next : Place)
    → Stands kind moment old places
    → Some (place, act) ≡ line_at parties moment party
    → answer ≡ answer_to kind moment.past act → StandsFor kind (past_after_line kind moment.past act) run
    → count ≡ length (lines_of parties party) → awaits ≡ is_await act
    → next ≡ place_after count place awaits answer
    → HasGone kind parties moment party (Some (record { party = party; line = place.done; answer = answer })) run (slice_set places party next)
gone kind parties moment party place act answer old run places count awaits next was line answered stands counted awaited is =
    let after : Moment = (turn_with kind parties moment party (place, act)).1 in (
      after,
      ap (option_map (turn_with kind parties moment party)) (sym line)
          ∙ ap (λ (a : Response). Some (answered_turn party place.done a, after)) (sym answered),
      record {
        stands = stands;
        alike = ap (λ ps. slice_set ps party next) was.alike
            ∙ ap (slice_set moment.places party) (is
            ∙ ap (λ n. place_after n place awaits answer) counted
            ∙ ap (λ b. place_after (length (lines_of parties party)) place b answer) awaited
            ∙ ap (place_after (length (lines_of parties party)) place (is_await act)) answered);
      },
    )

-- a place behind the last one isn't set
pub set_outside : (places : List Place) (party : ℕ) (next : Place) → length places ≤ party → slice_set places party next ≡ places
set_outside places party next less = set_past places party next less
