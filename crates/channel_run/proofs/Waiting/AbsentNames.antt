-- What a change of a roster comes to for a name that isn't there.
use Rattle.std.proofs.Common.{◌≡◌, ℕ, List, Bool, false, cond, refl, ◌∙◌, ap}
use Rattle.event_list.specs.Keys.{is_among}
use Rattle.channel_model.specs.Rosters.{Roster, arrive, hand_on, is_told, leave, tell_one, wait}
use Rattle.channel_model.proofs.NameLists.{is_among-take, without-absent}

same_roster : (a b : Roster) → a.names ≡ b.names → a.told ≡ b.told → a ≡ b
same_roster a b n t = ap (λ (names : List ℕ). record { names = names; told = a.told }) n
    ∙ ap (λ (count : ℕ). record { names = b.names; told = count }) t

pub is_told-absent : (name : ℕ) (roster : Roster) → is_among name roster.names ≡ false
    → is_told name roster ≡ false
is_told-absent name roster absent = is_among-take roster.told name roster.names absent

pub leave-absent : (name : ℕ) (roster : Roster) → is_among name roster.names ≡ false
    → leave name roster ≡ roster
leave-absent name roster absent = same_roster (leave name roster) roster (without-absent name roster.names absent)
    (rw (is_told-absent name roster absent) refl)

pub hand_on-untold : (name : ℕ) (roster : Roster) → is_told name roster ≡ false
    → hand_on name roster ≡ leave name roster
hand_on-untold name roster isnt = ap (λ t. cond t (tell_one (leave name roster)) (leave name roster)) isnt

pub hand_on-absent : (name : ℕ) (roster : Roster) → is_among name roster.names ≡ false
    → hand_on name roster ≡ roster
hand_on-absent name roster absent = hand_on-untold name roster (is_told-absent name roster absent)
    ∙ leave-absent name roster absent

abbrev by_place : ℕ → Roster → (is_told is_there : Bool) → Roster
by_place name roster is_told is_there = cond is_told (arrive name (leave name roster))
    (cond is_there roster (arrive name roster))

pub wait-when_absent : (name : ℕ) (roster : Roster) → is_among name roster.names ≡ false
    → wait name roster ≡ arrive name roster
wait-when_absent name roster absent = ap (λ t. by_place name roster t (is_among name roster.names))
    (is_told-absent name roster absent) ∙ ap (λ among. by_place name roster false among) absent
