-- What a roster keeps through each change.
use Rattle.std.proofs.Common.{◌≡◌, ℕ, zero, suc, ◌<◌, ◌≤◌, List, Bool, true, false, cond, refl, length, take, arith, length-append}
use Rattle.event_list.specs.Keys.{is_among}
use Rattle.channel_model.specs.Rosters.{IsSound, Roster, arrive, hand_on, is_told, leave, tell_all, tell_one, wait}
use Rattle.channel_model.proofs.NameLists.{is_among-without_same, without-absent, AreDifferent-without, length-without, le-length-without, is_among-take, AreDifferent-arrive}

-- What leaving does to the two numbers.
pub data Left (roster : Roster) (name : ℕ) : Type 0 where
  told_left : is_told name roster ≡ true → roster.told ≡ suc (leave name roster).told
      → length roster.names ≡ suc (length (leave name roster).names) → Left roster name
  untold_left : is_told name roster ≡ false → is_among name roster.names ≡ true → (leave name roster).told ≡ roster.told
      → length roster.names ≡ suc (length (leave name roster).names) → roster.told ≤ length (leave name roster).names
      → Left roster name
  nobody_left : is_told name roster ≡ false → is_among name roster.names ≡ false
      → (leave name roster).told ≡ roster.told → (leave name roster).names ≡ roster.names → Left roster name

some_told : (name count : ℕ) (names : List ℕ) → is_among name (take count names) ≡ true → 0 < count
some_told name zero names among = cc
some_told name (suc count) names among = omega arith

pub left : (name : ℕ) (roster : Roster) → IsSound roster → Left roster name
left name roster sound = go (is_told name roster) refl (is_among name roster.names) refl
  where
    go : (told : Bool) → is_told name roster ≡ told → (among : Bool) → is_among name roster.names ≡ among
        → Left roster name
    go true e true f =
        let some : 0 < roster.told = some_told name roster.told roster.names e in
        told_left e (rw e (omega arith)) (length-without name roster.names sound.once f)
    go true e false f = let apart : is_told name roster ≡ false = is_among-take roster.told name roster.names f in cc
    go false e true f = untold_left e f (rw e refl) (length-without name roster.names sound.once f)
        (le-length-without roster.told name roster.names sound.within e)
    go false e false f = nobody_left e f (rw e refl) (without-absent name roster.names f)

pub leave-IsSound : (name : ℕ) (roster : Roster) → IsSound roster → IsSound (leave name roster)
leave-IsSound name roster sound =
    record { once = AreDifferent-without name roster.names sound.once; within = within (left name roster sound) }
  where
    within : Left roster name → (leave name roster).told ≤ length (leave name roster).names
    within (told_left e t n) = let w = sound.within in omega arith
    within (untold_left e f t n w) = omega arith
    within (nobody_left e f t n) = rw t (rw n sound.within)

pub arrive-IsSound : (name : ℕ) (roster : Roster) → IsSound roster → is_among name roster.names ≡ false
    → IsSound (arrive name roster)
arrive-IsSound name roster sound absent =
    record {
      once = AreDifferent-arrive name roster.names sound.once absent;
      within = let w = sound.within in
          simp length-append (omega arith);
    }

pub wait-IsSound : (name : ℕ) (roster : Roster) → IsSound roster → IsSound (wait name roster)
wait-IsSound name roster sound = go (is_told name roster) (is_among name roster.names) refl
  where
    go : (told among : Bool) → is_among name roster.names ≡ among
        → IsSound (cond told (arrive name (leave name roster)) (cond among roster (arrive name roster)))
    go true among e = arrive-IsSound name (leave name roster) (leave-IsSound name roster sound)
        (is_among-without_same name roster.names)
    go false true e = sound
    go false false e = arrive-IsSound name roster sound e

pub tell_one-IsSound : (roster : Roster) → IsSound roster → IsSound (tell_one roster)
tell_one-IsSound roster sound = record { once = sound.once; within = omega arith }

pub tell_all-IsSound : (roster : Roster) → IsSound roster → IsSound (tell_all roster)
tell_all-IsSound roster sound = record { once = sound.once; within = omega arith }

pub hand_on-IsSound : (name : ℕ) (roster : Roster) → IsSound roster → IsSound (hand_on name roster)
hand_on-IsSound name roster sound = go (is_told name roster)
  where
    go : (told : Bool) → IsSound (cond told (tell_one (leave name roster)) (leave name roster))
    go true = tell_one-IsSound (leave name roster) (leave-IsSound name roster sound)
    go false = leave-IsSound name roster sound
