-- What each kind of change keeps of the law of notices, roster by roster.
use Rattle.std.proofs.Common.{◌≡◌, ℕ, suc, ◌-◌, ◌<◌, ◌≤◌, [], Bool, true, false, cond, refl, ap, length, arith}
use Rattle.channel_model.specs.Rosters.{IsSound, Roster, hand_on, is_told, leave, tell_all, tell_one}
use Rattle.channel_model.proofs.RosterLemmas.{Left, told_left, untold_left, nobody_left, left}

-- somebody waits here untold
abbrev pub HasUntold : Roster → Type 0
HasUntold roster = 0 < length roster.names - roster.told

-- beside an untold one, enough were told
abbrev pub Enough : ℕ → Roster → Type 0
Enough count roster = HasUntold roster → count ≤ roster.told

-- nobody waits here untold
abbrev pub IsAllTold : Roster → Type 0
IsAllTold roster = length roster.names - roster.told ≡ 0

-- one more is wanted, and one more is told
pub Enough-tell_one : (count : ℕ) (roster : Roster) → Enough count roster → Enough (suc count) (tell_one roster)
Enough-tell_one count roster enough untold = let before : count ≤ roster.told = enough (omega arith) in omega arith

-- fewer are wanted
pub Enough-fewer : (count fewer : ℕ) (roster : Roster) → fewer ≤ count → Enough count roster → Enough fewer roster
Enough-fewer count fewer roster le enough untold = let before : count ≤ roster.told = enough untold in omega arith

-- one leaves, told or not, and one fewer is wanted
pub Enough-leave : (name count : ℕ) (roster : Roster) → IsSound roster → Enough count roster
    → Enough (count - 1) (leave name roster)
Enough-leave name count roster sound enough = go (left name roster sound)
  where
    go : Left roster name → Enough (count - 1) (leave name roster)
    go (told_left e t n) untold = let before : count ≤ roster.told = enough (omega arith) in omega arith
    go (untold_left e f t n w) untold = let before : count ≤ roster.told = enough (omega arith) in omega arith
    go (nobody_left e f t n) untold = let same : length (leave name roster).names ≡ length roster.names = ap length n in
        let before : count ≤ roster.told = enough (omega arith) in omega arith

-- one is given up, and hands its notice on
pub Enough-hand_on : (name count : ℕ) (roster : Roster) → IsSound roster → Enough count roster
    → Enough count (hand_on name roster)
Enough-hand_on name count roster sound enough = go (is_told name roster) refl (left name roster sound)
  where
    go : (told : Bool) → is_told name roster ≡ told → Left roster name
        → Enough count (cond told (tell_one (leave name roster)) (leave name roster))
    go true told (told_left e t n) untold = let before : count ≤ roster.told = enough (omega arith) in omega arith
    go true told (untold_left e f t n w) untold = cc
    go true told (nobody_left e f t n) untold = cc
    go false told (told_left e t n) untold = cc
    go false told (untold_left e f t n w) untold = let before : count ≤ roster.told =
        enough (omega arith) in omega arith
    go false told (nobody_left e f t n) untold = let same : length (leave name roster).names ≡ length roster.names =
        ap length n in let before : count ≤ roster.told = enough (omega arith) in omega arith

-- a poll in vain: none are wanted
pub Enough-none : (roster : Roster) → Enough 0 roster
Enough-none roster untold = omega arith

pub IsAllTold-leave : (name : ℕ) (roster : Roster) → IsSound roster → IsAllTold roster → IsAllTold (leave name roster)
IsAllTold-leave name roster sound all = go (left name roster sound)
  where
    go : Left roster name → IsAllTold (leave name roster)
    go (told_left e t n) = omega arith
    go (untold_left e f t n w) = omega arith
    go (nobody_left e f t n) = let same : length (leave name roster).names ≡ length roster.names =
        ap length n in omega arith

pub IsAllTold-tell_all : (roster : Roster) → IsAllTold (tell_all roster)
IsAllTold-tell_all roster = omega arith

pub IsAllTold-tell_one : (roster : Roster) → IsAllTold roster → IsAllTold (tell_one roster)
IsAllTold-tell_one roster all = omega arith

pub IsAllTold-hand_on : (name : ℕ) (roster : Roster) → IsSound roster → IsAllTold roster
    → IsAllTold (hand_on name roster)
IsAllTold-hand_on name roster sound all = go (is_told name roster)
  where
    go : (told : Bool) → IsAllTold (cond told (tell_one (leave name roster)) (leave name roster))
    go true = IsAllTold-tell_one (leave name roster) (IsAllTold-leave name roster sound all)
    go false = IsAllTold-leave name roster sound all

-- who is all told has nobody untold
pub Enough-all_told : (count : ℕ) (roster : Roster) → IsAllTold roster → Enough count roster
Enough-all_told count roster all untold = omega arith

-- whoever is untold after somebody's leaving was so before
pub HasUntold-leave : (name : ℕ) (roster : Roster) → IsSound roster → HasUntold (leave name roster) → HasUntold roster
HasUntold-leave name roster sound untold = go (left name roster sound)
  where
    go : Left roster name → HasUntold roster
    go (told_left e t n) = omega arith
    go (untold_left e f t n w) = omega arith
    go (nobody_left e f t n) = let same : length (leave name roster).names ≡ length roster.names =
        ap length n in omega arith

-- if nobody waits nobody leaves
pub names-leave : (name : ℕ) (roster : Roster) → roster.names ≡ [] → (leave name roster).names ≡ []
names-leave name roster none = rw none

pub names-hand_on : (name : ℕ) (roster : Roster) → roster.names ≡ [] → (hand_on name roster).names ≡ []
names-hand_on name roster none = go (is_told name roster)
  where
    go : (told : Bool) → (cond told (tell_one (leave name roster)) (leave name roster)).names ≡ []
    go true = names-leave name roster none
    go false = names-leave name roster none
