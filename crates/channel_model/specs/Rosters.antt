-- Lists of those who wait, and how each change moves them.
use Rattle.std.specs.Prelude.{◌+◌, ◌-◌, ◌≤◌, ℕ, List, [], ◌∷◌, ◌++◌, Bool, ◌||◌, length, take, min, if◌then◌else◌}
use Rattle.futures.specs.declared.task.Poll.{Poll}
use Rattle.futures.specs.declared.task.Poll.TheVariants.{Ready, Pending}
use Rattle.channel_model.specs.declared.step.Notice.{Notice}
use Rattle.channel_model.specs.declared.step.Notice.TheVariants.{Absent, Untold, Told}
use Rattle.event_list.specs.Keys.{AreDifferent, is_among}
use Rattle.channel_model.specs.Handles.{without}

-- Those who wait, in order of arrival, and how many of them were told: always the first ones.
pub record Roster : Type 0 where
  pub names : List ℕ
  pub told : ℕ

-- the first, as many as were told
abbrev pub told_names : Roster → List ℕ
told_names roster = take roster.told roster.names

-- the one of this name waits here and was told
abbrev pub is_told : ℕ → Roster → Bool
is_told name roster = is_among name (told_names roster)

-- The one of this name leaves, and its notice with it.
abbrev pub leave : ℕ → Roster → Roster
leave name roster = record {
  names = without name roster.names;
  told = if is_told name roster then roster.told - 1 else roster.told;
}

-- Somebody new comes last, untold.
abbrev pub arrive : ℕ → Roster → Roster
arrive name roster = record { names = roster.names ++ name ∷ []; told = roster.told }

-- A poll was in vain: the one of this name goes last, untold, or keeps its place if it waits untold
-- already.
abbrev pub wait : ℕ → Roster → Roster
wait name roster =
    if is_told name roster then arrive name (leave name roster)
    else if is_among name roster.names then roster
    else arrive name roster

-- The one of this name was polled: it leaves if it is ready, and else it waits.
abbrev pub polled : {A : Type 0} → Poll A → ℕ → Roster → Roster
polled (Ready answer) name roster = leave name roster
polled Pending name roster = wait name roster

-- The longest waiting untold one is told, if there is one.
abbrev pub tell_one : Roster → Roster
tell_one roster =
    record { names = roster.names; told = min (roster.told + 1) (length roster.names) }

-- everyone who waits is told
abbrev pub tell_all : Roster → Roster
tell_all roster = record { names = roster.names; told = length roster.names }

-- The one of this name leaves; if it was told, another is told in its place.
abbrev pub hand_on : ℕ → Roster → Roster
hand_on name roster =
    if is_told name roster then tell_one (leave name roster) else leave name roster

-- Who waits on a channel: sends, receives and closed operations by their own names, streams by the
-- names of their receivers.
pub record Rosters : Type 0 where
  pub sends : Roster
  pub receives : Roster
  pub streams : Roster
  pub closeds : Roster

-- one roster of them is changed
abbrev pub in_sends : (change : Roster → Roster) → Rosters → Rosters
in_sends change all = record all { sends = change all.sends }

abbrev pub in_receives : (change : Roster → Roster) → Rosters → Rosters
in_receives change all = record all { receives = change all.receives }

abbrev pub in_streams : (change : Roster → Roster) → Rosters → Rosters
in_streams change all = record all { streams = change all.streams }

abbrev pub in_closeds : (change : Roster → Roster) → Rosters → Rosters
in_closeds change all = record all { closeds = change all.closeds }

-- nobody waits
abbrev pub nobody : Roster
nobody = record { names = []; told = 0 }

-- An operation waits in some roster.
abbrev pub waits_anywhere : ℕ → Rosters → Bool
waits_anywhere op all =
    is_among op all.sends.names || is_among op all.receives.names || is_among op all.closeds.names

-- whether somebody waits in a roster, and was told
abbrev pub notice_in : ℕ → Roster → Notice
notice_in name roster =
    if is_told name roster then Told else if is_among name roster.names then Untold else Absent

-- Each waits once, and no more were told than wait.
pub record IsSound (roster : Roster) : Type 0 where
  pub once : AreDifferent roster.names
  pub within : roster.told ≤ length roster.names

-- every roster is so
pub record AreSound (all : Rosters) : Type 0 where
  pub sends : IsSound all.sends
  pub receives : IsSound all.receives
  pub streams : IsSound all.streams
  pub closeds : IsSound all.closeds
