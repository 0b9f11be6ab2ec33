-- What the law of notices speaks of, by what a channel shows.
use Rattle.std.specs.Prelude.{◌-◌, length}
use Rattle.channel_model.specs.declared.step.Kind.{Kind}
use Rattle.channel_model.specs.Past.{Past}
use Rattle.channel_model.specs.Rosters.{Roster}
use Rattle.channel_model.specs.View.{View, view_of}
use Rattle.channel_core.specs.Covered.{Standing, Waiters}

-- how many of a roster were told, and how many wait there untold
abbrev pub waiters_of : Roster → Waiters
waiters_of roster = record { told = roster.told; untold = length roster.names - roster.told }

-- the numbers that a channel shows
abbrev pub standing_in : {T : Type 0} → View T → Standing
standing_in view = record {
  capacity = view.capacity;
  held = length view.messages;
  closed = view.closed;
  senders = length view.senders;
  receivers = length view.receivers;
  sends = waiters_of view.rosters.sends;
  receives = waiters_of view.rosters.receives;
  streams = waiters_of view.rosters.streams;
  closeds = waiters_of view.rosters.closeds;
}

-- The numbers after a past.
abbrev pub standing_of : {T : Type 0} → Kind → Past T → Standing
standing_of kind past = standing_in (view_of kind past)
