-- What a run keeps, as one value: its core, and its tables of names and operations.
use Rattle.std.specs.Prelude.{ℕ, List, Option}
use Rattle.channel_core.specs.Channel.{Channel}
use Rattle.channel_model.specs.Rosters.{Rosters}
use Rattle.channel_model.specs.View.{View}
use Rattle.channel_run.specs.declared.operations.Operation.{Operation as Started}
use Rattle.channel_run.specs.declared.run.Run.TheInside.{Inside}
use Rattle.channel_run.specs.RunShown.{IsWhole, rosters_shown, shown}

pub record Kept (T W : Type 0) : Type 0 where
  pub core : Channel T W
  pub senders : List ℕ
  pub receivers : List (ℕ × Option ℕ)
  pub weak_senders : List ℕ
  pub weak_receivers : List ℕ
  pub operations : List (ℕ × Started T)

-- the fields of a run
abbrev pub kept_of : {T : Type 0} → Inside T → Kept T (Unit {0})
kept_of run = record {
  core = run.core;
  senders = run.senders;
  receivers = run.receivers.entries;
  weak_senders = run.weak_senders;
  weak_receivers = run.weak_receivers;
  operations = run.operations.by_name.entries;
}

module _ {T W : Type 0} where
  -- with another core
  abbrev pub with_core : Kept T W → Channel T W → Kept T W
  with_core kept core = record kept { core = core }

  -- what it shows of itself
  abbrev pub shown_by : Kept T W → View T
  shown_by kept = shown kept.core kept.senders kept.receivers kept.weak_senders kept.weak_receivers kept.operations

  abbrev pub rosters_by : Kept T W → Rosters
  rosters_by kept = rosters_shown kept.core kept.receivers kept.operations

  -- it fits together
  abbrev pub Whole : Kept T W → Type 0
  Whole kept = IsWhole kept.core kept.senders kept.receivers kept.operations
