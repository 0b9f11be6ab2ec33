-- An update of a view is what a step leaves: how that is said, and whom each change tells.
use Rattle.std.proofs.Common.{◌≡◌, ℕ}
use Rattle.channel_model.specs.declared.step.Step.{Step}
use Rattle.channel_model.specs.declared.step.Reply.{Reply}
use Rattle.channel_model.specs.Replies.{reply_in}
use Rattle.channel_model.specs.Rosters.{Rosters, leave, tell_all, tell_one}
use Rattle.channel_model.specs.View.{View, AreAlike}
use Rattle.channel_run.specs.RunSteps.{IsMade, after_step}

pub is_made : {T : Type 0} (run : View T) (step : Step T) (reply : Reply T) (after : View T)
    → reply ≡ reply_in run step → AreAlike after (after_step run step reply) → IsMade run step reply after
is_made run step reply after replied shows = record { replied = replied; shows = shows }

-- a message was accepted: one receive and all streams are told
abbrev pub accepted_told : Rosters → Rosters
accepted_told all = record all { receives = tell_one all.receives; streams = tell_all all.streams }

-- a message was received: one send is told
abbrev pub received_told : Rosters → Rosters
received_told all = record all { sends = tell_one all.sends }

-- the channel was closed: all sends, receives and streams are told
abbrev pub closed_told : Rosters → Rosters
closed_told all = record all {
  sends = tell_all all.sends;
  receives = tell_all all.receives;
  streams = tell_all all.streams;
}

-- the last receiver ended: all closed operations are told
abbrev pub ended_told : Rosters → Rosters
ended_told all = record all { closeds = tell_all all.closeds }

-- its stream's entry goes first
abbrev pub own_left : ℕ → Rosters → Rosters
own_left name all = record all { streams = leave name all.streams }
