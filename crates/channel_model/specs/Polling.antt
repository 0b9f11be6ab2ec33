-- Settling: those who were told are polled until nobody is told.
use Rattle.std.specs.Prelude.{◌≡◌, ◌≤◌, ◌+◌, ◌*◌, ◌/◌, ⊤, ℕ, zero, suc, List, [], ◌∷◌, ◌++◌, Option, Some, None, length, map, slice_get, Contains, if◌then◌else◌}
use Rattle.channel_model.specs.declared.step.Kind.{Kind}
use Rattle.channel_model.specs.declared.step.Who.{Who}
use Rattle.channel_model.specs.declared.step.Who.TheVariants.{Op, Receiver}
use Rattle.channel_model.specs.declared.step.Step.{Step}
use Rattle.channel_model.specs.declared.step.Step.TheVariants.{Poll, PollNext}
use Rattle.channel_model.specs.declared.step.Reply.{Reply}
use Rattle.channel_model.specs.Past.{Past}
use Rattle.channel_model.specs.Messages.{with_last}
use Rattle.channel_model.specs.Replies.{due_reply, is_pending}
use Rattle.channel_model.specs.Rosters.{Rosters, told_names}
use Rattle.channel_model.specs.Notices.{rosters}
use Rattle.channel_model.specs.Legal.{IsLegal}
use Rattle.channel_model.specs.Able.{IsSettled}

-- the poll of who waits
abbrev pub poll_of : {T : Type 0} → Who → Step T
poll_of (Op op) = Poll op
poll_of (Receiver receiver) = PollNext receiver

-- The polls of all who were told: receives, then streams, then sends, then closed operations.
abbrev pub told_polls : {T : Type 0} → Rosters → List (Step T)
told_polls all =
    map Poll (told_names all.receives) ++ map PollNext (told_names all.streams)
    ++ map Poll (told_names all.sends) ++ map Poll (told_names all.closeds)

-- Pairs that poll after this past, the newest first: each polls the first who was told just before,
-- and has the reply that was due.
abbrev pub IsSettling : {T : Type 0} → Kind → Past T → (polls : Past T) → Type 0
IsSettling kind past [] = ⊤
IsSettling kind past ((step, reply) ∷ polls) =
    IsSettling kind past polls
    × (slice_get (told_polls (rosters (polls ++ past))) 0 ≡ Some step)
    × (reply ≡ due_reply kind (polls ++ past) step)

-- The same in any order: each polls somebody who was told just before.
abbrev pub IsFreePolling : {T : Type 0} → Kind → Past T → (polls : Past T) → Type 0
IsFreePolling kind past [] = ⊤
IsFreePolling kind past ((step, reply) ∷ polls) =
    IsFreePolling kind past polls
    × Contains (told_polls (rosters (polls ++ past))) step
    × (reply ≡ due_reply kind (polls ++ past) step)

-- Nobody is told.
pub record IsQuiet (all : Rosters) : Type 0 where
  pub sends : all.sends.told ≡ 0
  pub receives : all.receives.told ≡ 0
  pub streams : all.streams.told ≡ 0
  pub closeds : all.closeds.told ≡ 0

-- how many wait
abbrev pub waiting_in : Rosters → ℕ
waiting_in all =
    length all.sends.names + length all.receives.names + length all.streams.names
    + length all.closeds.names

-- the most polls that settling may take if this many wait
abbrev pub most_polls : ℕ → ℕ
most_polls waiting = waiting * (waiting + 1) / 2

-- who was polled and is done, and with which reply
abbrev pub finished_by : {T : Type 0} → Step T → Reply T → Option (Who × Reply T)
finished_by (Poll op) reply = if is_pending reply then None else Some (Op op, reply)
finished_by (PollNext receiver) reply =
    if is_pending reply then None else Some (Receiver receiver, reply)
finished_by step reply = None

-- the polls that were ready, the oldest first
abbrev pub finished_polls : {T : Type 0} → (polls : Past T) → List (Who × Reply T)
finished_polls [] = []
finished_polls ((step, reply) ∷ polls) = with_last (finished_polls polls) (finished_by step reply)

-- The polls of settling after this past and these polls, the newest first: at most this many more.
abbrev pub settling : {T : Type 0} → (most : ℕ) → Kind → Past T → (polls : Past T) → Past T
settling zero kind past polls = polls
settling (suc most) kind past polls =
    elim (slice_get (told_polls (rosters (polls ++ past))) 0) [
      | None ↦ polls
      | Some step ↦ settling most kind past ((step, due_reply kind (polls ++ past) step) ∷ polls)
    ]

-- The polls that settle the channel after this past: there are never more of them than the bound.
abbrev pub settling_polls : {T : Type 0} → Kind → Past T → Past T
settling_polls kind past = settling (most_polls (waiting_in (rosters past))) kind past []

-- What settling answers: these polls settled the channel, and this is their number.
pub record Settles {T : Type 0} (kind : Kind) (past polls : Past T) (count : ℕ)
    (finished : List (Who × Reply T)) : Type 0 where
  pub each : IsSettling kind past polls
  pub counted : count ≡ length polls
  pub listed : finished ≡ finished_polls polls
  pub quiet : told_polls {T = T} (rosters (polls ++ past)) ≡ []
  pub settled : IsSettled kind (polls ++ past)
  pub bounded : count ≤ most_polls (waiting_in (rosters past))

-- In whatever order the told ones are polled: at most this many polls, each of which could be made,
-- and if nobody is told after them nobody waits who could go on.
pub record EndsWell {T : Type 0} (kind : Kind) (past polls : Past T) : Type 0 where
  pub legal : IsLegal kind (polls ++ past)
  pub bounded : length polls ≤ most_polls (waiting_in (rosters past))
  pub settled : IsQuiet (rosters (polls ++ past)) → IsSettled kind (polls ++ past)
