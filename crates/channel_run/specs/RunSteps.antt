-- What a run answers to a step, and what it shows then, by what it shows before. Private methods
-- promise it, and what a past decides follows from it; no public clause has to cite this module.
use Rattle.std.specs.Prelude.{◌≡◌, ◌⊎◌, MatchOption, List, Option, Some, None, Bool, true, false, if◌then◌else◌, drop, slice_get}
use Rattle.channel_core.specs.declared.state.Group.{Group}
use Rattle.channel_core.specs.declared.state.Group.TheVariants.{Sends, Receives, Streams, Closeds}
use Rattle.channel_model.specs.declared.step.Who.{Who}
use Rattle.channel_model.specs.declared.step.Who.TheVariants.{Op, Receiver}
use Rattle.channel_model.specs.declared.step.Side.{Side}
use Rattle.channel_model.specs.declared.step.Side.TheVariants.{Receiver}
use Rattle.channel_model.specs.declared.step.Refusal.{Refusal}
use Rattle.channel_model.specs.declared.step.Refusal.TheVariants.{OutOfMemory}
use Rattle.channel_model.specs.declared.step.Step.{Step}
use Rattle.channel_model.specs.declared.step.Step.TheVariants.{Capacity, Close, DropReceiver, DropSender, IsClosed, IsEmpty, IsFull, IsTerminated, Len, Poll, PollNext, ReceiverCount, SenderCount}
use Rattle.channel_model.specs.declared.step.Reply.{Reply}
use Rattle.channel_model.specs.declared.step.Reply.TheVariants.{Refused}
use Rattle.channel_model.specs.Handles.{names_after, Receivers, Senders, WeakReceivers, WeakSenders}
use Rattle.channel_model.specs.Operations.{operations_after}
use Rattle.channel_model.specs.Messages.{taken_by, with_last, accepted_by, message_in}
use Rattle.channel_model.specs.Closing.{closed_after}
use Rattle.channel_model.specs.Replies.{is_pending, reply_in}
use Rattle.channel_model.specs.Rosters.{Roster, Rosters}
use Rattle.channel_model.specs.Notices.{after_ending, after_messages}
use Rattle.channel_model.specs.Polling.{IsQuiet, poll_of, told_polls}
use Rattle.channel_model.specs.View.{View, AreAlike}
use Rattle.channel_model.specs.Memory.{may_want_memory_in, polls_newcomer}
use Rattle.channel_model.specs.Refusals.{refusal_in}

-- ---- what it shows after a step with this reply

-- without the first, if one was taken
abbrev pub without_first : {T : Type 0} → Option T → List T → List T
without_first None messages = messages
without_first (Some taken) messages = drop 1 messages

abbrev pub messages_after : {T : Type 0} → View T → Step T → Reply T → List T
messages_after run step reply =
    without_first (taken_by reply) (with_last run.messages (accepted_by run.operations step reply))

-- Only these steps can close a channel, since an open one has somebody on each side.
abbrev pub may_close : {T : Type 0} → Step T → Bool
may_close (Close side) = true
may_close (DropSender name) = true
may_close (DropReceiver name) = true
may_close step = false

abbrev pub closed_in : {T : Type 0} → View T → Step T → Reply T → Bool
closed_in run step reply =
    if may_close step
    then closed_after run.closed step (names_after Senders step reply run.senders)
    (names_after Receivers step reply run.receivers)
    else run.closed

-- whom the end of the channel, or of the last receiver, tells
abbrev pub ending_in : {T : Type 0} → View T → Step T → Reply T → Rosters → Rosters
ending_in run step reply all =
    if may_close step
    then after_ending run.closed (closed_in run step reply) run.receivers
    (names_after Receivers step reply run.receivers) all
    else all

abbrev pub rosters_after : {T : Type 0} → View T → Step T → Reply T → Rosters
rosters_after run step reply =
    ending_in run step reply (after_messages run.operations step reply run.rosters)

abbrev pub after_step : {T : Type 0} → View T → Step T → Reply T → View T
after_step run step reply = record {
  capacity = run.capacity;
  messages = messages_after run step reply;
  closed = closed_in run step reply;
  senders = names_after Senders step reply run.senders;
  receivers = names_after Receivers step reply run.receivers;
  weak_senders = names_after WeakSenders step reply run.weak_senders;
  weak_receivers = names_after WeakReceivers step reply run.weak_receivers;
  operations = operations_after step reply run.operations;
  rosters = rosters_after run step reply;
}

-- ---- the whole step

-- the handle that asks something of the channel, if the step is a question
abbrev pub asker : {T : Type 0} → Step T → Option Side
asker (IsClosed side) = Some side
asker (IsEmpty side) = Some side
asker (IsFull side) = Some side
asker (IsTerminated receiver) = Some (Receiver receiver)
asker (Len side) = Some side
asker (SenderCount side) = Some side
asker (ReceiverCount side) = Some side
asker (Capacity side) = Some side
asker step = None

-- The step was made: it has its reply, and the run shows what it leaves.
pub record IsMade {T : Type 0} (before : View T) (step : Step T) (reply : Reply T)
    (after : View T) : Type 0 where
  pub replied : reply ≡ reply_in before step
  pub shows : AreAlike after (after_step before step reply)

-- The step was refused: the message comes back, and the run is as it was.
pub record IsRefused {T : Type 0} (before : View T) (step : Step T) (refusal : Refusal)
    (reply : Reply T)
    (after : View T) : Type 0 where
  pub replied : reply ≡ Refused refusal (message_in step)
  pub unchanged : AreAlike after before

-- What a run does at a step, by what it shows: it refuses it, or it makes it or wants memory if
-- that is possible.
abbrev pub StepsTo : {T : Type 0} → View T → Step T → Reply T → View T → Type 0
StepsTo before step reply after =
    MatchOption (refusal_in before step)
    (IsMade before step reply after ⊎ ((may_want_memory_in before step ≡ true)
    × IsRefused before step OutOfMemory reply after))
    (λ refusal. IsRefused before step refusal reply after)

-- What a run does at a poll, also if the refusal Borrowed guards the step: it makes it, or wants
-- memory when it begins to wait.
abbrev pub StepsAsAllowed : {T : Type 0} → View T → Step T → Reply T → View T → Type 0
StepsAsAllowed before step reply after =
    IsMade before step reply after
    ⊎ ((polls_newcomer before step ≡ true) × (is_pending (reply_in before step) ≡ true)
    × IsRefused before step OutOfMemory reply after)

-- What a run does when it polls somebody who was told. No refusal guards it.
abbrev pub PollsTo : {T : Type 0} → View T → Who → Reply T → View T → Type 0
PollsTo before (Op op) reply after = StepsTo before (Poll op) reply after
PollsTo before (Receiver receiver) reply after =
    StepsAsAllowed before (PollNext receiver) reply after

-- the roster of a group
abbrev pub roster_in : Group → Rosters → Roster
roster_in Sends all = all.sends
roster_in Receives all = all.receives
roster_in Streams all = all.streams
roster_in Closeds all = all.closeds

-- Who is polled next, or nobody if nobody is told.
abbrev pub IsNext : {T : Type 0} → View T → Option Who → Type 0
IsNext {T} run next =
    MatchOption next (IsQuiet run.rosters)
    (λ who. slice_get (told_polls {T = T} run.rosters) 0 ≡ Some (poll_of who))
