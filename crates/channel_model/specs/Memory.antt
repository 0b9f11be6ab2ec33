-- When want of memory is possible.
use Rattle.std.specs.Prelude.{Bool, false, not, ◌&&◌, ◌||◌, is_none, is_some}
use Rattle.channel_model.specs.declared.step.Kind.{Kind}
use Rattle.channel_model.specs.declared.step.Step.{Step}
use Rattle.channel_model.specs.declared.step.Step.TheVariants.{UpgradeSender, UpgradeReceiver, Poll, PollNext}
use Rattle.event_list.specs.Keys.{is_among}
use Rattle.channel_model.specs.Past.{Past}
use Rattle.channel_model.specs.Operations.{is_finished_send, message_among, operation_in}
use Rattle.channel_model.specs.Messages.{message_in}
use Rattle.channel_model.specs.Replies.{is_pending, reply_in}
use Rattle.channel_model.specs.Refusals.{new_is_live, refusal_in}
use Rattle.channel_model.specs.Rosters.{waits_anywhere}
use Rattle.channel_model.specs.View.{View, view_of}

-- The step makes a name; an upgrade does so on an open channel.
abbrev pub makes_name : {T : Type 0} → View T → Step T → Bool
makes_name view (UpgradeSender of new) = not view.closed
makes_name view (UpgradeReceiver of new) = not view.closed
makes_name view step = is_some (new_is_live view step)

-- The step brings a message: its own, or that of an unfinished send.
abbrev pub brings_message : {T : Type 0} → View T → Step T → Bool
brings_message view (Poll op) = is_some (message_among view.operations op)
brings_message view step = is_some (message_in step)

-- The step polls somebody who waits nowhere, a finished send aside.
abbrev pub polls_newcomer : {T : Type 0} → View T → Step T → Bool
polls_newcomer view (Poll op) =
    not (waits_anywhere op view.rosters) && not (is_finished_send (operation_in view.operations op))
polls_newcomer view (PollNext receiver) = not (is_among receiver view.rosters.streams.names)
polls_newcomer view step = false

-- When want of memory is possible: the step isn't refused, and makes a name, brings a message to
-- an open unbounded channel, or begins to wait. A step that wants memory changes nothing.
abbrev pub may_want_memory_in : {T : Type 0} → View T → Step T → Bool
may_want_memory_in view step =
    is_none (refusal_in view step)
    && (makes_name view step
    || (brings_message view step && is_none view.capacity && not view.closed)
    || (polls_newcomer view step && is_pending (reply_in view step)))

-- Want of memory is possible after this past.
abbrev pub may_want_memory : {T : Type 0} → Kind → Past T → Step T → Bool
may_want_memory kind past step = may_want_memory_in (view_of kind past) step
