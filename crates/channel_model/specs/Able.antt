-- Who waits and could go on.
use Rattle.std.specs.Prelude.{◌≡◌, Bool, false, not, ◌&&◌, ◌||◌}
use Rattle.channel_model.specs.declared.step.Kind.{Kind}
use Rattle.channel_model.specs.declared.step.Who.{Who}
use Rattle.channel_model.specs.declared.step.Who.TheVariants.{Op, Receiver}
use Rattle.event_list.specs.Keys.{is_among}
use Rattle.channel_model.specs.Past.{Past}
use Rattle.channel_model.specs.Messages.{held_messages}
use Rattle.channel_model.specs.View.{view_of}
use Rattle.channel_model.specs.Replies.{is_full_in}
use Rattle.channel_model.specs.Handles.{live_names, Receivers}
use Rattle.channel_model.specs.Closing.{has_none, is_closed}
use Rattle.channel_model.specs.Notices.{rosters}

-- A receive or a stream could go on: a message is held, or the channel is closed.
abbrev pub can_receive : {T : Type 0} → Past T → Bool
can_receive past = is_closed past || not (has_none (held_messages past))

-- A send could go on: a place is free, or the channel is closed.
abbrev pub can_send : {T : Type 0} → Kind → Past T → Bool
can_send kind past = is_closed past || not (is_full_in (view_of kind past))

-- An operation, or the stream of a receiver, waits and could go on. A closed operation could if
-- no receiver is live.
abbrev pub is_able : {T : Type 0} → Kind → Past T → Who → Bool
is_able kind past (Op op) =
    (is_among op (rosters past).sends.names && can_send kind past)
    || (is_among op (rosters past).receives.names && can_receive past)
    || (is_among op (rosters past).closeds.names && has_none (live_names Receivers past))
is_able kind past (Receiver receiver) =
    is_among receiver (rosters past).streams.names && can_receive past

-- Nobody waits who could go on.
abbrev pub IsSettled : {T : Type 0} → Kind → Past T → Type 0
IsSettled kind past = (who : Who) → is_able kind past who ≡ false
