-- What contracts see of a send as a future.
use Rattle.std.specs.Prelude.{◌≡◌, ℕ, [], Option, Some, None, IfSome, IsSomeAnd}
use Rattle.channel_core.specs.Channel.{SendWaits}
use Rattle.ruled_channel.specs.declared.mark.Mark.{Mark}
use Rattle.ruled_channel.specs.declared.sending.SendAs.{SendAs}
use Rattle.ruled_channel.specs.Passes.{source_of}
use Rattle.ruled_channel.specs.Steps.{found, made, woken}
use Rattle.ruled_channel.specs.SendAs.{channel_of as channel_below, parts_of, ticket_of as ticket_below}
use Rattle.ruled_channel_rules.specs.declared.handles.Channel.{Channel}
use Rattle.ruled_channel_rules.specs.declared.handles.Sender.{Sender}
use Rattle.ruled_channel_rules.specs.declared.sending.Send.{Send}
use Rattle.ruled_channel_rules.specs.Sending.{MaySend}

-- the key of the entry of the send below, while it waits
abbrev pub ticket_in : {T V P M L R K : Type 0} → Option (SendAs T V P M L R K) → Option ℕ
ticket_in None = None
ticket_in (Some below) = ticket_below below

module _ {T R : Type 0} where
  abbrev pub channel_of : Send T R → Channel T
  channel_of future = future.channel.now

  -- the sender that it began with
  abbrev pub sender_of : Send T R → Sender T
  sender_of future = future.sender.value

  -- and the message
  abbrev pub message_of : Send T R → T
  message_of future = future.message.value

  -- it was not ready yet, and has the pass of its sender and the message
  abbrev pub MayPoll : Send T R → Type 0
  MayPoll future = IsSomeAnd future.inner (λ below. MaySend (channel_of future)
      (sender_of future) (message_of future) (channel_below below) (parts_of below))

  -- the sources that it waits for
  abbrev pub waits_at : Send T R → ℕ → Type 0
  waits_at future source =
      IsSomeAnd future.inner (λ below. source ≡ source_of (channel_below below))

  abbrev pub ticket_of : Send T R → Option ℕ
  ticket_of future = ticket_in future.inner

  -- It left a mark in the channel's list, in an entry that is new or was its own. Nothing else
  -- changed, and nobody was woken.
  abbrev pub HasWaited : Option ℕ → Send T R → Type 0
  HasWaited ticket future = IsSomeAnd future.inner (λ below. IfSome (parts_of below) (λ h. (w : Mark)
      × SendWaits (Some h.1) ticket (found h.0) w (ticket_below below) (made h.0)
      × (woken h.0 ≡ [])))
