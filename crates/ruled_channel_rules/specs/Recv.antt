-- What contracts see of a receive as a future.
use Rattle.std.specs.Prelude.{◌≡◌, ℕ, [], Option, Some, None, IfSome, IsSomeAnd}
use Rattle.channel_core.specs.Channel.{RecvWaits}
use Rattle.ruled_channel.specs.declared.mark.Mark.{Mark}
use Rattle.ruled_channel.specs.declared.receiving.RecvAs.{RecvAs}
use Rattle.ruled_channel.specs.Passes.{source_of}
use Rattle.ruled_channel.specs.Steps.{found, made, woken}
use Rattle.ruled_channel.specs.RecvAs.{channel_of as channel_below, pass_of, ticket_of as ticket_below}
use Rattle.ruled_channel_rules.specs.declared.handles.Channel.{Channel}
use Rattle.ruled_channel_rules.specs.declared.handles.Receiver.{Receiver}
use Rattle.ruled_channel_rules.specs.declared.receiving.Recv.{Recv}
use Rattle.ruled_channel_rules.specs.Receiving.{MayReceive}

-- the key of the entry of the receive below, while it waits
abbrev pub ticket_in : {T V P M E R K : Type 0} → Option (RecvAs T V P M E R K) → Option ℕ
ticket_in None = None
ticket_in (Some below) = ticket_below below

module _ {T R : Type 0} where
  abbrev pub channel_of : Recv T R → Channel T
  channel_of future = future.channel.now

  -- the receiver that it began with
  abbrev pub receiver_of : Recv T R → Receiver T
  receiver_of future = future.receiver.value

  -- it was not ready yet, and has the pass of its receiver
  abbrev pub MayPoll : Recv T R → Type 0
  MayPoll future = IsSomeAnd future.inner (λ below.
      MayReceive (channel_of future) (receiver_of future) (channel_below below) (pass_of below))

  -- the sources that it waits for
  abbrev pub waits_at : Recv T R → ℕ → Type 0
  waits_at future source =
      IsSomeAnd future.inner (λ below. source ≡ source_of (channel_below below))

  abbrev pub ticket_of : Recv T R → Option ℕ
  ticket_of future = ticket_in future.inner

  -- It left a mark in the channel's list, in an entry that is new or was its own. Nothing else
  -- changed, and nobody was woken.
  abbrev pub HasWaited : Option ℕ → Recv T R → Type 0
  HasWaited ticket future = IsSomeAnd future.inner (λ below. IfSome (pass_of below) (λ p. (w : Mark)
      × RecvWaits ticket (found p) w (ticket_below below) (made p) × (woken p ≡ [])))
