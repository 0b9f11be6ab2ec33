-- What contracts see of a send of several messages.
use Rattle.std.specs.Prelude.{ℕ, Bool, Option}
use Rattle.std.specs.declared.alloc.Global.{Global}
use Rattle.std.specs.declared.collections.VecDeque.{VecDeque}
use Rattle.ruled_channel_rules.specs.declared.handles.Channel.{Channel}
use Rattle.ruled_channel_rules.specs.declared.handles.Sender.{Sender}
use Rattle.ruled_channel_rules.specs.declared.sending.SendEach.{SendEach}
use Rattle.ruled_channel_rules.specs.SendingEach.{HasWaited as HasWaitedBelow, MaySendEach, ticket_of as ticket_below, waits_at as waits_at_below}

module _ {T R : Type 0} where
  abbrev pub channel_of : SendEach T R → Channel T
  channel_of future = future.channel.now

  -- the sender that it began with
  abbrev pub sender_of : SendEach T R → Sender T
  sender_of future = future.sender.value

  -- and the messages
  abbrev pub messages_of : SendEach T R → VecDeque T Global
  messages_of future = future.messages.value

  -- whether it closes the channel when it is done
  abbrev pub closes_at_end : SendEach T R → Bool
  closes_at_end future = future.closes

  -- it was not ready yet, and the messages that are left come after those sent
  abbrev pub MayPoll : SendEach T R → Type 0
  MayPoll future =
      MaySendEach (channel_of future) (sender_of future) (messages_of future).items future.turn

  -- the sources that it waits for
  abbrev pub waits_at : SendEach T R → ℕ → Type 0
  waits_at future = waits_at_below future.turn

  -- the key of the entry of the send that waits
  abbrev pub ticket_of : SendEach T R → Option ℕ
  ticket_of future = ticket_below future.turn

  -- its send waits, and its last poll left it so
  abbrev pub HasWaited : Option ℕ → SendEach T R → Type 0
  HasWaited ticket future = HasWaitedBelow ticket future.turn
