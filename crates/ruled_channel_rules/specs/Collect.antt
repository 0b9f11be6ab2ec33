-- What contracts see of a receive of all messages.
use Rattle.std.specs.Prelude.{ℕ, Option}
use Rattle.std.specs.declared.alloc.Global.{Global}
use Rattle.std.specs.declared.vec.Vec.{Vec}
use Rattle.ruled_channel_rules.specs.declared.handles.Channel.{Channel}
use Rattle.ruled_channel_rules.specs.declared.handles.Receiver.{Receiver}
use Rattle.ruled_channel_rules.specs.declared.receiving.Collect.{Collect}
use Rattle.ruled_channel_rules.specs.Collecting.{HasWaited as HasWaitedBelow, MayCollect, ticket_of as ticket_below, waits_at as waits_at_below}

module _ {T R : Type 0} where
  abbrev pub channel_of : Collect T R → Channel T
  channel_of future = future.channel.now

  -- the receiver that it began with
  abbrev pub receiver_of : Collect T R → Receiver T
  receiver_of future = future.receiver.value

  -- and the list
  abbrev pub list_of : Collect T R → Vec T Global
  list_of future = future.list.value

  -- it was not ready yet, and what its receiver got is in the list
  abbrev pub MayPoll : Collect T R → Type 0
  MayPoll future =
      MayCollect (channel_of future) (receiver_of future) (list_of future).items future.parts

  -- the sources that it waits for
  abbrev pub waits_at : Collect T R → ℕ → Type 0
  waits_at future = waits_at_below future.parts

  -- the key of the entry of the receive that waits
  abbrev pub ticket_of : Collect T R → Option ℕ
  ticket_of future = ticket_below future.parts

  -- its receive waits, and its last poll left it so
  abbrev pub HasWaited : Option ℕ → Collect T R → Type 0
  HasWaited ticket future = HasWaitedBelow ticket future.parts
