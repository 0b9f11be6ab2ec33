-- When a receive of all messages may be polled, and what it gives.
use Rattle.std.specs.Prelude.{◌≡◌, ℕ, true, List, Option, Some, None, Result, OnOk, OnErr, IsSomeAnd}
use Rattle.std.specs.declared.alloc.Global.{Global}
use Rattle.std.specs.declared.vec.Vec.{Vec}
use Rattle.channel_core.specs.declared.errors.OutOfMemory.{OutOfMemory}
use Rattle.ruled_channel.specs.Passes.{source_of}
use Rattle.ruled_channel.specs.RecvAs.{channel_of as channel_below, pass_of}
use Rattle.ruled_channel_rules.specs.declared.handles.Channel.{Channel}
use Rattle.ruled_channel_rules.specs.declared.handles.Receiver.{Receiver}
use Rattle.ruled_channel_rules.specs.declared.receiving.Recv.{Recv}
use Rattle.ruled_channel_rules.specs.Handles.{IsReceiverOf, receiver_closed, has_ended}
use Rattle.ruled_channel_rules.specs.Recv.{HasWaited as HasReceiveWaited, ticket_of as ticket_of_receive}
use Rattle.ruled_channel_rules.specs.Receiving.{MayReceive, HasAdded}

module _ {T : Type 0} where
  -- what a receiver that is now so has got more was added to the list, and it has closed nothing
  abbrev pub HasGot : Channel T → Receiver T → List T → Receiver T → List T → Type 0
  HasGot channel r list now all =
      IsReceiverOf channel now × HasAdded r list now all × (receiver_closed now ≡ receiver_closed r)

  -- The receiver comes back, with the list to which all was added that it has got. It has found the
  -- channel closed and empty; if memory was refused, it has closed it.
  abbrev pub TellsCollected : Channel T → Receiver T → List T
      → Receiver T × Vec T Global × Result (Unit {0}) OutOfMemory → Type 0
  TellsCollected channel r list out =
      IsReceiverOf channel out.0 × HasAdded r list out.0 out.1.items
      × OnOk out.2 ((has_ended out.0 ≡ true) × (receiver_closed out.0 ≡ receiver_closed r))
      × OnErr out.2 (receiver_closed out.0 ≡ true)

  module _ {R : Type 0} where
    -- what the receiver has got was added to the list, and it receives the next
    abbrev pub MayCollect : Channel T → Receiver T → List T → Option (Recv T R × Vec T Global)
        → Type 0
    MayCollect channel r list parts = IsSomeAnd parts
        (λ h. HasGot channel r list h.0.receiver.value h.1.items × (h.0.channel.now ≡ channel)
        × IsSomeAnd h.0.inner
        (λ b. MayReceive channel h.0.receiver.value (channel_below b) (pass_of b)))

    -- the sources that it waits for
    abbrev pub waits_at : Option (Recv T R × Vec T Global) → ℕ → Type 0
    waits_at parts source = IsSomeAnd parts
        (λ h. IsSomeAnd h.0.inner (λ b. source ≡ source_of (channel_below b)))

    -- the key of the entry of the receive that waits
    abbrev pub ticket_of : Option (Recv T R × Vec T Global) → Option ℕ
    ticket_of None = None
    ticket_of (Some h) = ticket_of_receive h.0

    -- a receive waits, and its last poll left it so
    abbrev pub HasWaited : Option ℕ → Option (Recv T R × Vec T Global) → Type 0
    HasWaited ticket parts = IsSomeAnd parts (λ h. HasReceiveWaited ticket h.0)
