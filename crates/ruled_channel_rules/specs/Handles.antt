-- What a clause says of a channel whose messages all arrive, and of its handles.
use Rattle.std.specs.Prelude.{◌≡◌, ℕ, Bool, true, List, [], ◌∷◌, Option}
use Rattle.channel_core.specs.Channel.{Channel as CoreChannel}
use Rattle.ruled_channel.specs.declared.mark.Mark.{Mark}
use Rattle.ruled_channel.specs.Passes.{IsPassOf, capacity_of as ruled_capacity, view}
use Rattle.ruled_channel.specs.Steps.{found}
use Rattle.ruled_channel_rules.specs.declared.log.Log.{Log}
use Rattle.ruled_channel_rules.specs.declared.handles.Channel.{Channel}
use Rattle.ruled_channel_rules.specs.declared.handles.Hub.{Hub}
use Rattle.ruled_channel_rules.specs.declared.handles.Sender.{Sender}
use Rattle.ruled_channel_rules.specs.declared.handles.Receiver.{Receiver}
use Rattle.ruled_channel_rules.specs.declared.forcing.ForceSender.{ForceSender}
use Rattle.ruled_channel_rules.specs.Whole.{sender_log, receiver_log, force_sender_log}

module _ {T : Type 0} where
  abbrev pub first : List (List T) → List T
  first [] = []
  first (xs ∷ more) = xs

  -- how many messages a channel can hold
  abbrev pub capacity_of : Channel T → Option ℕ
  capacity_of c = ruled_capacity c.ruled

  -- what a sender has sent, in order
  abbrev pub sent_by : Sender T → List T
  sent_by s = first (view s.pass).sent

  -- what a receiver has got, in order
  abbrev pub got_by : Receiver T → List T
  got_by r = first (view r.pass).got

  -- what a force sender has sent, and what its messages have displaced
  abbrev pub forced_by : ForceSender T → List T
  forced_by s = first (view s.pass).sent

  abbrev pub displaced_by : ForceSender T → List T
  displaced_by s = first (view s.pass).got

  -- whether it has closed the channel
  abbrev pub sender_closed : Sender T → Bool
  sender_closed s = (view s.pass).closed

  abbrev pub receiver_closed : Receiver T → Bool
  receiver_closed r = (view r.pass).closed

  abbrev pub force_closed : ForceSender T → Bool
  force_closed s = (view s.pass).closed

  -- whether it found the channel closed and empty
  abbrev pub has_ended : Receiver T → Bool
  has_ended r = (view r.pass).ended

  -- the channel that it found at its last step
  abbrev pub sender_found : Sender T → CoreChannel T Mark
  sender_found s = found s.pass

  abbrev pub receiver_found : Receiver T → CoreChannel T Mark
  receiver_found r = found r.pass

  abbrev pub force_found : ForceSender T → CoreChannel T Mark
  force_found s = found s.pass

  -- how many senders and receivers a hub has made, and what those sent and got that it has back
  abbrev pub known : Hub T → Log T
  known m = view m.pass

  -- they are of this channel
  abbrev pub IsHubOf : Channel T → Hub T → Type 0
  IsHubOf c m = IsPassOf c.ruled m.pass × ((view m.pass).makes ≡ true)

  abbrev pub IsSenderOf : Channel T → Sender T → Type 0
  IsSenderOf c s =
      IsPassOf c.ruled s.pass × (view s.pass ≡ sender_log (sender_closed s) (sent_by s))

  abbrev pub IsReceiverOf : Channel T → Receiver T → Type 0
  IsReceiverOf c r =
      IsPassOf c.ruled r.pass
      × (view r.pass ≡ receiver_log (receiver_closed r) (has_ended r) (got_by r))

  abbrev pub IsForceSenderOf : Channel T → ForceSender T → Type 0
  IsForceSenderOf c s =
      IsPassOf c.ruled s.pass
      × (view s.pass ≡ force_sender_log (force_closed s) (forced_by s) (displaced_by s))
