-- The last step that a pass made under the lock.
use Rattle.std.specs.Prelude.{◌≡◌, ℕ, List, [], length, Option, Some, None, Result}
use Rattle.futures.specs.declared.task.Poll.TheVariants.{Ready}
use Rattle.channel_core.specs.declared.errors.RecvError.{RecvError}
use Rattle.channel_core.specs.declared.errors.SendError.{SendError}
use Rattle.channel_core.specs.Tables.{recv_poll, send_poll}
use Rattle.channel_core.specs.declared.state.Group.TheVariants.{Closeds, Receives, Sends}
use Rattle.channel_core.specs.Channel.{Channel, Change, given_up, is_channel_full, new_channel, oldest, polled_receive, polled_send}
use Rattle.ruled_mutex.specs.Passes.{found as found_when_held, view as view_in_mutex}
use Rattle.ruled_channel.specs.declared.look.Status.{Status}
use Rattle.ruled_channel.specs.declared.mark.Mark.{Mark}
use Rattle.ruled_channel.specs.declared.pass.Pass.{Pass}
use Rattle.ruled_channel.specs.declared.pass.Step.{Step}
use Rattle.ruled_channel.specs.Rung.{in_turn_of_waking}

-- the capacity that a pass knows, if it knows one
abbrev capacity_by : Option (Option ℕ) → Option ℕ
capacity_by None = None
capacity_by (Some capacity) = capacity

-- the same of a step; of a pass that has made none, a new channel of that capacity
module _ {T : Type 0} where
  abbrev found_by : Option (Option ℕ) → Option (Step T) → Channel T Mark
  found_by capacity None = new_channel (capacity_by capacity)
  found_by capacity (Some step) = found_when_held step.held.value

  abbrev made_by : Option (Step T) → Channel T Mark
  made_by None = new_channel None
  made_by (Some step) = step.made.value

  abbrev woken_by : Option (Step T) → List Mark
  woken_by None = []
  woken_by (Some step) = step.woken.value

module _ {T V : Type 0} where
  -- the channel that it found
  abbrev pub found : Pass T V → Channel T Mark
  found pass = found_by (view_in_mutex pass.lock).capacity pass.last.value

  -- what it made of that
  abbrev pub made : Pass T V → Channel T Mark
  made pass = made_by pass.last.value

  -- whom it woke, in order
  abbrev pub woken : Pass T V → List Mark
  woken pass = woken_by pass.last.value

  -- It was this step of the channel that it found, and all whom that rings were woken.
  abbrev pub HasMade : (Channel T Mark → Change T Mark) → Pass T V → Type 0
  HasMade step pass =
      (made pass ≡ (step (found pass)).channel)
      × (woken pass ≡ in_turn_of_waking (step (found pass)).rung)

  -- It was one of these, by the ticket that its operation had, or by none.
  abbrev pub HasMadeWith : (Option ℕ → Channel T Mark → Change T Mark) → Pass T V → Type 0
  HasMadeWith step pass = (ticket : Option ℕ) × HasMade (step ticket) pass

  -- It was a send of the message, and this its answer.
  abbrev pub HasSent : T → Result (Unit {0}) (SendError T) → Pass T V → Type 0
  HasSent message answer pass =
      (Ready answer ≡ send_poll (Some message) (found pass).closed (is_channel_full (found pass)))
      × HasMadeWith (polled_send (Some message)) pass

  -- It was a receive, and this its answer.
  abbrev pub HasReceived : Result T RecvError → Pass T V → Type 0
  HasReceived answer pass =
      (Ready answer ≡ recv_poll (oldest (found pass)) (found pass).closed)
      × HasMadeWith polled_receive pass

module _ {T W : Type 0} where
  -- a send, a receive or a wait for the last receiver is given up
  abbrev pub send_given_up : Option ℕ → Channel T W → Change T W
  send_given_up = given_up Sends

  abbrev pub receive_given_up : Option ℕ → Channel T W → Change T W
  receive_given_up = given_up Receives

  abbrev pub closed_left : Option ℕ → Channel T W → Change T W
  closed_left = given_up Closeds

  -- what a look at it says
  abbrev pub status_of : Channel T W → Status
  status_of channel = record {
    is_closed = channel.closed;
    is_full = is_channel_full channel;
    len = length channel.messages;
    sender_count = channel.senders;
    receiver_count = channel.receivers;
  }
