-- What a receive keeps while it waits, and what it gives.
use Rattle.std.specs.Prelude.{◌≡◌, true, List, [], ◌∷◌, ◌++◌, Option, Result, IsSomeAnd, IfOk, IfErr}
use Rattle.channel_core.specs.Channel.{Channel as CoreChannel, Change}
use Rattle.channel_core.specs.declared.errors.OutOfMemory.{OutOfMemory}
use Rattle.channel_core.specs.declared.errors.RecvError.{RecvError}
use Rattle.channel_core.specs.declared.errors.TryRecvError.{TryRecvError}
use Rattle.channel_core.specs.declared.errors.TryRecvError.TheVariants.{Empty, Closed}
use Rattle.ruled_channel.specs.declared.channel.RuledChannel.{RuledChannel}
use Rattle.ruled_channel.specs.declared.mark.Mark.{Mark}
use Rattle.ruled_channel.specs.declared.pass.Pass.{Pass}
use Rattle.ruled_channel.specs.Steps.{HasMade as HasPassMade, HasMadeWith, HasReceived as HasPassReceived, receive_given_up}
use Rattle.ruled_channel_rules.specs.declared.log.Log.{Log}
use Rattle.ruled_channel_rules.specs.declared.log.Whole.{Whole}
use Rattle.ruled_channel_rules.specs.declared.handles.Channel.{Channel}
use Rattle.ruled_channel_rules.specs.declared.handles.Receiver.{Receiver}
use Rattle.ruled_channel_rules.specs.Handles.{IsReceiverOf, got_by, receiver_closed, has_ended}

module _ {T : Type 0} where
  -- a receiver that has got nothing more, knows nothing more, and has closed nothing
  abbrev pub IsAsItWas : Receiver T → Receiver T → Type 0
  IsAsItWas old new =
      (got_by new ≡ got_by old) × (receiver_closed new ≡ receiver_closed old)
      × (has_ended new ≡ has_ended old)

  -- what a receive knows that found no message
  abbrev pub FoundNone : Receiver T → Receiver T → TryRecvError → Type 0
  FoundNone old new Empty = IsAsItWas old new
  FoundNone old new Closed = (got_by new ≡ got_by old) × (has_ended new ≡ true)

  -- its last step was this one of the channel that it found, and all whom that rings were woken
  abbrev pub HasMade : (CoreChannel T Mark → Change T Mark) → Receiver T → Type 0
  HasMade step r = HasPassMade step r.pass

  -- that was a receive, and this its answer
  abbrev pub HasReceived : Result T RecvError → Receiver T → Type 0
  HasReceived answer r = HasPassReceived answer r.pass

  -- by that it left the list in which it waited, if it did, and its notice went on
  abbrev pub HasGivenUp : Receiver T → Type 0
  HasGivenUp r = HasMadeWith receive_given_up r.pass

  -- what a receiver has got more is what a list has more at its end
  abbrev pub HasAdded : Receiver T → List T → Receiver T → List T → Type 0
  HasAdded old before new after =
      (came : List T) × (after ≡ before ++ came) × (got_by new ≡ got_by old ++ came)

  -- The receiver comes back, and has got the message, or has found the channel closed and empty. If
  -- memory was refused, it is as it was. It has closed nothing.
  abbrev pub TellsReceived : Channel T → Receiver T
      → Receiver T × Result (Result T RecvError) OutOfMemory → Type 0
  TellsReceived channel r out =
      IsReceiverOf channel out.0
      × IfOk out.1 (λ answer. HasReceived answer out.0
      × IfOk answer (λ message. got_by out.0 ≡ got_by r ++ message ∷ [])
      × IfErr answer (λ _. (got_by out.0 ≡ got_by r) × (has_ended out.0 ≡ true)))
      × IfErr out.1 (λ _. IsAsItWas r out.0)
      × (receiver_closed out.0 ≡ receiver_closed r)

  -- The receive below is one at this channel, and keeps the pass of this receiver, which is as it
  -- was.
  abbrev pub MayReceive : Channel T → Receiver T → RuledChannel T (Log T) Whole (Unit {0})
      → Option (Pass T (Log T)) → Type 0
  MayReceive channel r below pass =
      (below ≡ channel.ruled)
      × IsSomeAnd pass (λ p. IsReceiverOf channel (record { pass = p })
      × IsAsItWas r (record { pass = p }))
