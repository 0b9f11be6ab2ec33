-- When a send may be polled, and what it gives.
use Rattle.std.specs.Prelude.{◌≡◌, [], ◌∷◌, ◌++◌, Option, Result, IfOk, IfErr}
use Rattle.channel_core.specs.Channel.{Channel as CoreChannel, Change}
use Rattle.channel_core.specs.declared.errors.NoMemory.{NoMemory}
use Rattle.channel_core.specs.declared.errors.SendError.{SendError}
use Rattle.ruled_channel.specs.declared.channel.RuledChannel.{RuledChannel}
use Rattle.ruled_channel.specs.declared.mark.Mark.{Mark}
use Rattle.ruled_channel.specs.declared.pass.Pass.{Pass}
use Rattle.ruled_channel.specs.Sending.{MaySend as MayPoll, GivesSent}
use Rattle.ruled_channel.specs.Steps.{HasMade as HasPassMade, HasMadeWith, HasSent as HasPassSent, send_given_up}
use Rattle.ruled_channel_rules.specs.declared.log.Log.{Log}
use Rattle.ruled_channel_rules.specs.declared.handles.Channel.{Channel}
use Rattle.ruled_channel_rules.specs.declared.handles.Sender.{Sender}
use Rattle.ruled_channel_rules.specs.Whole.{IsWhole, with_sent}
use Rattle.ruled_channel_rules.specs.Handles.{IsSenderOf, sent_by, sender_closed}

module _ {T : Type 0} where
  -- a sender that has sent nothing more, and has closed nothing
  abbrev pub IsAsItWas : Sender T → Sender T → Type 0
  IsAsItWas old new = (sent_by new ≡ sent_by old) × (sender_closed new ≡ sender_closed old)

  -- its last step was this one of the channel that it found, and all whom that rings were woken
  abbrev pub HasMade : (CoreChannel T Mark → Change T Mark) → Sender T → Type 0
  HasMade step s = HasPassMade step s.pass

  -- that was a send of the message, and this its answer
  abbrev pub HasSent : T → Result (Unit {0}) (SendError T) → Sender T → Type 0
  HasSent m answer s = HasPassSent m answer s.pass

  -- by that it left the list in which it waited, if it did, and its notice went on
  abbrev pub HasGivenUp : Sender T → Type 0
  HasGivenUp s = HasMadeWith send_given_up s.pass

  -- The sender comes back, and has sent the message; or it has not, and the message comes back too.
  -- It has closed nothing.
  abbrev pub TellsSent : Channel T → Sender T → T
      → Sender T × Result (Result (Unit {0}) (SendError T)) (NoMemory T) → Type 0
  TellsSent channel s m out =
      IsSenderOf channel out.0
      × IfOk out.1 (λ answer. HasSent m answer out.0
      × IfOk answer (λ _. sent_by out.0 ≡ sent_by s ++ m ∷ [])
      × IfErr answer (λ error. (error.0 ≡ m) × (sent_by out.0 ≡ sent_by s)))
      × IfErr out.1 (λ error. (error.0 ≡ m) × (sent_by out.0 ≡ sent_by s))
      × (sender_closed out.0 ≡ sender_closed s)

  module _ {P : Type 0} where
    -- what the send below gives
    abbrev pub Gives : RuledChannel T (Log T) P (Unit {0}) → Option (Pass T (Log T) × T)
        → Pass T (Log T) × Result (Result (Unit {0}) (SendError T)) (NoMemory T)
        → Type 0
    Gives = GivesSent (λ v m w. w ≡ with_sent v m) (λ _ _. Unit {0})

    -- The send below may be polled, and whatever it gives is a send of this message by this sender.
    abbrev pub MaySend : Channel T → Sender T → T → RuledChannel T (Log T) P (Unit {0})
        → Option (Pass T (Log T) × T) → Type 0
    MaySend channel s m below parts =
        MayPoll (λ _. IsWhole) (λ v m w. w ≡ with_sent v m) (λ _ _. Unit {0}) below parts
        × ((x : Pass T (Log T) × Result (Result (Unit {0}) (SendError T)) (NoMemory T))
        → Gives below parts x → TellsSent channel s m (record { pass = x.0 }, x.1))
