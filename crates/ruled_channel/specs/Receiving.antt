-- When a receive may be polled, what it gives, and what is left of one that is given up.
use Rattle.std.specs.Prelude.{◌≡◌, List, Option, Some, None, Result, IsSome, IsSomeAnd, IfSome, IfOk, IfErr}
use Rattle.channel_core.specs.declared.errors.OutOfMemory.{OutOfMemory}
use Rattle.channel_core.specs.declared.errors.RecvError.{RecvError}
use Rattle.ruled_channel.specs.declared.channel.RuledChannel.{RuledChannel}
use Rattle.ruled_channel.specs.State.{State, IsEmpty}
use Rattle.ruled_channel.specs.Rule.{Receives, Ends, Fitted}
use Rattle.ruled_channel.specs.declared.pass.Pass.{Pass}
use Rattle.ruled_channel.specs.Passes.{IsPassOf, LearnedOf, key_of, view, number, IsSamePass}
use Rattle.ruled_channel.specs.Steps.{HasReceived}

module _ {T V P K : Type 0} where
  -- the pass is there, and the rule stays whatever comes
  abbrev pub MayPoll : (K → State T → List V → Type 0) → (V → T → V → Type 0)
      → (V → V → Type 0) → RuledChannel T V P K → Option (Pass T V) → Type 0
  MayPoll holds then at_end channel held =
      IsSome held
      × IfSome held (λ p. IsPassOf channel p
      × Receives (holds (key_of channel)) (number p) (view p) then
      × Ends (holds (key_of channel)) (number p) (view p) at_end)

  -- The pass comes back, with what the message or the end tells. If memory was refused, its view is
  -- as it was, and the channel was empty and open at one moment.
  abbrev pub Gives : (K → State T → List V → Type 0) → (V → T → V → Type 0)
      → (V → V → Type 0) → RuledChannel T V P K → Option (Pass T V)
      → Pass T V × Result (Result T RecvError) OutOfMemory → Type 0
  Gives holds then at_end channel held out =
      IfSome held (λ p. IsPassOf channel out.0 × IsSamePass p out.0
      × IfOk out.1 (λ answer. HasReceived answer out.0
      × IfOk answer (λ m. then (view p) m (view out.0))
      × IfErr answer (λ _. at_end (view p) (view out.0)))
      × IfErr out.1 (λ _. (view out.0 ≡ view p) × LearnedOf IsEmpty (Fitted holds (view p))))

  -- one that was there comes back, with its view as it was
  abbrev pub IsBack : RuledChannel T V P K → Option (Pass T V)
      → Option (Pass T V) → Type 0
  IsBack channel None back = back ≡ None
  IsBack channel (Some p) back = IsSomeAnd back
      (λ q. IsPassOf channel q × IsSamePass p q × (view q ≡ view p))
