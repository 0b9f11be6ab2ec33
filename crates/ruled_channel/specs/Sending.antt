-- When a send may be polled, what it gives, and what is left of one that is given up.
use Rattle.std.specs.Prelude.{◌≡◌, List, Option, Some, None, Result, IsSome, IsSomeAnd, IfSome, IfOk, IfErr}
use Rattle.channel_core.specs.declared.errors.NoMemory.{NoMemory}
use Rattle.channel_core.specs.declared.errors.SendError.{SendError}
use Rattle.ruled_channel.specs.declared.channel.RuledChannel.{RuledChannel}
use Rattle.ruled_channel.specs.State.{State, IsClosed}
use Rattle.ruled_channel.specs.Rule.{Sends, Learns}
use Rattle.ruled_channel.specs.declared.pass.Pass.{Pass}
use Rattle.ruled_channel.specs.Passes.{IsPassOf, LearnedOf, WantsToSend, key_of, view, number, IsSamePass}
use Rattle.ruled_channel.specs.Steps.{HasSent}

module _ {T V P K : Type 0} where
  -- pass and message are there, and the rule stays when the message joins
  abbrev pub MaySend : (K → State T → List V → Type 0) → (V → T → V → Type 0)
      → (V → State T → Type 0) → RuledChannel T V P K → Option (Pass T V × T) → Type 0
  MaySend holds then fact channel held =
      IsSome held
      × IfSome held (λ h. IsPassOf channel h.0
      × Sends (holds (key_of channel)) (number h.0) (view h.0) h.1 then
      × Learns (holds (key_of channel)) (number h.0) (view h.0) (fact (view h.0)))

  -- The pass comes back, with what the send tells. A message that was not sent comes back with it,
  -- and then the view is as it was: the channel was closed, or memory was wanted.
  abbrev pub GivesSent : (V → T → V → Type 0) → (V → State T → Type 0) → RuledChannel T V P K
      → Option (Pass T V × T)
      → Pass T V × Result (Result (Unit {0}) (SendError T)) (NoMemory T) → Type 0
  GivesSent then fact channel held out =
      IfSome held (λ h. IsPassOf channel out.0 × IsSamePass h.0 out.0
      × IfOk out.1 (λ answer. HasSent h.1 answer out.0
      × IfOk answer (λ _. then (view h.0) h.1 (view out.0))
      × IfErr answer (λ error. (error.0 ≡ h.1) × (view out.0 ≡ view h.0)
      × LearnedOf IsClosed (fact (view h.0))))
      × IfErr out.1 (λ error. (error.0 ≡ h.1) × (view out.0 ≡ view h.0)
      × WantsToSend (fact (view h.0))))

  -- what was there comes back: the pass with its view as it was, and the message
  abbrev pub AreBack : RuledChannel T V P K → Option (Pass T V × T)
      → Option (Pass T V × T) → Type 0
  AreBack channel None back = back ≡ None
  AreBack channel (Some h) back = IsSomeAnd back
      (λ b. IsPassOf channel b.0 × IsSamePass h.0 b.0 × (view b.0 ≡ view h.0) × (b.1 ≡ h.1))
