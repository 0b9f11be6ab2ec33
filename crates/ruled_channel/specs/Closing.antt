-- When a wait for the last receiver may be polled, and what it gives.
use Rattle.std.specs.Prelude.{◌≡◌, List, Option, Result, IsSome, IfSome, OnOk, OnErr}
use Rattle.channel_core.specs.declared.errors.OutOfMemory.{OutOfMemory}
use Rattle.ruled_channel.specs.declared.channel.RuledChannel.{RuledChannel}
use Rattle.ruled_channel.specs.declared.pass.Pass.{Pass}
use Rattle.ruled_channel.specs.State.{State, HasReceivers}
use Rattle.ruled_channel.specs.Rule.{Fitted}
use Rattle.ruled_channel.specs.Passes.{IsPassOf, LearnedOf, view, IsSamePass}
use Rattle.ruled_channel.specs.Steps.{HasMadeWith, closed_left, found}

module _ {T V P K : Type 0} where
  -- the pass is there
  abbrev pub MayWait : RuledChannel T V P K → Option (Pass T V) → Type 0
  MayWait channel held = IsSome held × IfSome held (λ p. IsPassOf channel p)

  -- The pass comes back, with its view as it was. There is no receiver; or memory was refused, and
  -- there was one at one moment.
  abbrev pub GivesBack : (K → State T → List V → Type 0) → RuledChannel T V P K
      → Option (Pass T V) → Pass T V × Result (Unit {0}) OutOfMemory → Type 0
  GivesBack holds channel held out =
      IfSome held (λ p. IsPassOf channel out.0 × IsSamePass p out.0 × (view out.0 ≡ view p)
      × HasMadeWith closed_left out.0 × OnOk out.1 ((found out.0).receivers ≡ 0)
      × OnErr out.1 (LearnedOf HasReceivers (Fitted holds (view p))))
