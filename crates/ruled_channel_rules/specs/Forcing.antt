-- What a forced send does to its sender.
use Rattle.std.specs.Prelude.{◌≡◌, [], ◌∷◌, ◌++◌, Option, option_to_list}
use Rattle.channel_core.specs.Channel.{Channel as CoreChannel, Change}
use Rattle.ruled_channel.specs.declared.mark.Mark.{Mark}
use Rattle.ruled_channel.specs.Steps.{HasMade as HasPassMade}
use Rattle.ruled_channel_rules.specs.declared.forcing.ForceSender.{ForceSender}
use Rattle.ruled_channel_rules.specs.Handles.{forced_by, displaced_by, force_closed}

module _ {T : Type 0} where
  -- it has sent nothing more, displaced nothing more, and closed nothing more
  abbrev pub IsAsItWas : ForceSender T → ForceSender T → Type 0
  IsAsItWas old new =
      (forced_by new ≡ forced_by old) × (displaced_by new ≡ displaced_by old)
      × (force_closed new ≡ force_closed old)

  -- its last step was this one of the channel that it found, and all whom that rings were woken
  abbrev pub HasMade : (CoreChannel T Mark → Change T Mark) → ForceSender T → Type 0
  HasMade step s = HasPassMade step s.pass

  -- it has sent this message, which has displaced that one, if any
  abbrev pub HasForced : ForceSender T → T → Option T → ForceSender T → Type 0
  HasForced old message displaced new =
      (forced_by new ≡ forced_by old ++ message ∷ [])
      × (displaced_by new ≡ displaced_by old ++ option_to_list displaced)
      × (force_closed new ≡ force_closed old)
