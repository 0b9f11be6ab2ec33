-- What has happened on a channel.
use Rattle.std.specs.Prelude.{List, [], ◌∷◌}
use Rattle.channel_model.specs.declared.step.Step.{Step}
use Rattle.channel_model.specs.declared.step.Reply.{Reply}

-- The steps that were made, each with its reply, the newest first. A refused step isn't among them.
-- The polls that settling makes stand here like any others.
-- The empty past is that of a new channel, with sender 0 and receiver 0.
abbrev pub Past : Type 0 → Type 0
Past T = List (Step T × Reply T)

-- What the steps of a past make in turn of what a new channel has.
abbrev pub made_by : {T A : Type 0} → (after : Step T → Reply T → A → A) (new : A) → Past T → A
made_by after new [] = new
made_by after new ((step, reply) ∷ past) = after step reply (made_by after new past)
