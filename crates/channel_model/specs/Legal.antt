-- Which pasts can come about.
use Rattle.std.specs.Prelude.{◌≡◌, ◌⊎◌, [], ◌∷◌, Option, Some, None}
use Rattle.channel_model.specs.declared.step.Kind.{Kind}
use Rattle.channel_model.specs.declared.step.Refusal.{Refusal}
use Rattle.channel_model.specs.declared.step.Refusal.TheVariants.{Borrowed}
use Rattle.channel_model.specs.declared.step.Step.{Step}
use Rattle.channel_model.specs.declared.step.Step.TheVariants.{PollNext}
use Rattle.channel_model.specs.Past.{Past}
use Rattle.channel_model.specs.Capacity.{HasPositiveCapacity}
use Rattle.channel_model.specs.Replies.{due_reply}
use Rattle.channel_model.specs.Refusals.{refusal_of}

-- The step isn't refused; settling polls a stream also if a receive borrows its receiver.
abbrev pub IsAllowed : {T : Type 0} → Step T → Option Refusal → Type 0
IsAllowed (PollNext receiver) refusal = (refusal ≡ None) ⊎ (refusal ≡ Some Borrowed)
IsAllowed step refusal = refusal ≡ None

-- The channel could be made; then each step was allowed after the past before it, and has the reply
-- that was due there.
abbrev pub IsLegal : {T : Type 0} → Kind → Past T → Type 0
IsLegal kind [] = HasPositiveCapacity kind
IsLegal kind ((step, reply) ∷ past) =
    IsLegal kind past × (reply ≡ due_reply kind past step)
    × IsAllowed step (refusal_of kind past step)
