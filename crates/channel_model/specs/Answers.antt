-- What answers a step, and a list of steps.
use Rattle.std.specs.Prelude.{◌≡◌, ◌⊎◌, List, [], ◌∷◌, Option, Some, None, Bool, true, false}
use Rattle.channel_model.specs.declared.step.Kind.{Kind}
use Rattle.channel_model.specs.declared.step.Refusal.{Refusal}
use Rattle.channel_model.specs.declared.step.Refusal.TheVariants.{OutOfMemory}
use Rattle.channel_model.specs.declared.step.Step.{Step}
use Rattle.channel_model.specs.declared.step.Reply.{Reply}
use Rattle.channel_model.specs.declared.step.Reply.TheVariants.{Refused}
use Rattle.channel_model.specs.Past.{Past}
use Rattle.channel_model.specs.Messages.{message_in}
use Rattle.channel_model.specs.Replies.{due_reply}
use Rattle.channel_model.specs.Refusals.{refusal_of}
use Rattle.channel_model.specs.Memory.{may_want_memory}

-- the refusal that applies, or else the reply that is due
abbrev pub refused_or : {T : Type 0} → Option Refusal → Step T → (due : Reply T) → Reply T
refused_or None step due = due
refused_or (Some refusal) step due = Refused refusal (message_in step)

-- The answer to a step after this past if no memory is wanted.
abbrev pub answer_of : {T : Type 0} → Kind → Past T → Step T → Reply T
answer_of kind past step = refused_or (refusal_of kind past step) step (due_reply kind past step)

-- The reply is that answer, or want of memory if it is possible.
abbrev pub IsAnswer : {T : Type 0} → Kind → Past T → Step T → Reply T → Type 0
IsAnswer kind past step reply =
    (reply ≡ answer_of kind past step)
    ⊎ ((may_want_memory kind past step ≡ true) × (reply ≡ Refused OutOfMemory (message_in step)))

-- memory was refused
abbrev pub wants_memory : {T : Type 0} → Reply T → Bool
wants_memory (Refused OutOfMemory message) = true
wants_memory reply = false

-- The past after a step with this reply: a refused one isn't added.
abbrev pub past_after : {T : Type 0} → Past T → Step T → Reply T → Past T
past_after past step (Refused refusal message) = past
past_after past step reply = (step, reply) ∷ past

-- the past after a step if no memory is wanted
abbrev pub past_made : {T : Type 0} → Kind → Past T → Step T → Past T
past_made kind past step = past_after past step (answer_of kind past step)

-- Each step, in order, was answered after the past that those before it left, and this is the past
-- after all of them.
abbrev pub AreAnswers : {T : Type 0} → Kind → Past T → List (Step T) → List (Reply T) → Past T
    → Type 0
AreAnswers kind past [] [] after = after ≡ past
AreAnswers kind past (step ∷ steps) (reply ∷ replies) after =
    IsAnswer kind past step reply × AreAnswers kind (past_after past step reply) steps replies after
AreAnswers kind past steps replies after = ⊥
