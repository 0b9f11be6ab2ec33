-- Behind every list of commands stands a past that can come about.
use Rattle.std.proofs.Common.{◌≡◌, ℕ, List, [], ◌∷◌, ◌++◌, length, slice_get, Option, Some, None, inl, refl, sym, subst, arith}
use Rattle.std.specs.Prelude.{Contains}
use Rattle.channel_model.specs.declared.step.Kind.{Kind}
use Rattle.channel_model.specs.declared.step.Reply.{Reply}
use Rattle.channel_model.specs.declared.step.Step.{Step}
use Rattle.channel_model.specs.Past.{Past}
use Rattle.channel_model.specs.Notices.{rosters}
use Rattle.channel_model.specs.Answers.{AreAnswers, IsAnswer, answer_of, past_after}
use Rattle.channel_model.specs.Legal.{IsLegal}
use Rattle.channel_model.specs.Polling.{EndsWell, IsFreePolling, IsSettling, Settles, finished_polls, settling_polls, told_polls}
use Rattle.chanrun.specs.declared.grammar.command.Command.{Command}
use Rattle.chanrun.specs.declared.grammar.command.Command.TheVariants.{Make, Notice, Settle}
use Rattle.chanrun.specs.Script.{past_after_command, past_after_all}
use Rattle.channel_model.proofs.Settling.{settling_polls-Settles}

-- the laws of pasts, for the messages of a script
abbrev pub AnswersMakeLegalPasts : Type 0
AnswersMakeLegalPasts = (kind : Kind) (past after : Past ℕ) (steps : List (Step ℕ)) (replies : List (Reply ℕ))
    → IsLegal kind past → AreAnswers kind past steps replies after → IsLegal kind after

abbrev pub EndsInAnyOrder : Type 0
EndsInAnyOrder =
    (kind : Kind) (past polls : Past ℕ) → IsLegal kind past → IsFreePolling kind past polls → EndsWell kind past polls

abbrev pub CanBeSettled : Type 0
CanBeSettled =
    (kind : Kind) (past : Past ℕ) → IsLegal kind past → (polls : Past ℕ) × Settles kind past polls (length polls) (finished_polls polls)

answer-IsAnswer : (kind : Kind) (past : Past ℕ) (step : Step ℕ) → IsAnswer kind past step (answer_of kind past step)
answer-IsAnswer kind past step = inl refl

legal-step : AnswersMakeLegalPasts → (kind : Kind) (past : Past ℕ) (step : Step ℕ) → IsLegal kind past
    → IsLegal kind (past_after past step (answer_of kind past step))
legal-step law kind past step legal =
    law kind past (past_after past step (answer_of kind past step)) (step ∷ []) (answer_of kind past step ∷ []) legal (answer-IsAnswer kind past step, refl)

first-Contains : {X : Type 0} (xs : List X) (x : X) → slice_get xs 0 ≡ Some x → Contains xs x
first-Contains [] x is = cc
first-Contains (first ∷ xs) x is = (0, omega arith, (let same : first ≡ x = cc in same))

free-IsSettling : (kind : Kind) (past polls : Past ℕ) → IsSettling kind past polls → IsFreePolling kind past polls
free-IsSettling kind past [] each = tt
free-IsSettling kind past ((step, reply) ∷ polls) each =
    (free-IsSettling kind past polls each.0, first-Contains (told_polls (rosters (polls ++ past))) step each.1, each.2)

-- the polls that the model computes settle the channel
pub settled : CanBeSettled → (kind : Kind) (past : Past ℕ) → IsLegal kind past
    → Settles kind past (settling_polls kind past) (length (settling_polls kind past)) (finished_polls (settling_polls kind past))
settled law kind past legal =
    let found = law kind past legal in
    subst (λ (polls : Past ℕ). Settles kind past polls (length polls) (finished_polls polls))
    (sym (settling_polls-Settles kind past found.0 _ _ legal found.1)) found.1

legal-after : AnswersMakeLegalPasts → EndsInAnyOrder → CanBeSettled
    → (kind : Kind) (past : Past ℕ) (command : Command) → IsLegal kind past
    → IsLegal kind (past_after_command kind past command)
legal-after answers ends can kind past (Make step) legal = legal-step answers kind past step legal
legal-after answers ends can kind past (Notice who) legal = legal
legal-after answers ends can kind past Settle legal =
    let settles = settled can kind past legal in
    (ends kind past (settling_polls kind past) legal (free-IsSettling kind past (settling_polls kind past) settles.each)).legal

pub legal-after_all : AnswersMakeLegalPasts → EndsInAnyOrder → CanBeSettled
    → (kind : Kind) (past : Past ℕ) (commands : List Command) → IsLegal kind past
    → IsLegal kind (past_after_all kind past commands)
legal-after_all answers ends can kind past [] legal = legal
legal-after_all answers ends can kind past (command ∷ commands) legal =
    legal-after_all answers ends can kind (past_after_command kind past command) commands (legal-after answers ends can kind past command legal)
