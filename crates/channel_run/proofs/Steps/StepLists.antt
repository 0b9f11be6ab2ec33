-- A list of steps, answered one by one, has answers that follow one another, and loses no message.
use Rattle.std.proofs.Common.{◌≡◌, List, [], ◌∷◌, ◌++◌, suc, refl, sym, ◌∙◌, ap, subst, length}
use Rattle.channel_model.specs.declared.step.Kind.{Kind}
use Rattle.channel_model.specs.declared.step.Step.{Step}
use Rattle.channel_model.specs.declared.step.Reply.{Reply}
use Rattle.channel_model.specs.Past.{Past}
use Rattle.channel_model.specs.Messages.{accepted_messages, taken_messages}
use Rattle.channel_model.specs.Answers.{AreAnswers, IsAnswer, past_after}
use Rattle.channel_model.specs.View.{View}
use Rattle.channel_run.specs.StandsFor.{StandsFor}
use Rattle.channel_model.proofs.Conserved.{accepted_messages-IsLegal}

-- one step more, answered after the past that the others left
pub AreAnswers-more : {T : Type 0} (kind : Kind) (past : Past T) (steps : List (Step T)) (replies : List (Reply T))
    (after : Past T) (step : Step T) (reply : Reply T)
    → AreAnswers kind past steps replies after → IsAnswer kind after step reply
    → AreAnswers kind past (steps ++ step ∷ []) (replies ++ reply ∷ []) (past_after after step reply)
AreAnswers-more {T} kind past [] [] after step reply answers answer = (
  subst (λ (p : Past T). IsAnswer kind p step reply) answers answer,
  ap
      (λ (p : Past T). past_after p step reply) answers,
)
AreAnswers-more kind past [] (other ∷ replies) after step reply answers answer = absurd answers
AreAnswers-more kind past (first ∷ steps) [] after step reply answers answer = absurd answers
AreAnswers-more kind past (first ∷ steps) (other ∷ replies) after step reply answers answer =
    (answers.0, AreAnswers-more kind (past_after past first other) steps replies after step reply answers.1 answer)

-- there is one reply a step
pub length-AreAnswers : {T : Type 0} (kind : Kind) (past : Past T) (steps : List (Step T)) (replies : List (Reply T))
    (after : Past T) → AreAnswers kind past steps replies after → length replies ≡ length steps
length-AreAnswers kind past [] [] after answers = refl
length-AreAnswers kind past [] (other ∷ replies) after answers = absurd answers
length-AreAnswers kind past (first ∷ steps) [] after answers = absurd answers
length-AreAnswers kind past (first ∷ steps) (other ∷ replies) after answers =
    ap suc (length-AreAnswers kind (past_after past first other) steps replies after answers.1)

-- What was accepted is what was taken, followed by what the run holds.
pub conserved-StandsFor : {T : Type 0} (kind : Kind) (past : Past T) (run : View T)
    → StandsFor kind past run
    → accepted_messages past ≡ taken_messages past ++ run.messages
conserved-StandsFor {T} kind past run stands = accepted_messages-IsLegal kind past stands.legal
    ∙ ap (λ (held : List T). taken_messages past ++ held) (sym stands.shows.messages)
