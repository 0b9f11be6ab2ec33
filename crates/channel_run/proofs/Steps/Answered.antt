-- A run that steps by what it shows gives each past that stands for it the answer that the past decides.
use Rattle.std.proofs.Common.{◌≡◌, ◌⊎◌, inl, inr, ◌∷◌, true, Some, None, Option, refl, sym, ◌∙◌, subst}
use Rattle.std.specs.Prelude.{MatchOption}
use Rattle.channel_model.specs.declared.step.Kind.{Kind}
use Rattle.channel_model.specs.declared.step.Refusal.{Refusal}
use Rattle.channel_model.specs.declared.step.Refusal.TheVariants.{OutOfMemory}
use Rattle.channel_model.specs.declared.step.Step.{Step}
use Rattle.channel_model.specs.declared.step.Reply.{Reply}
use Rattle.channel_model.specs.declared.step.Reply.TheVariants.{Refused}
use Rattle.channel_model.specs.Past.{Past}
use Rattle.channel_model.specs.Replies.{due_reply}
use Rattle.channel_model.specs.Refusals.{refusal_of, refusal_in}
use Rattle.channel_model.specs.Memory.{may_want_memory, may_want_memory_in}
use Rattle.channel_model.specs.Messages.{message_in}
use Rattle.channel_model.specs.Answers.{IsAnswer, past_after, refused_or}
use Rattle.channel_model.specs.Legal.{IsAllowed}
use Rattle.channel_model.specs.View.{View, view_of}
use Rattle.channel_run.specs.StandsFor.{StandsFor}
use Rattle.channel_run.specs.RunSteps.{IsMade, IsRefused, StepsTo, after_step}
use Rattle.channel_model.proofs.LegalAnswers.{due-longer, allowed_if_none}
use Rattle.channel_run.proofs.Alike.SameTables.{reply_in-StandsFor, refusal_in-StandsFor, may_want_memory_in-StandsFor}
use Rattle.channel_run.proofs.Steps.LongerPasts.{allowed_step, StandsFor-step}
use Rattle.channel_run.proofs.Alike.SameViews.{StandsFor-AreAlike}

-- What a run promises of a step, after a past that stands for it: the reply is an answer, and the
-- past after it stands for the run after it.
pub record Answers {T : Type 0} (kind : Kind) (past : Past T) (step : Step T) (reply : Reply T)
    (after : View T) : Type 0 where
  pub answer : IsAnswer kind past step reply
  pub stands : StandsFor kind (past_after past step reply) after

-- A step that was made: the past longer by it stands for the run after it.
pub StandsFor-IsMade : {T : Type 0} (kind : Kind) (past : Past T) (before after : View T) (step : Step T)
    (reply : Reply T) → StandsFor kind past before → IsAllowed step (refusal_of kind past step)
    → IsMade before step reply after → StandsFor kind ((step, reply) ∷ past) after
StandsFor-IsMade kind past before after step reply stands may is =
    StandsFor-AreAlike kind ((step, reply) ∷ past) (after_step before step reply) after
    (StandsFor-step kind past before step reply stands may is.replied) is.shows

made : {T : Type 0} (kind : Kind) (past : Past T) (before after : View T) (step : Step T) (reply : Reply T)
    → StandsFor kind past before → refusal_of kind past step ≡ None → IsMade before step reply after
    → StandsFor kind (past_after past step reply) after
made {T} kind past before after step reply stands none is =
    let may = allowed_if_none step (refusal_of kind past step) none in
    let due : reply ≡ due_reply kind past step = is.replied ∙ reply_in-StandsFor kind past before step stands in
    let longer : past_after past step reply ≡ (step, reply) ∷ past =
    subst (λ (r : Reply T). past_after past step r ≡ (step, r) ∷ past) (sym due)
    (due-longer kind past step (allowed_step (view_of kind past) step may).known) in
    subst (λ (more : Past T). StandsFor kind more after) (sym longer)
    (StandsFor-IsMade kind past before after step reply stands may is)

refused : {T : Type 0} (kind : Kind) (past : Past T) (before after : View T) (step : Step T) (refusal : Refusal)
    (reply : Reply T) → StandsFor kind past before → IsRefused before step refusal reply after
    → StandsFor kind (past_after past step reply) after
refused {T} kind past before after step refusal reply stands is =
    subst (λ (r : Reply T). StandsFor kind (past_after past step r) after) (sym is.replied)
    (StandsFor-AreAlike kind past before after stands is.unchanged)

-- Whatever a run does by what it shows is what each past that stands for it decides.
pub Answers-StepsTo : {T : Type 0} (kind : Kind) (past : Past T) (before after : View T) (step : Step T)
    (reply : Reply T) → StandsFor kind past before → StepsTo before step reply after
    → Answers kind past step reply after
Answers-StepsTo {T} kind past before after step reply stands steps = go (refusal_in before step) refl steps
  where
    Cases : Option Refusal → Type 0
    Cases found = MatchOption found (IsMade before step reply after
        ⊎ ((may_want_memory_in before step ≡ true) × IsRefused before step OutOfMemory reply after))
        (λ refusal. IsRefused before step refusal reply after)

    answers : Option Refusal → Type 0
    answers found = (reply ≡ refused_or found step (due_reply kind past step))
        ⊎ ((may_want_memory kind past step ≡ true) × (reply ≡ Refused OutOfMemory (message_in step)))

    same : (found : Option Refusal) → refusal_in before step ≡ found → answers found
        → IsAnswer kind past step reply
    same found e answer = subst (λ (f : Option Refusal). answers f)
        (sym e ∙ refusal_in-StandsFor kind past before step stands) answer

    go : (found : Option Refusal) → refusal_in before step ≡ found → Cases found
        → Answers kind past step reply after
    go (Some refusal) e is = record {
      answer = same (Some refusal) e (inl is.replied);
      stands = refused kind past before after step refusal reply stands is;
    }
    go None e (inl is) = record {
      answer = same None e (inl (is.replied ∙ reply_in-StandsFor kind past before step stands));
      stands = made kind past before after step reply stands
          (sym (refusal_in-StandsFor kind past before step stands) ∙ e) is;
    }
    go None e (inr wanted) = record {
      answer = same None e (inr (
        sym (may_want_memory_in-StandsFor kind past before step stands)
            ∙ wanted.0,
        wanted.1.replied,
      ));
      stands = refused kind past before after step OutOfMemory reply stands wanted.1;
    }
