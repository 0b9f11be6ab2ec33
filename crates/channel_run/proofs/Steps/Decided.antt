-- A reply that isn't want of memory is the answer that the model decides.
use Rattle.std.proofs.Common.{◌≡◌, subst, true, false, inl, inr, ap, sym, ◌∙◌}
use Rattle.channel_model.specs.declared.step.Kind.{Kind}
use Rattle.channel_model.specs.declared.step.Reply.{Reply}
use Rattle.channel_model.specs.declared.step.Step.{Step}
use Rattle.channel_model.specs.Past.{Past}
use Rattle.channel_model.specs.Answers.{IsAnswer, answer_of, past_after, wants_memory}
use Rattle.channel_model.specs.View.{View}
use Rattle.channel_run.specs.StandsFor.{StandsFor}

true_false : true ≡ false → ⊥
true_false e = cc

module _ {T : Type 0} where
  pub answered : (kind : Kind) (past : Past T) (step : Step T) (reply : Reply T) → IsAnswer kind past step reply
      → wants_memory reply ≡ false → reply ≡ answer_of kind past step
  answered kind past step reply (inl is) not = is
  answered kind past step reply (inr wants) not = absurd (true_false (sym (ap wants_memory wants.1) ∙ not))

  -- so the past after it is the one that the model decides
  pub made_after : (kind : Kind) (past : Past T) (step : Step T) (reply : Reply T) (run : View T)
      → reply ≡ answer_of kind past step
      → StandsFor kind (past_after past step reply) run → StandsFor kind (past_after past step (answer_of kind past step)) run
  made_after kind past step reply run is stands =
      subst (λ (answer : Reply T). StandsFor kind (past_after past step answer) run) is stands
