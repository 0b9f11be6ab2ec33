-- A step answers by the refusal that the code looked for: it is refused, it is made, or it wants memory.
use Rattle.std.proofs.Common.{◌≡◌, ◌⊎◌, inl, inr, true, false, not, Some, None, Option, refl, sym, ◌∙◌, ap, subst, ℕ, ◌||◌}
use Rattle.std.specs.Prelude.{is_none, MatchOption, ◌&&◌, ◌||◌, is_some}
use Rattle.channel_model.specs.declared.step.Refusal.{Refusal}
use Rattle.channel_model.specs.declared.step.Refusal.TheVariants.{Unknown, Borrowed, OutOfMemory}
use Rattle.channel_model.specs.declared.step.Step.{Step}
use Rattle.channel_model.specs.declared.step.Reply.{Reply}
use Rattle.channel_model.specs.declared.step.Reply.TheVariants.{Refused}
use Rattle.channel_model.specs.Replies.{is_pending, reply_in}
use Rattle.channel_model.specs.Refusals.{is_borrowed, is_known, is_one_too_many, is_taken, refusal_in}
use Rattle.channel_model.specs.Memory.{brings_message, makes_name, may_want_memory_in, polls_newcomer}
use Rattle.channel_model.specs.Messages.{message_in}
use Rattle.channel_model.specs.View.{View}
use Rattle.channel_run.specs.RunSteps.{IsMade, IsRefused, StepsAsAllowed, StepsTo}
use Rattle.channel_run.proofs.Steps.Wanting.{wants-wait}
use Rattle.channel_run.proofs.Alike.SameTables.{first_refusal}
use Rattle.channel_run.proofs.Alike.SameViews.{AreAlike-refl}
use Rattle.channel_model.specs.declared.step.Step.TheVariants.{Poll}
use Rattle.channel_model.specs.Operations.{Operation, operation_in}

pub StepsTo-made : {T : Type 0} (before after : View T) (step : Step T) (reply : Reply T)
    → refusal_in before step ≡ None → IsMade before step reply after → StepsTo before step reply after
StepsTo-made before after step reply none is =
    subst (λ (found : Option Refusal). MatchOption found
    (IsMade before step reply after ⊎ ((may_want_memory_in before step ≡ true)
    × IsRefused before step OutOfMemory reply after)) (λ refusal. IsRefused before step refusal reply after))
    (sym none) (inl is)

pub StepsTo-wants : {T : Type 0} (before after : View T) (step : Step T) (reply : Reply T)
    → may_want_memory_in before step ≡ true → IsRefused before step OutOfMemory reply after
    → StepsTo before step reply after
StepsTo-wants {T} before after step reply wanted is = go (refusal_in before step) refl
  where
    go : (found : Option Refusal) → refusal_in before step ≡ found → StepsTo before step reply after
    go (Some refusal) e = let no_memory : may_want_memory_in before step ≡ false =
        ap (λ (found : Option Refusal). is_none found
        && (makes_name before step || (brings_message before step && is_none before.capacity && not before.closed)
        || (polls_newcomer before step && is_pending (reply_in before step)))) e in cc
    go None e =
        subst (λ (found : Option Refusal). MatchOption found
        (IsMade before step reply after ⊎ ((may_want_memory_in before step ≡ true)
        × IsRefused before step OutOfMemory reply after)) (λ refusal. IsRefused before step refusal reply after))
        (sym e) (inr (wanted, is))

pub StepsTo-refused : {T : Type 0} (before after : View T) (step : Step T) (refusal : Refusal) (reply : Reply T)
    → refusal_in before step ≡ Some refusal → IsRefused before step refusal reply after
    → StepsTo before step reply after
StepsTo-refused before after step refusal reply some is =
    subst (λ (found : Option Refusal). MatchOption found
    (IsMade before step reply after ⊎ ((may_want_memory_in before step ≡ true)
    × IsRefused before step OutOfMemory reply after)) (λ refusal. IsRefused before step refusal reply after))
    (sym some) is

-- nothing changed, and the message came back
pub IsRefused-unchanged : {T : Type 0} (run : View T) (step : Step T) (refusal : Refusal)
    → IsRefused run step refusal (Refused refusal (message_in step)) run
IsRefused-unchanged run step refusal = record { replied = refl; unchanged = AreAlike-refl run }

module _ {T : Type 0} (run : View T) (step : Step T) where
  pub unknown_name : is_known run step ≡ false → refusal_in run step ≡ Some Unknown
  unknown_name k = ap (λ known. first_refusal known (is_taken run step) (is_borrowed run step)
      (is_one_too_many run step)) k

  pub borrowed_handle : is_known run step ≡ true → is_taken run step ≡ false
      → is_borrowed run step ≡ true
      → refusal_in run step ≡ Some Borrowed
  borrowed_handle k t b =
      ap (λ known. first_refusal known (is_taken run step) (is_borrowed run step) (is_one_too_many run step)) k
      ∙ ap (λ taken. first_refusal true taken (is_borrowed run step) (is_one_too_many run step)) t
      ∙ ap (λ borrowed. first_refusal true false borrowed (is_one_too_many run step)) b

  pub not_refused : is_known run step ≡ true → is_taken run step ≡ false
      → is_borrowed run step ≡ false
      → is_one_too_many run step ≡ false → refusal_in run step ≡ None
  not_refused k t b m =
      ap (λ known. first_refusal known (is_taken run step) (is_borrowed run step) (is_one_too_many run step)) k
      ∙ ap (λ taken. first_refusal true taken (is_borrowed run step) (is_one_too_many run step)) t
      ∙ ap (λ borrowed. first_refusal true false borrowed (is_one_too_many run step)) b
      ∙ ap (λ many. first_refusal true false false many) m

-- a poll of an operation that is there isn't refused
pub poll_not_refused : {T : Type 0} (run : View T) (op : ℕ) (operation : Operation T)
    → operation_in run.operations op ≡ Some operation → refusal_in run (Poll op) ≡ None
poll_not_refused {T} run op operation o =
    not_refused run (Poll op) (ap (λ (found : Option (Operation T)). is_some found) o) refl refl refl

-- a poll that nothing refuses
pub StepsTo-allowed : {T : Type 0} (run after : View T) (step : Step T) (reply : Reply T)
    → refusal_in run step ≡ None → StepsAsAllowed run step reply after → StepsTo run step reply after
StepsTo-allowed run after step reply allowed (inl made) = StepsTo-made run after step reply allowed made
StepsTo-allowed run after step reply allowed (inr wanted) =
    StepsTo-wants run after step reply (wants-wait run step allowed wanted.0 wanted.1) wanted.2
