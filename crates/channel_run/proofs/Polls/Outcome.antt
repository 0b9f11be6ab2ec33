-- What a poll did to a run, and what its reply is: one case for a ready poll, a pending one, and want of memory.
use Rattle.std.proofs.Common.{◌≡◌, Bool, false, true, not, ◌||◌, ◌&&◌, Some, None, Ok, Err, Option, refl, sym, subst}
use Rattle.std.specs.Prelude.{Result, IfOk, OnErr, IsSome}
use Rattle.futures.specs.declared.task.Poll.{Poll as Polled}
use Rattle.futures.specs.declared.task.Poll.TheVariants.{Ready, Pending}
use Rattle.channel_core.specs.Channel.{Channel}
use Rattle.channel_core.specs.declared.errors.OutOfMemory.{OutOfMemory as OutOfMemoryError}
use Rattle.channel_model.specs.declared.step.Refusal.TheVariants.{OutOfMemory}
use Rattle.channel_model.specs.declared.step.Step.{Step}
use Rattle.channel_model.specs.declared.step.Reply.{Reply}
use Rattle.channel_model.specs.declared.step.Reply.TheVariants.{Refused}
use Rattle.channel_core.specs.Tables.{OnReady, OnWait}
use Rattle.channel_model.specs.View.{View}
use Rattle.channel_run.specs.RunSteps.{StepsTo}
use Rattle.channel_run.proofs.Tables.Kept.{Kept, Whole, shown_by}

-- a reply to a poll, and to want of memory
abbrev pub polled : {T A : Type 0} → (Polled A → Reply T) → Result (Polled A) OutOfMemoryError
    → Reply T
polled wrap (Ok poll) = wrap poll
polled wrap (Err error) = Refused OutOfMemory None

-- What a step did, and that what the run keeps fits together.
pub record Outcome {T W : Type 0} (run : View T) (step : Step T) (reply : Reply T)
    (kept : Kept T W) : Type 0 where
  pub whole : Whole kept
  pub steps : StepsTo run step reply (shown_by kept)

pub none_of : (a b c finished : Bool) → a ≡ false → b ≡ false → c ≡ false → finished ≡ false
    → (not (a || b || c) && not finished) ≡ true
none_of a b c finished e f g h = rw (e, f, g, h) refl

-- the first part of what is said of an error
pub first_on_err : {A E : Type 0} (B C : Type 0) (result : Result A E) → OnErr result (B × C)
    → OnErr result B
first_on_err B C (Ok answer) both = tt
first_on_err B C (Err error) both = both.0

-- both facts of a pending poll
pub both_on_wait : {A E : Type 0} (B C : Type 0) (result : Result (Polled A) E) → OnWait result B
    → OnWait result C
    → OnWait result (B × C)
both_on_wait B C (Ok (Ready answer)) one other = tt
both_on_wait B C (Ok Pending) one other = (one, other)
both_on_wait B C (Err error) one other = tt

pub is_there : {X : Type 0} (found : Option X) (entry : X) → found ≡ Some entry → IsSome found
is_there found entry e = rw e refl

-- The whole poll: what is done if it is ready, if it waits, and if memory is wanted.
module _ {T W A : Type 0} (Done : Reply T → Channel T W → Type 0) (wrap : Polled A → Reply T)
    (due : Polled A) (core ready : Channel T W) (Gone Held Wants : Type 0)
    (Waiting : Channel T W → Type 0)
    (if_ready : (answer : A) → Ready answer ≡ due → Gone → Done (wrap (Ready answer)) ready)
    (if_pending : (core' : Channel T W) → Pending ≡ due → Waiting core' → Done (wrap Pending) core')
    (if_wanted : Wants → Held → Done (Refused OutOfMemory None) core) where
  pub whole_poll : (result : Result (Polled A) OutOfMemoryError) (core' : Channel T W)
      → IfOk result (λ poll. poll ≡ due) → OnReady result (core' ≡ ready) → OnReady result Gone
      → OnWait result (Waiting core') → OnErr result (core' ≡ core) → OnErr result Held → OnErr result Wants
      → Done (polled wrap result) core'
  whole_poll (Ok (Ready answer)) core' replied after gone waits unchanged held wants =
      subst (λ (channel : Channel T W). Done (wrap (Ready answer)) channel) (sym after)
      (if_ready answer replied gone)
  whole_poll (Ok Pending) core' replied after gone waits unchanged held wants = if_pending core' replied waits
  whole_poll (Err error) core' replied after gone waits unchanged held wants =
      subst (λ (channel : Channel T W). Done (Refused OutOfMemory None) channel) (sym unchanged)
      (if_wanted wants held)
