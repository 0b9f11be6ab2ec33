-- When a step may want memory: it makes a name, puts a message in, or begins to wait.
use Rattle.std.proofs.Common.{◌≡◌, ℕ, Bool, true, false, not, ◌||◌, Some, None, Option, refl, ◌∙◌, ap}
use Rattle.std.specs.Prelude.{is_some, is_none, ◌&&◌, option_and_then}
use Rattle.channel_model.specs.declared.step.Refusal.{Refusal}
use Rattle.channel_model.specs.declared.step.Step.{Step}
use Rattle.channel_model.specs.declared.step.Step.TheVariants.{Poll}
use Rattle.channel_model.specs.Operations.{Operation, operation_in, sending, unsent_message}
use Rattle.channel_model.specs.Replies.{is_pending, reply_in}
use Rattle.channel_model.specs.View.{View}
use Rattle.channel_model.specs.Memory.{brings_message, makes_name, may_want_memory_in, polls_newcomer}
use Rattle.channel_model.specs.Refusals.{refusal_in}

abbrev any_of : (name message wait : Bool) → Bool
any_of name message wait = name || message || wait

third : (name message wait : Bool) → wait ≡ true → any_of name message wait ≡ true
third true message wait e = refl
third false true wait e = refl
third false false wait e = e

second : (name message wait : Bool) → message ≡ true → any_of name message wait ≡ true
second true message wait e = refl
second false true wait e = refl
second false false wait e = cc

first : (name message wait : Bool) → name ≡ true → any_of name message wait ≡ true
first true message wait e = refl
first false message wait e = cc

module _ {T : Type 0} (run : View T) (step : Step T) (allowed : refusal_in run step ≡ None) where
  if_allowed : (reasons : Bool) → reasons ≡ true → (is_none (refusal_in run step) && reasons) ≡ true
  if_allowed reasons e = ap (λ (found : Option Refusal). is_none found && reasons) allowed ∙ e

  -- it makes a name
  pub wants-name : makes_name run step ≡ true → may_want_memory_in run step ≡ true
  wants-name makes = if_allowed _ (first (makes_name run step)
      (brings_message run step && is_none run.capacity && not run.closed)
      (polls_newcomer run step && is_pending (reply_in run step)) makes)

  -- it puts a message into an open unbounded channel
  pub wants-message : brings_message run step ≡ true → run.capacity ≡ None → run.closed ≡ false
      → may_want_memory_in run step ≡ true
  wants-message brings none opened =
      if_allowed _ (second (makes_name run step)
      (brings_message run step && is_none run.capacity && not run.closed)
      (polls_newcomer run step && is_pending (reply_in run step))
      (ap (λ b. b && is_none run.capacity && not run.closed) brings
      ∙ ap (λ (c : Option ℕ). true && is_none c && not run.closed) none ∙ ap (λ c. true && true && not c) opened))

  -- it begins to wait
  pub wants-wait : polls_newcomer run step ≡ true → is_pending (reply_in run step) ≡ true
      → may_want_memory_in run step ≡ true
  wants-wait newcomer pending =
      if_allowed _ (third (makes_name run step)
      (brings_message run step && is_none run.capacity && not run.closed)
      (polls_newcomer run step && is_pending (reply_in run step))
      (ap (λ n. n && is_pending (reply_in run step)) newcomer ∙ pending))

-- the unfinished send brings its message
pub brings-send : {T : Type 0} (run : View T) (op sender : ℕ) (message : T)
    → operation_in run.operations op ≡ Some (sending sender (Some message)) → brings_message run (Poll op) ≡ true
brings-send {T} run op sender message o =
    ap (λ (found : Option (Operation T)). is_some (option_and_then unsent_message found)) o
