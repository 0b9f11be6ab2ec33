-- What a list of steps comes to, and what settling does.
use Rattle.std.specs.Prelude.{◌≡◌, ◌⊎◌, ℕ, true, List, [], ◌∷◌, ◌++◌, map, Option, Some, None, Ok, slice_get}
use Rattle.channel_model.specs.declared.step.Kind.{Kind}
use Rattle.channel_model.specs.declared.step.Who.{Who}
use Rattle.channel_model.specs.declared.step.Step.{Step}
use Rattle.channel_model.specs.declared.step.Step.TheVariants.{TryRecv, TrySend}
use Rattle.channel_model.specs.declared.step.Reply.{Reply}
use Rattle.channel_model.specs.declared.step.Reply.TheVariants.{Received, TrySent}
use Rattle.channel_model.specs.Past.{Past}
use Rattle.channel_model.specs.Messages.{accepted_messages, taken_messages}
use Rattle.channel_model.specs.Answers.{AreAnswers}
use Rattle.channel_model.specs.Notices.{rosters}
use Rattle.channel_model.specs.Replies.{due_reply, is_full_in}
use Rattle.channel_model.specs.Polling.{Settles, poll_of, told_polls}
use Rattle.channel_model.specs.View.{View}
use Rattle.channel_run.specs.StandsFor.{StandsFor}

-- There is a past of these steps: each reply is an answer after the past of the steps before it,
-- and the last past stands for the run at the end. What was accepted is what was taken, followed by
-- what the run holds, in order.
pub record ComesTo {T : Type 0} (kind : Kind) (steps : List (Step T)) (replies : List (Reply T))
    (run : View T) : Type 0 where
  pub past : Past T
  pub answers : AreAnswers kind [] steps replies past
  pub stands : StandsFor kind past run
  pub conserved : accepted_messages past ≡ taken_messages past ++ run.messages

-- These steps continue this past: each reply is an answer after the past of the steps before it, and
-- the past that is longer by them all stands for the run now.
pub record Continues {T : Type 0} (kind : Kind) (past : Past T) (steps : List (Step T))
    (replies : List (Reply T)) (run : View T) : Type 0 where
  pub after : Past T
  pub answers : AreAnswers kind past steps replies after
  pub stands : StandsFor kind after run

-- Each of these messages was received in turn, by a step of its own.
abbrev pub ReceivesInTurn : {T : Type 0} → Kind → Past T → (receiver : ℕ) → List T → View T → Type 0
ReceivesInTurn kind past receiver messages run =
    Continues kind past (map (λ message. TryRecv receiver) messages)
    (map (λ message. Received (Ok message)) messages) run

-- Each of these messages was sent in turn, by a step of its own.
abbrev pub SendsInTurn : {T : Type 0} → Kind → Past T → (sender : ℕ) → List T → View T → Type 0
SendsInTurn kind past sender messages run =
    Continues kind past (map (λ message. TrySend sender message) messages)
    (map (λ message. TrySent (Ok tt)) messages) run

-- No message more goes in: none is left, or the channel is closed or full, or it may want memory.
abbrev pub SendsNoMore : {T : Type 0} → List T → View T → Type 0
SendsNoMore messages run =
    (messages ≡ []) ⊎ (run.closed ≡ true) ⊎ (is_full_in run ≡ true) ⊎ (run.capacity ≡ None)

-- There are polls after this past that settled the channel, in this number, with these ones ready,
-- and the past that is longer by them stands for the run now.
pub record SettlesTo {T : Type 0} (kind : Kind) (past : Past T) (count : ℕ)
    (finished : List (Who × Reply T)) (run : View T) : Type 0 where
  pub polls : Past T
  pub settles : Settles kind past polls count finished
  pub stands : StandsFor kind (polls ++ past) run

-- After this past the first who was told was polled, had the reply that was due, and the past that
-- is longer by this poll stands for the run now; or nobody was told, and the past stands for it.
abbrev pub PollsFirst : {T : Type 0} → Kind → Past T → Option (Who × Reply T) → View T → Type 0
PollsFirst {T} kind past None run =
    (told_polls {T = T} (rosters past) ≡ []) × StandsFor kind past run
PollsFirst {T} kind past (Some (who, reply)) run =
    (slice_get (told_polls {T = T} (rosters past)) 0 ≡ Some (poll_of who))
    × (reply ≡ due_reply kind past (poll_of who))
    × StandsFor kind ((poll_of who, reply) ∷ past) run
