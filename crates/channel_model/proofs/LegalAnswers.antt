-- Whoever answers as the past decides makes only pasts that can come about.
use Rattle.std.proofs.Common.{◌≡◌, inl, inr, List, [], ◌∷◌, Bool, true, false, Some, None, Option, refl, sym, subst}
use Rattle.std.specs.Prelude.{is_some}
use Rattle.channel_model.specs.declared.step.Kind.{Kind}
use Rattle.channel_model.specs.declared.step.Refusal.{Refusal}
use Rattle.channel_model.specs.declared.step.Refusal.TheVariants.{OutOfMemory}
use Rattle.channel_model.specs.declared.step.Step.{Step}
use Rattle.channel_model.specs.declared.step.Step.TheVariants.{TrySend, ForceSend, TryRecv, Poll, PollNext}
use Rattle.channel_model.specs.declared.step.Reply.{Reply}
use Rattle.channel_model.specs.declared.step.Reply.TheVariants.{Refused}
use Rattle.channel_model.specs.Past.{Past}
use Rattle.channel_model.specs.Operations.{Operation, awaiting_close, operation_of, receiving, sending}
use Rattle.channel_model.specs.Messages.{oldest_message, message_in}
use Rattle.channel_model.specs.Handles.{live_names, Receivers}
use Rattle.channel_model.specs.Closing.{is_closed, has_none}
use Rattle.channel_model.specs.Replies.{due_reply, poll_reply}
use Rattle.channel_model.specs.Refusals.{is_known, refusal_of}
use Rattle.channel_model.specs.Answers.{AreAnswers, IsAnswer, past_after, refused_or}
use Rattle.channel_model.specs.Legal.{IsAllowed, IsLegal}
use Rattle.channel_model.specs.View.{view_of}
use Rattle.channel_model.proofs.ReplyForms.{force_send_reply, poll_closed_reply, poll_next_reply, poll_recv_reply, poll_send_reply, try_recv_reply, try_send_reply, is_full}
use Rattle.channel_model.proofs.AllowedSteps.{allowed}

-- ---- a step that is known stands in the past after its reply

-- after such a reply the past is longer
IsLonger : {T : Type 0} → Past T → Step T → Reply T → Type 0
IsLonger past step reply = past_after past step reply ≡ (step, reply) ∷ past

try_send-longer : {T : Type 0} (past : Past T) (step : Step T) (closed full : Bool) (message : T)
    → IsLonger past step (try_send_reply closed full message)
unfolding IsLonger
try_send-longer past step true full message = refl
try_send-longer past step false true message = refl
try_send-longer past step false false message = refl

force_send-longer : {T : Type 0} (past : Past T) (step : Step T) (closed full : Bool) (oldest : Option T) (message : T)
    → IsLonger past step (force_send_reply closed full oldest message)
unfolding IsLonger
force_send-longer past step true full oldest message = refl
force_send-longer past step false true oldest message = refl
force_send-longer past step false false oldest message = refl

try_recv-longer : {T : Type 0} (past : Past T) (step : Step T) (oldest : Option T) (closed : Bool)
    → IsLonger past step (try_recv_reply oldest closed)
unfolding IsLonger
try_recv-longer past step (Some oldest) closed = refl
try_recv-longer past step None true = refl
try_recv-longer past step None false = refl

poll_send-longer : {T : Type 0} (past : Past T) (step : Step T) (message : Option T) (closed full : Bool)
    → IsLonger past step (poll_send_reply message closed full)
unfolding IsLonger
poll_send-longer past step None closed full = refl
poll_send-longer past step (Some message) true full = refl
poll_send-longer past step (Some message) false true = refl
poll_send-longer past step (Some message) false false = refl

poll_recv-longer : {T : Type 0} (past : Past T) (step : Step T) (oldest : Option T) (closed : Bool)
    → IsLonger past step (poll_recv_reply oldest closed)
unfolding IsLonger
poll_recv-longer past step (Some oldest) closed = refl
poll_recv-longer past step None true = refl
poll_recv-longer past step None false = refl

poll_next-longer : {T : Type 0} (past : Past T) (step : Step T) (oldest : Option T) (closed : Bool)
    → IsLonger past step (poll_next_reply oldest closed)
unfolding IsLonger
poll_next-longer past step (Some oldest) closed = refl
poll_next-longer past step None true = refl
poll_next-longer past step None false = refl

poll_closed-longer : {T : Type 0} (past : Past T) (step : Step T) (no_receiver : Bool)
    → IsLonger past step (poll_closed_reply no_receiver)
unfolding IsLonger
poll_closed-longer past step true = refl
poll_closed-longer past step false = refl

poll-longer : {T : Type 0} (past : Past T) (step : Step T) (operation : Option (Operation T))
    (closed no_receiver full : Bool) (oldest : Option T) → is_some operation ≡ true
    → IsLonger past step (poll_reply closed no_receiver full oldest operation)
unfolding IsLonger
poll-longer past step (Some (sending sender message)) closed no_receiver full oldest some =
    poll_send-longer past step message closed full
poll-longer past step (Some (receiving receiver)) closed no_receiver full oldest some =
    poll_recv-longer past step oldest closed
poll-longer past step (Some (awaiting_close sender)) closed no_receiver full oldest some =
    poll_closed-longer past step no_receiver
poll-longer past step None closed no_receiver full oldest some = cc

pub due-longer : {T : Type 0} (kind : Kind) (past : Past T) (step : Step T) → is_known (view_of kind past) step ≡ true
    → past_after past step (due_reply kind past step) ≡ (step, due_reply kind past step) ∷ past
unfolding IsLonger
due-longer kind past (TrySend sender message) known =
    try_send-longer past (TrySend sender message) (is_closed past) (is_full kind past) message
due-longer kind past (ForceSend sender message) known =
    force_send-longer past (ForceSend sender message) (is_closed past) (is_full kind past) (oldest_message past) message
due-longer kind past (TryRecv receiver) known =
    try_recv-longer past (TryRecv receiver) (oldest_message past) (is_closed past)
due-longer kind past (Poll op) known = poll-longer past (Poll op) (operation_of past op) (is_closed past)
    (has_none (live_names Receivers past)) (is_full kind past) (oldest_message past) known
due-longer kind past (PollNext receiver) known =
    poll_next-longer past (PollNext receiver) (oldest_message past) (is_closed past)
due-longer kind past step known = refl

-- ---- an answered step, and a list of them

pub allowed_if_none : {T : Type 0} (step : Step T) (refusal : Option Refusal) → refusal ≡ None → IsAllowed step refusal
allowed_if_none (PollNext receiver) refusal none = inl none
allowed_if_none step refusal none = none

-- after a refusal, whichever it is, the past is as it was
legal_refused : {T : Type 0} (kind : Kind) (past : Past T) (step : Step T) (refusal : Refusal) (message : Option T)
    (reply : Reply T) → IsLegal kind past → reply ≡ Refused refusal message → IsLegal kind (past_after past step reply)
legal_refused {T} kind past step refusal message reply legal refused =
    subst (λ (r : Reply T). IsLegal kind (past_after past step r)) (sym refused) legal

legal_due : {T : Type 0} (kind : Kind) (past : Past T) (step : Step T) (reply : Reply T) → IsLegal kind past
    → refusal_of kind past step ≡ None → reply ≡ due_reply kind past step → IsLegal kind (past_after past step reply)
legal_due {T} kind past step reply legal none due =
    let longer = due-longer kind past step (allowed (view_of kind past) step none).known in
    subst (λ (r : Reply T). IsLegal kind (past_after past step r)) (sym due)
    (subst (λ (more : Past T). IsLegal kind more) (sym longer)
    (legal, refl, allowed_if_none step (refusal_of kind past step) none))

pub IsLegal-IsAnswer : {T : Type 0} (kind : Kind) (past : Past T) (step : Step T) (reply : Reply T) → IsLegal kind past
    → IsAnswer kind past step reply → IsLegal kind (past_after past step reply)
IsLegal-IsAnswer kind past step reply legal (inr wanted) =
    legal_refused kind past step OutOfMemory (message_in step) reply legal wanted.1
IsLegal-IsAnswer {T} kind past step reply legal (inl answer) = go (refusal_of kind past step) refl answer
  where
    go : (found : Option Refusal) → refusal_of kind past step ≡ found
        → reply ≡ refused_or found step (due_reply kind past step) → IsLegal kind (past_after past step reply)
    go (Some refusal) e is = legal_refused kind past step refusal (message_in step) reply legal is
    go None e is = legal_due kind past step reply legal e is

pub IsLegal-AreAnswers : {T : Type 0} (kind : Kind) (past : Past T) (steps : List (Step T)) (replies : List (Reply T))
    (after : Past T) → IsLegal kind past → AreAnswers kind past steps replies after → IsLegal kind after
IsLegal-AreAnswers {T} kind past [] [] after legal answers = subst (λ (p : Past T). IsLegal kind p) (sym answers) legal
IsLegal-AreAnswers kind past [] (reply ∷ replies) after legal answers = absurd answers
IsLegal-AreAnswers kind past (step ∷ steps) [] after legal answers = absurd answers
IsLegal-AreAnswers kind past (step ∷ steps) (reply ∷ replies) after legal answers =
    IsLegal-AreAnswers kind (past_after past step reply) steps replies after
    (IsLegal-IsAnswer kind past step reply legal answers.0) answers.1
