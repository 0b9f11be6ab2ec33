-- What was accepted is what was taken, followed by what is held.
use Rattle.std.proofs.Common.{◌≡◌, ℕ, List, [], ◌∷◌, ◌++◌, Bool, true, false, Some, None, Option, ◌⊎◌, inl, inr, refl, sym, ◌∙◌, ap, length, drop, append_assoc, ◌+◌, arith, length-append}
use Rattle.std.proofs.Math.Seq.{drop-append_seam}
use Rattle.std.specs.Prelude.{slice_get}
use Rattle.channel_model.specs.declared.step.Kind.{Kind}
use Rattle.channel_model.specs.declared.step.Step.{Step}
use Rattle.channel_model.specs.declared.step.Step.TheVariants.{TrySend, ForceSend, TryRecv, Poll, PollNext}
use Rattle.channel_model.specs.declared.step.Reply.{Reply}
use Rattle.channel_model.specs.Past.{Past}
use Rattle.channel_model.specs.Operations.{Operation, awaiting_close, operation_of, receiving, sending, live_operations}
use Rattle.channel_model.specs.Messages.{accepted_by, accepted_messages, held_messages, oldest_message, taken_by, taken_messages, with_last}
use Rattle.channel_model.specs.Handles.{live_names, Receivers}
use Rattle.channel_model.specs.Closing.{is_closed, has_none}
use Rattle.channel_model.specs.Replies.{due_reply, poll_reply}
use Rattle.channel_model.specs.Legal.{IsLegal}
use Rattle.channel_model.proofs.ReplyForms.{force_send_reply, poll_closed_reply, poll_next_reply, poll_recv_reply, poll_send_reply, try_recv_reply, try_send_reply, is_full}

module _ {T : Type 0} where
  -- a reply takes nothing, or the oldest message
  TakesOldest : Reply T → Option T → Type 0
  TakesOldest reply oldest = (taken_by reply ≡ None) ⊎ (taken_by reply ≡ oldest)

try_send-takes : {T : Type 0} (closed full : Bool) (message : T) (oldest : Option T)
    → TakesOldest (try_send_reply closed full message) oldest
unfolding TakesOldest
try_send-takes true full message oldest = inl refl
try_send-takes false true message oldest = inl refl
try_send-takes false false message oldest = inl refl

force_send-takes : {T : Type 0} (closed full : Bool) (message : T) (oldest : Option T)
    → TakesOldest (force_send_reply closed full oldest message) oldest
unfolding TakesOldest
force_send-takes true full message oldest = inl refl
force_send-takes false true message oldest = inr refl
force_send-takes false false message oldest = inl refl

try_recv-takes : {T : Type 0} (oldest : Option T) (closed : Bool) → TakesOldest (try_recv_reply oldest closed) oldest
unfolding TakesOldest
try_recv-takes (Some first) closed = inr refl
try_recv-takes None false = inl refl
try_recv-takes None true = inl refl

poll_send-takes : {T : Type 0} (message : Option T) (closed full : Bool) (oldest : Option T)
    → TakesOldest (poll_send_reply message closed full) oldest
unfolding TakesOldest
poll_send-takes None closed full oldest = inl refl
poll_send-takes (Some message) true full oldest = inl refl
poll_send-takes (Some message) false true oldest = inl refl
poll_send-takes (Some message) false false oldest = inl refl

poll_recv-takes : {T : Type 0} (oldest : Option T) (closed : Bool) → TakesOldest (poll_recv_reply oldest closed) oldest
unfolding TakesOldest
poll_recv-takes (Some first) closed = inr refl
poll_recv-takes None true = inl refl
poll_recv-takes None false = inl refl

poll_next-takes : {T : Type 0} (oldest : Option T) (closed : Bool) → TakesOldest (poll_next_reply oldest closed) oldest
unfolding TakesOldest
poll_next-takes (Some first) closed = inr refl
poll_next-takes None true = inl refl
poll_next-takes None false = inl refl

poll_closed-takes : {T : Type 0} (no_receiver : Bool) (oldest : Option T)
    → TakesOldest (poll_closed_reply no_receiver) oldest
unfolding TakesOldest
poll_closed-takes true oldest = inl refl
poll_closed-takes false oldest = inl refl

poll-takes : {T : Type 0} (operation : Option (Operation T)) (closed no_receiver full : Bool) (oldest : Option T)
    → TakesOldest (poll_reply closed no_receiver full oldest operation) oldest
unfolding TakesOldest
poll-takes (Some (sending sender message)) closed no_receiver full oldest = poll_send-takes message closed full oldest
poll-takes (Some (receiving receiver)) closed no_receiver full oldest = poll_recv-takes oldest closed
poll-takes (Some (awaiting_close sender)) closed no_receiver full oldest = poll_closed-takes no_receiver oldest
poll-takes None closed no_receiver full oldest = inl refl

due_reply-takes : {T : Type 0} (kind : Kind) (past : Past T) (step : Step T)
    → TakesOldest (due_reply kind past step) (oldest_message past)
unfolding TakesOldest
due_reply-takes kind past (TrySend sender message) =
    try_send-takes (is_closed past) (is_full kind past) message (oldest_message past)
due_reply-takes kind past (ForceSend sender message) =
    force_send-takes (is_closed past) (is_full kind past) message (oldest_message past)
due_reply-takes kind past (TryRecv receiver) = try_recv-takes (oldest_message past) (is_closed past)
due_reply-takes kind past (Poll op) = poll-takes (operation_of past op) (is_closed past) (has_none (live_names Receivers past))
    (is_full kind past) (oldest_message past)
due_reply-takes kind past (PollNext receiver) = poll_next-takes (oldest_message past) (is_closed past)
due_reply-takes kind past step = inl refl

-- One step more: it puts a message in or none, and takes the first one held or none.
Conserved-step : {T : Type 0} (taken held : List T) (put took : Option T) → (took ≡ None) ⊎ (took ≡ slice_get held 0)
    → (rest : List T) × (with_last (taken ++ held) put ≡ with_last taken took ++ rest)
Conserved-step taken held None None which = (held, refl)
Conserved-step taken held (Some new) None which = (held ++ new ∷ [], append_assoc taken held (new ∷ []))
Conserved-step taken [] put (Some message) (inl e) = cc
Conserved-step taken [] put (Some message) (inr e) = cc
Conserved-step taken (first ∷ held) put (Some message) (inl e) = cc
Conserved-step taken (first ∷ held) None (Some message) (inr e) =
    let same : message ≡ first = cc in (held, rw same (simp append_assoc))
Conserved-step taken (first ∷ held) (Some new) (Some message) (inr e) =
    let same : message ≡ first = cc in (held ++ new ∷ [], rw same (simp append_assoc))

-- what is left of it is what is held
held_rest : {T : Type 0} (accepted taken rest : List T) → accepted ≡ taken ++ rest
    → accepted ≡ taken ++ drop (length taken) accepted
held_rest accepted taken rest e = rw e (ap (λ held. taken ++ held) (sym (drop-append_seam taken rest)))

-- What was accepted is what was taken, followed by what is held.
pub accepted_messages-IsLegal : {T : Type 0} (kind : Kind) (past : Past T) → IsLegal kind past
    → accepted_messages past ≡ taken_messages past ++ held_messages past
unfolding TakesOldest
accepted_messages-IsLegal kind [] legal = refl
accepted_messages-IsLegal kind ((step, reply) ∷ past) legal =
    let takes : TakesOldest reply (oldest_message past) = rw legal.1 (due_reply-takes kind past step) in
    let more = Conserved-step (taken_messages past) (held_messages past) (accepted_by (live_operations past) step reply)
    (taken_by reply) takes in
    held_rest (with_last (accepted_messages past) (accepted_by (live_operations past) step reply))
    (with_last (taken_messages past) (taken_by reply)) more.0
    (ap (λ all. with_last all (accepted_by (live_operations past) step reply)) (accepted_messages-IsLegal kind past legal.0) ∙ more.1)

abbrev pub count_of : {T : Type 0} → Option T → ℕ
count_of None = 0
count_of (Some message) = 1

pub length-with_last : {T : Type 0} (messages : List T) (found : Option T)
    → length (with_last messages found) ≡ length messages + count_of found
length-with_last messages None = omega arith
length-with_last messages (Some message) = length-append messages (message ∷ [])
