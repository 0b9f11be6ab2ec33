-- What a poll leaves of a view, outcome by outcome.
use Rattle.std.proofs.Common.{◌≡◌, ℕ, [], ◌∷◌, ◌++◌, true, false, cond, Some, None, Ok, Err, Option, refl, sym, ◌∙◌, ap, drop}
use Rattle.std.specs.Prelude.{slice_get, option_and_then}
use Rattle.futures.specs.declared.task.Poll.TheVariants.{Ready, Pending}
use Rattle.channel_model.specs.declared.step.Step.TheVariants.{Poll, PollNext}
use Rattle.channel_model.specs.declared.step.Reply.TheVariants.{SendPolled, RecvPolled, ClosedPolled, NextPolled}
use Rattle.channel_model.specs.Operations.{Operation, awaiting_close, is_finished_send, operation_in, receiving, sending, unsent_message, with_finished}
use Rattle.channel_model.specs.Messages.{with_last}
use Rattle.channel_model.specs.Closing.{has_none}
use Rattle.channel_core.specs.Tables.{send_error}
use Rattle.channel_model.specs.Replies.{poll_reply, is_full_in}
use Rattle.channel_model.specs.Rosters.{leave, wait}
use Rattle.channel_model.specs.Notices.{after_accepting}
use Rattle.channel_model.specs.View.{View, AreAlike}
use Rattle.channel_run.specs.RunSteps.{IsMade, after_step}
use Rattle.channel_model.proofs.ReplyForms.{poll_closed_reply, poll_next_reply, poll_recv_reply, poll_send_reply}
use Rattle.channel_run.proofs.Alike.SameNames.{AreSameNames-refl}
use Rattle.channel_run.proofs.Alike.SameOperations.{AreSameOperations-refl}
use Rattle.channel_run.proofs.Alike.SameViews.{AreAlike-refl, told}
use Rattle.channel_run.proofs.Outcomes.Tellings.{is_made, accepted_told, received_told}

-- ---- polls of a send

pub made-poll_finished_send : {T : Type 0} (run : View T) (op sender : ℕ)
    → operation_in run.operations op ≡ Some (sending sender None) → IsMade run (Poll op) (SendPolled Pending) run
made-poll_finished_send {T} run op sender p =
    is_made run (Poll op) (SendPolled Pending) run
    (sym (ap (λ (operation : Option (Operation T)). poll_reply run.closed (has_none run.receivers)
    (is_full_in run) (slice_get run.messages 0) operation) p))
    (told run run.closed run.closed run.rosters
    (cond (is_finished_send (operation_in run.operations op)) run.rosters
    (record run.rosters { sends = wait op run.rosters.sends })) refl
    (sym (ap (λ (operation : Option (Operation T)). cond (is_finished_send operation) run.rosters
    (record run.rosters { sends = wait op run.rosters.sends })) p)))

pub made-poll_send_closed : {T : Type 0} (run : View T) (op sender : ℕ) (message : T)
    → operation_in run.operations op ≡ Some (sending sender (Some message)) → run.closed ≡ true
    → IsMade run (Poll op) (SendPolled (Ready (Err (send_error message))))
    (record run {
      operations = with_finished op run.operations;
      rosters = record run.rosters { sends = leave op run.rosters.sends };
    })
made-poll_send_closed {T} run op sender message p c =
    is_made run (Poll op) (SendPolled (Ready (Err (send_error message))))
    (record run {
      operations = with_finished op run.operations;
      rosters = record run.rosters { sends = leave op run.rosters.sends };
    })
    (sym (ap (λ (operation : Option (Operation T)). poll_reply run.closed (has_none run.receivers)
    (is_full_in run) (slice_get run.messages 0) operation) p
    ∙ ap (λ closed. poll_send_reply (Some message) closed (is_full_in run)) c))
    (AreAlike-refl (record run {
      operations = with_finished op run.operations;
      rosters = record run.rosters { sends = leave op run.rosters.sends };
    }))

pub made-poll_send_full : {T : Type 0} (run : View T) (op sender : ℕ) (message : T)
    → operation_in run.operations op ≡ Some (sending sender (Some message)) → run.closed ≡ false → is_full_in run ≡ true
    → IsMade run (Poll op) (SendPolled Pending)
    (record run { rosters = record run.rosters { sends = wait op run.rosters.sends } })
made-poll_send_full {T} run op sender message p c f =
    is_made run (Poll op) (SendPolled Pending)
    (record run { rosters = record run.rosters { sends = wait op run.rosters.sends } })
    (sym (ap (λ (operation : Option (Operation T)). poll_reply run.closed (has_none run.receivers)
    (is_full_in run) (slice_get run.messages 0) operation) p
    ∙ ap (λ closed. poll_send_reply (Some message) closed (is_full_in run)) c
    ∙ ap (λ full. poll_send_reply (Some message) false full) f))
    (told run run.closed run.closed (record run.rosters { sends = wait op run.rosters.sends })
    (cond (is_finished_send (operation_in run.operations op)) run.rosters
    (record run.rosters { sends = wait op run.rosters.sends })) refl
    (sym (ap (λ (operation : Option (Operation T)). cond (is_finished_send operation) run.rosters
    (record run.rosters { sends = wait op run.rosters.sends })) p)))

-- the message of the operation is the one that goes in

with_message : {T : Type 0} (run : View T) (op : ℕ) (message : T)
    → option_and_then unsent_message (operation_in run.operations op) ≡ Some message
    → AreAlike (record run {
      messages = run.messages ++ message ∷ [];
      operations = with_finished op run.operations;
      rosters = accepted_told (record run.rosters { sends = leave op run.rosters.sends });
    })
    (after_step run (Poll op) (SendPolled (Ready (Ok tt))))
with_message {T} run op message e = record {
  capacity = refl;
  messages = sym (ap (λ (found : Option T). with_last run.messages found) e);
  closed = refl;
  senders = AreSameNames-refl run.senders;
  receivers = AreSameNames-refl run.receivers;
  weak_senders = AreSameNames-refl run.weak_senders;
  weak_receivers = AreSameNames-refl run.weak_receivers;
  operations = AreSameOperations-refl (with_finished op run.operations);
  rosters = sym (ap (λ (found : Option T). after_accepting found
      (record run.rosters { sends = leave op run.rosters.sends })) e);
}

pub made-poll_send_accepted : {T : Type 0} (run : View T) (op sender : ℕ) (message : T)
    → operation_in run.operations op ≡ Some (sending sender (Some message)) → run.closed ≡ false
    → is_full_in run ≡ false → IsMade run (Poll op) (SendPolled (Ready (Ok tt)))
    (record run {
      messages = run.messages ++ message ∷ [];
      operations = with_finished op run.operations;
      rosters = accepted_told (record run.rosters { sends = leave op run.rosters.sends });
    })
made-poll_send_accepted {T} run op sender message p c f =
    is_made run (Poll op) (SendPolled (Ready (Ok tt)))
    (record run {
      messages = run.messages ++ message ∷ [];
      operations = with_finished op run.operations;
      rosters = accepted_told (record run.rosters { sends = leave op run.rosters.sends });
    })
    (sym (ap (λ (operation : Option (Operation T)). poll_reply run.closed (has_none run.receivers)
    (is_full_in run) (slice_get run.messages 0) operation) p
    ∙ ap (λ closed. poll_send_reply (Some message) closed (is_full_in run)) c
    ∙ ap (λ full. poll_send_reply (Some message) false full) f))
    (with_message run op message (ap (λ (operation : Option (Operation T)). option_and_then unsent_message operation)
    p))

-- ---- polls of a receive

pub made-poll_recv_taken : {T : Type 0} (run : View T) (op receiver : ℕ) (oldest : T)
    → operation_in run.operations op ≡ Some (receiving receiver) → slice_get run.messages 0 ≡ Some oldest
    → IsMade run (Poll op) (RecvPolled (Ready (Ok oldest)))
    (record run {
      messages = drop 1 run.messages;
      rosters = received_told (record run.rosters { receives = leave op run.rosters.receives });
    })
made-poll_recv_taken {T} run op receiver oldest p o =
    is_made run (Poll op) (RecvPolled (Ready (Ok oldest)))
    (record run {
      messages = drop 1 run.messages;
      rosters = received_told (record run.rosters { receives = leave op run.rosters.receives });
    })
    (sym (ap (λ (operation : Option (Operation T)). poll_reply run.closed (has_none run.receivers)
    (is_full_in run) (slice_get run.messages 0) operation) p ∙ ap (λ (first : Option T). poll_recv_reply first run.closed) o))
    (AreAlike-refl (record run {
      messages = drop 1 run.messages;
      rosters = received_told (record run.rosters { receives = leave op run.rosters.receives });
    }))

pub made-poll_recv_closed : {T : Type 0} (run : View T) (op receiver : ℕ)
    → operation_in run.operations op ≡ Some (receiving receiver) → run.closed ≡ true → slice_get run.messages 0 ≡ None
    → IsMade run (Poll op) (RecvPolled (Ready (Err (record {}))))
    (record run { rosters = record run.rosters { receives = leave op run.rosters.receives } })
made-poll_recv_closed {T} run op receiver p c o =
    is_made run (Poll op) (RecvPolled (Ready (Err (record {}))))
    (record run { rosters = record run.rosters { receives = leave op run.rosters.receives } })
    (sym (ap (λ (operation : Option (Operation T)). poll_reply run.closed (has_none run.receivers)
    (is_full_in run) (slice_get run.messages 0) operation) p ∙ ap (λ (first : Option T). poll_recv_reply first run.closed) o
    ∙ ap (λ closed. poll_recv_reply None closed) c))
    (AreAlike-refl (record run { rosters = record run.rosters { receives = leave op run.rosters.receives } }))

pub made-poll_recv_pending : {T : Type 0} (run : View T) (op receiver : ℕ)
    → operation_in run.operations op ≡ Some (receiving receiver) → run.closed ≡ false → slice_get run.messages 0 ≡ None
    → IsMade run (Poll op) (RecvPolled Pending)
    (record run { rosters = record run.rosters { receives = wait op run.rosters.receives } })
made-poll_recv_pending {T} run op receiver p c o =
    is_made run (Poll op) (RecvPolled Pending)
    (record run { rosters = record run.rosters { receives = wait op run.rosters.receives } })
    (sym (ap (λ (operation : Option (Operation T)). poll_reply run.closed (has_none run.receivers)
    (is_full_in run) (slice_get run.messages 0) operation) p ∙ ap (λ (first : Option T). poll_recv_reply first run.closed) o
    ∙ ap (λ closed. poll_recv_reply None closed) c))
    (AreAlike-refl (record run { rosters = record run.rosters { receives = wait op run.rosters.receives } }))

-- ---- polls of a closed operation

pub made-poll_closed_ready : {T : Type 0} (run : View T) (op sender : ℕ)
    → operation_in run.operations op ≡ Some (awaiting_close sender) → has_none run.receivers ≡ true
    → IsMade run (Poll op) (ClosedPolled (Ready tt))
    (record run { rosters = record run.rosters { closeds = leave op run.rosters.closeds } })
made-poll_closed_ready {T} run op sender p none =
    is_made run (Poll op) (ClosedPolled (Ready tt))
    (record run { rosters = record run.rosters { closeds = leave op run.rosters.closeds } })
    (sym (ap (λ (operation : Option (Operation T)). poll_reply run.closed (has_none run.receivers)
    (is_full_in run) (slice_get run.messages 0) operation) p ∙ ap (λ none. poll_closed_reply none) none))
    (AreAlike-refl (record run { rosters = record run.rosters { closeds = leave op run.rosters.closeds } }))

pub made-poll_closed_pending : {T : Type 0} (run : View T) (op sender : ℕ)
    → operation_in run.operations op ≡ Some (awaiting_close sender) → has_none run.receivers ≡ false
    → IsMade run (Poll op) (ClosedPolled Pending)
    (record run { rosters = record run.rosters { closeds = wait op run.rosters.closeds } })
made-poll_closed_pending {T} run op sender p some =
    is_made run (Poll op) (ClosedPolled Pending)
    (record run { rosters = record run.rosters { closeds = wait op run.rosters.closeds } })
    (sym (ap (λ (operation : Option (Operation T)). poll_reply run.closed (has_none run.receivers)
    (is_full_in run) (slice_get run.messages 0) operation) p ∙ ap (λ none. poll_closed_reply none) some))
    (AreAlike-refl (record run { rosters = record run.rosters { closeds = wait op run.rosters.closeds } }))

-- ---- polls of a stream

pub made-poll_next_taken : {T : Type 0} (run : View T) (receiver : ℕ) (oldest : T)
    → slice_get run.messages 0 ≡ Some oldest
    → IsMade run (PollNext receiver) (NextPolled (Ready (Some oldest)))
    (record run {
      messages = drop 1 run.messages;
      rosters = received_told (record run.rosters { streams = leave receiver run.rosters.streams });
    })
made-poll_next_taken {T} run receiver oldest o =
    is_made run (PollNext receiver) (NextPolled (Ready (Some oldest)))
    (record run {
      messages = drop 1 run.messages;
      rosters = received_told (record run.rosters { streams = leave receiver run.rosters.streams });
    })
    (sym (ap (λ (first : Option T). poll_next_reply first run.closed) o))
    (AreAlike-refl (record run {
      messages = drop 1 run.messages;
      rosters = received_told (record run.rosters { streams = leave receiver run.rosters.streams });
    }))

pub made-poll_next_end : {T : Type 0} (run : View T) (receiver : ℕ) → run.closed ≡ true
    → slice_get run.messages 0 ≡ None → IsMade run (PollNext receiver) (NextPolled (Ready None))
    (record run { rosters = record run.rosters { streams = leave receiver run.rosters.streams } })
made-poll_next_end {T} run receiver c o =
    is_made run (PollNext receiver) (NextPolled (Ready None))
    (record run { rosters = record run.rosters { streams = leave receiver run.rosters.streams } })
    (sym (ap (λ (first : Option T). poll_next_reply first run.closed) o ∙ ap (λ closed. poll_next_reply None closed) c))
    (AreAlike-refl (record run { rosters = record run.rosters { streams = leave receiver run.rosters.streams } }))

pub made-poll_next_pending : {T : Type 0} (run : View T) (receiver : ℕ) → run.closed ≡ false
    → slice_get run.messages 0 ≡ None → IsMade run (PollNext receiver) (NextPolled Pending)
    (record run { rosters = record run.rosters { streams = wait receiver run.rosters.streams } })
made-poll_next_pending {T} run receiver c o =
    is_made run (PollNext receiver) (NextPolled Pending)
    (record run { rosters = record run.rosters { streams = wait receiver run.rosters.streams } })
    (sym (ap (λ (first : Option T). poll_next_reply first run.closed) o ∙ ap (λ closed. poll_next_reply None closed) c))
    (AreAlike-refl (record run { rosters = record run.rosters { streams = wait receiver run.rosters.streams } }))
