-- One more call after a history.
use Rattle.std.proofs.Common.{◌≡◌, ◌<◌, ℕ, List, [], ◌∷◌, ◌++◌, Bool, true, false, not, ◌||◌, cond, Option, Some, None, refl, sym, ◌∙◌, ap, subst, map, reverse, length, drop, ◌==◌}
use Rattle.std.specs.Prelude.{slice_get}
use Rattle.std.proofs.Math.Bool.{or-false}
use Rattle.std.proofs.lemmas.List.{reverse-append}
use Rattle.channel_model.specs.declared.step.Kind.{Kind}
use Rattle.channel_model.specs.declared.step.Kind.TheVariants.{Bounded, Unbounded}
use Rattle.channel_model.specs.declared.step.Refusal.TheVariants.{Unknown}
use Rattle.channel_model.specs.declared.step.Step.{Step}
use Rattle.channel_model.specs.declared.step.Step.TheVariants.{TrySend, ForceSend, TryRecv, Close, IsClosed, Len}
use Rattle.channel_model.specs.declared.step.Reply.{Reply}
use Rattle.channel_model.specs.declared.step.Reply.TheVariants.{TrySent, Forced, Received, Flag, Count}
use Rattle.std.specs.List.{list_any}
use Rattle.channel_model.specs.Past.{Past}
use Rattle.channel_model.specs.Handles.{live_names, Receivers, Senders}
use Rattle.channel_model.specs.Messages.{accepted_by, held_messages, oldest_message, taken_by, with_last}
use Rattle.channel_model.specs.Capacity.{capacity_of, HasPositiveCapacity}
use Rattle.channel_core.specs.Queue as queue
use Rattle.channel_model.specs.Closing.{has_none, is_close, is_closed}
use Rattle.channel_model.specs.Operations.{live_operations}
use Rattle.channel_model.specs.Replies.{due_reply}
use Rattle.channel_model.proofs.ReplyForms.{force_send_reply, try_recv_reply, try_send_reply, is_full}
use Rattle.channel_model.specs.Refusals.{refusal_of}
use Rattle.channel_model.specs.Legal.{IsAllowed}
use Rattle.channel_core.specs.Tables.{force_send_answer, try_recv_answer, try_send_answer}
use Rattle.channel_core.specs.Channel.{Channel, closing, forcing, is_channel_full, new_channel, oldest, sending, taking}
use Rattle.channel_model.proofs.Conserved.{count_of}
use Rattle.channel_model.proofs.HeldMessages.{held_messages-after}
use Rattle.channel_record.specs.declared.calls.Call.{Call}
use Rattle.channel_record.specs.declared.calls.Call.TheVariants.{TrySend, ForceSend, TryRecv, Close, IsClosed, Len}
use Rattle.channel_record.specs.declared.calls.Outcome.{Outcome}
use Rattle.channel_record.specs.Histories.{IsKept, pair_of, past_of, reply_of_outcome, step_of_call}
use Rattle.channel_record.specs.CallSteps.{after_call, outcome_at}

-- ---- pasts of calls

-- the past that is longer by a call
pub past_of-push : {T : Type 0} (history : List (Call T × Outcome T)) (entry : Call T × Outcome T)
    → past_of (history ++ entry ∷ []) ≡ pair_of entry ∷ past_of history
past_of-push {T} history entry = ap (λ (entries : List (Call T × Outcome T)). map pair_of entries)
    (reverse-append history (entry ∷ []))

-- no call makes or gives up a handle
senders-call : {T : Type 0} (past : Past T) (call : Call T) (reply : Reply T)
    → live_names Senders ((step_of_call call, reply) ∷ past) ≡ live_names Senders past
senders-call past (TrySend message) reply = refl
senders-call past (ForceSend message) reply = refl
senders-call past TryRecv reply = refl
senders-call past Close reply = refl
senders-call past IsClosed reply = refl
senders-call past Len reply = refl

receivers-call : {T : Type 0} (past : Past T) (call : Call T) (reply : Reply T)
    → live_names Receivers ((step_of_call call, reply) ∷ past) ≡ live_names Receivers past
receivers-call past (TrySend message) reply = refl
receivers-call past (ForceSend message) reply = refl
receivers-call past TryRecv reply = refl
receivers-call past Close reply = refl
receivers-call past IsClosed reply = refl
receivers-call past Len reply = refl

one_sender : {T : Type 0} (entries : List (Call T × Outcome T)) → live_names Senders (map pair_of entries) ≡ 0 ∷ []
one_sender [] = refl
one_sender (entry ∷ entries) = senders-call (map pair_of entries) entry.0 (reply_of_outcome entry.1)
    ∙ one_sender entries

one_receiver : {T : Type 0} (entries : List (Call T × Outcome T)) → live_names Receivers (map pair_of entries) ≡ 0 ∷ []
one_receiver [] = refl
one_receiver (entry ∷ entries) = receivers-call (map pair_of entries) entry.0 (reply_of_outcome entry.1)
    ∙ one_receiver entries

-- so no call is refused
known : {T : Type 0} (kind : Kind) (past : Past T) (call : Call T) → live_names Senders past ≡ 0 ∷ [] → live_names Receivers past ≡ 0 ∷ []
    → refusal_of kind past (step_of_call call) ≡ None
known kind past (TrySend message) senders receivers =
    ap (λ names. cond (not (list_any (λ other. other == 0) names)) (Some Unknown) None) senders
known kind past (ForceSend message) senders receivers =
    ap (λ names. cond (not (list_any (λ other. other == 0) names)) (Some Unknown) None) senders
known kind past TryRecv senders receivers = ap
    (λ names. cond (not (list_any (λ other. other == 0) names)) (Some Unknown) None) receivers
known kind past Close senders receivers = ap (λ names. cond (not (list_any (λ other. other == 0) names)) (Some Unknown) None)
    senders
known kind past IsClosed senders receivers = ap
    (λ names. cond (not (list_any (λ other. other == 0) names)) (Some Unknown) None) senders
known kind past Len senders receivers = ap (λ names. cond (not (list_any (λ other. other == 0) names)) (Some Unknown) None)
    senders

-- ---- what a call leaves

kept : (closed : Bool) → closed ≡ (closed || false)
kept closed = sym (or-false closed)

module _ {T W : Type 0} (channel : Channel T W) where
  same_capacity : (call : Call T) → (after_call call channel).capacity ≡ channel.capacity
  same_capacity (TrySend message) = go channel.closed (is_channel_full channel)
    where
      go : (closed full : Bool) → (sending closed full message channel).channel.capacity ≡ channel.capacity
      go true full = refl
      go false true = refl
      go false false = refl
  same_capacity (ForceSend message) = go channel.closed (is_channel_full channel)
    where
      go : (closed full : Bool) → (forcing closed full message channel).channel.capacity ≡ channel.capacity
      go true full = refl
      go false true = refl
      go false false = refl
  same_capacity TryRecv = go channel.messages
    where
      go : (messages : List T) → (taking messages channel).channel.capacity ≡ channel.capacity
      go [] = refl
      go (first ∷ rest) = refl
  same_capacity Close = go channel.closed refl
    where
      go : (closed : Bool) → channel.closed ≡ closed → (closing channel).channel.capacity ≡ channel.capacity
      go true e = rw e refl
      go false e = rw e refl
  same_capacity IsClosed = refl
  same_capacity Len = refl

  same_closed : (call : Call T) → (after_call call channel).closed ≡ (channel.closed || is_close (step_of_call call))
  same_closed (TrySend message) = go channel.closed (is_channel_full channel)
    where
      go : (closed full : Bool) → (sending closed full message channel).channel.closed ≡ (channel.closed || false)
      go true full = kept channel.closed
      go false true = kept channel.closed
      go false false = kept channel.closed
  same_closed (ForceSend message) = go channel.closed (is_channel_full channel)
    where
      go : (closed full : Bool) → (forcing closed full message channel).channel.closed ≡ (channel.closed || false)
      go true full = kept channel.closed
      go false true = kept channel.closed
      go false false = kept channel.closed
  same_closed TryRecv = go channel.messages
    where
      go : (messages : List T) → (taking messages channel).channel.closed ≡ (channel.closed || false)
      go [] = kept channel.closed
      go (first ∷ rest) = kept channel.closed
  same_closed Close = go channel.closed refl
    where
      go : (closed : Bool) → channel.closed ≡ closed → (closing channel).channel.closed ≡ (channel.closed || true)
      go true e = rw e refl
      go false e = rw e refl
  same_closed IsClosed = kept channel.closed
  same_closed Len = kept channel.closed

  -- what is left: the accepted message stands last, and the first is gone if one was taken
  same_messages : (past : Past T) (call : Call T) → (after_call call channel).messages
      ≡ drop (count_of (taken_by (reply_of_outcome (outcome_at channel call))))
      (with_last channel.messages (accepted_by (live_operations past) (step_of_call call) (reply_of_outcome (outcome_at channel call))))
  same_messages past (TrySend message) = go channel.closed (is_channel_full channel)
    where
      go : (closed full : Bool) → (sending closed full message channel).channel.messages
          ≡ drop (count_of (taken_by (TrySent (try_send_answer closed full message))))
          (with_last channel.messages (accepted_by (live_operations past) (TrySend 0 message)
          (TrySent (try_send_answer closed full message))))
      go true full = refl
      go false true = refl
      go false false = refl
  same_messages past (ForceSend message) = go channel.closed (is_channel_full channel) channel.messages refl
    where
      go : (closed full : Bool) (messages : List T) → channel.messages ≡ messages
          → (forcing closed full message channel).channel.messages
          ≡ drop (count_of (taken_by (Forced (force_send_answer closed full (oldest channel) message))))
          (with_last channel.messages (accepted_by (live_operations past) (ForceSend 0 message)
          (Forced (force_send_answer closed full (oldest channel) message))))
      go true full messages e = refl
      go false true [] e = rw e refl
      go false true (first ∷ rest) e = rw e refl
      go false false messages e = refl
  same_messages past TryRecv = go channel.messages channel.closed refl
    where
      go : (messages : List T) (closed : Bool) → channel.messages ≡ messages
          → (taking messages channel).channel.messages
          ≡ drop (count_of (taken_by (Received (try_recv_answer (slice_get messages 0) closed))))
          (with_last channel.messages (accepted_by (live_operations past) (TryRecv 0)
          (Received (try_recv_answer (slice_get messages 0) closed))))
      go [] true e = refl
      go [] false e = refl
      go (first ∷ rest) closed e = rw e refl
  same_messages past Close = go channel.closed refl
    where
      go : (closed : Bool) → channel.closed ≡ closed → (closing channel).channel.messages ≡ channel.messages
      go true e = rw e refl
      go false e = rw e refl
  same_messages past IsClosed = refl
  same_messages past Len = refl

  -- ---- what a call answers

  same_full : (kind : Kind) (past : Past T) → channel.capacity ≡ capacity_of kind
      → channel.messages ≡ held_messages past
      → is_channel_full channel ≡ is_full kind past
  same_full kind past capacity messages =
      ap (λ (limit : Option ℕ). queue.is_full limit channel.messages) capacity
      ∙ ap (λ (held : List T). queue.is_full (capacity_of kind) held) messages
      ∙ by_kind kind
    where
      by_kind : (kind : Kind) → queue.is_full (capacity_of kind) (held_messages past) ≡ is_full kind past
      by_kind (Bounded capacity) = refl
      by_kind Unbounded = refl

  -- the outcome is the reply that is due
  due : (kind : Kind) (past : Past T) (call : Call T)
      → is_channel_full channel ≡ is_full kind past → channel.messages ≡ held_messages past
      → channel.closed ≡ is_closed past
      → reply_of_outcome (outcome_at channel call) ≡ due_reply kind past (step_of_call call)
  due kind past (TrySend message) full messages closed =
      ap (λ shut. try_send_reply shut (is_channel_full channel) message) closed
      ∙ ap (λ none. try_send_reply (is_closed past) none message) full
  due kind past (ForceSend message) full messages closed =
      ap (λ shut. force_send_reply shut (is_channel_full channel) (oldest channel) message) closed
      ∙ ap (λ none. force_send_reply (is_closed past) none (oldest channel) message) full
      ∙ ap (λ (held : List T). force_send_reply (is_closed past) (is_full kind past) (slice_get held 0) message)
      messages
  due kind past TryRecv full messages closed =
      ap (λ (held : List T). try_recv_reply (slice_get held 0) channel.closed) messages
      ∙ ap (λ shut. try_recv_reply (oldest_message past) shut) closed
  due kind past Close full messages closed = ap (λ shut. Flag (not shut)) closed
  due kind past IsClosed full messages closed = ap (λ shut. Flag shut) closed
  due kind past Len full messages closed = ap (λ (held : List T). Count (length held)) messages

-- ---- the past that is longer by a call

open_still : (shut : Bool) (senders receivers : List ℕ) → senders ≡ 0 ∷ [] → receivers ≡ 0 ∷ []
    → shut ≡ ((shut || has_none senders) || has_none receivers)
open_still true senders receivers one other = refl
open_still false senders receivers one other = rw (one, other) refl

-- a step of which nobody is refused
not_refused : {T : Type 0} (kind : Kind) (past : Past T) (call : Call T)
    → refusal_of kind past (step_of_call call) ≡ None
    → IsAllowed (step_of_call call) (refusal_of kind past (step_of_call call))
not_refused kind past (TrySend message) none = none
not_refused kind past (ForceSend message) none = none
not_refused kind past TryRecv none = none
not_refused kind past Close none = none
not_refused kind past IsClosed none = none
not_refused kind past Len none = none

-- A history that is longer by a call with what the channel answered is kept by what the call leaves.
pub kept_more : {T W : Type 0} (kind : Kind) (history : List (Call T × Outcome T)) (channel after : Channel T W)
    (call : Call T) (outcome : Outcome T)
    → IsKept kind (past_of history) channel → outcome ≡ outcome_at channel call → after ≡ after_call call channel
    → IsKept kind (past_of (history ++ (call, outcome) ∷ [])) after
kept_more {T} {W} kind history channel after call outcome is answered left =
    subst (λ (longer : Past T). IsKept kind longer after) (sym (past_of-push history (call, outcome))) (rw left record {
      legal = (is.legal, due_then, not_refused kind past call none);
      capacity = same_capacity channel call ∙ is.capacity;
      messages =
          same_messages channel past call
          ∙ ap (λ (reply : Reply T). drop (count_of (taken_by reply))
          (with_last channel.messages (accepted_by (live_operations past) step reply))) (sym replied)
          ∙ ap (λ (messages : List T). drop (count_of (taken_by reply))
          (with_last messages (accepted_by (live_operations past) step reply))) is.messages
          ∙ sym (held_messages-after kind past step reply is.legal);
      closed =
          same_closed channel call
          ∙ ap (λ shut. shut || is_close step) is.closed
          ∙ open_still (is_closed past || is_close step) (live_names Senders ((step, reply) ∷ past))
          (live_names Receivers ((step, reply) ∷ past))
          (senders-call past call reply ∙ senders) (receivers-call past call reply ∙ receivers);
    })
  where
    past : Past T
    past = past_of history

    step : Step T
    step = step_of_call call

    reply : Reply T
    reply = reply_of_outcome outcome

    senders : live_names Senders past ≡ 0 ∷ []
    senders = one_sender (reverse history)

    receivers : live_names Receivers past ≡ 0 ∷ []
    receivers = one_receiver (reverse history)

    none : refusal_of kind past step ≡ None
    none = known kind past call senders receivers

    replied : reply ≡ reply_of_outcome (outcome_at channel call)
    replied = ap (λ (o : Outcome T). reply_of_outcome o) answered

    due_then : reply ≡ due_reply kind past step
    due_then = replied ∙ due channel kind past call
        (same_full channel kind past is.capacity is.messages) is.messages is.closed

-- A new channel is kept by no calls.
pub kept_new : {T W : Type 0} (kind : Kind) → HasPositiveCapacity kind
    → IsKept {T = T} {W = W} kind (past_of []) (new_channel (capacity_of kind))
kept_new kind positive = record { legal = positive; capacity = refl; messages = refl; closed = refl }

-- a bounded channel's capacity is positive
pub positive : (kind : Kind) (capacity : ℕ) → HasPositiveCapacity kind → kind ≡ Bounded capacity → 0 < capacity
positive kind capacity has is = let more = rw is at has in more capacity refl
