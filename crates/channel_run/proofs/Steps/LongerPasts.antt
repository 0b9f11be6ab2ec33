-- If a past stands for a run, the past longer by a step stands for what the run shows after it.
use Rattle.std.proofs.Common.{◌≡◌, ℕ, ◌<◌, inl, inr, List, [], ◌∷◌, Bool, true, false, not, ◌||◌, cond, Some, None, Ok, Option, refl, sym, ◌∙◌, ap, subst, length, drop, arith}
use Rattle.std.specs.Prelude.{option_and_then}
use Rattle.futures.specs.declared.task.Poll.TheVariants.{Ready, Pending}
use Rattle.channel_model.specs.declared.step.Kind.{Kind}
use Rattle.channel_model.specs.declared.step.Step.{Step}
use Rattle.channel_model.specs.declared.step.Step.TheVariants.{Close, CloneSender, CloneReceiver, CloneWeakSender, CloneWeakReceiver, DowngradeSender, DowngradeReceiver, UpgradeSender, UpgradeReceiver, DropSender, DropReceiver, DropWeakSender, DropWeakReceiver, StartSend, StartRecv, StartClosed, Poll, PollNext, DropOp}
use Rattle.channel_model.specs.declared.step.Reply.{Reply}
use Rattle.channel_model.specs.declared.step.Reply.TheVariants.{Upgraded, SendPolled}
use Rattle.event_list.specs.Keys.{is_among, AreDifferent}
use Rattle.channel_model.specs.Past.{Past}
use Rattle.channel_model.specs.Handles.{live_names, Receivers, Senders, WeakReceivers, WeakSenders, names_after}
use Rattle.channel_model.specs.Operations.{Operation, awaiting_close, is_finished_send, live_operations, receiving, sending, unsent_message, operations_after}
use Rattle.channel_model.specs.Messages.{accepted_by, held_messages, received_by, taken_by, with_last}
use Rattle.channel_model.specs.Closing.{closed_after, has_none, is_close, is_closed}
use Rattle.channel_model.specs.Replies.{due_reply, reply_in}
use Rattle.channel_model.specs.Refusals.{refusal_of, refusal_in}
use Rattle.channel_model.specs.Rosters.{Rosters, wait}
use Rattle.channel_model.specs.Notices.{after_accepting, after_closing, after_ending, after_last_receiver, after_messages, after_own_move, after_receiving, rosters}
use Rattle.channel_model.specs.Legal.{IsAllowed}
use Rattle.channel_core.specs.Covered.{IsCovered}
use Rattle.channel_model.specs.Standing.{standing_of}
use Rattle.channel_model.specs.View.{AreSameNames, AreSameOperations, View, view_of}
use Rattle.channel_run.specs.StandsFor.{StandsFor}
use Rattle.channel_run.specs.RunSteps.{after_step, closed_in, ending_in, messages_after, rosters_after, without_first}
use Rattle.channel_model.proofs.Conserved.{count_of}
use Rattle.channel_model.proofs.HeldMessages.{held_messages-after}
use Rattle.channel_model.proofs.CoveredPasts.{IsCovered-IsLegal}
use Rattle.channel_model.proofs.Unchanged.{is_closed-kept, after_closing-kept, after_last_receiver-kept}
use Rattle.channel_model.proofs.AllowedSteps.{Allowed, allowed, known_if_borrowed}
use Rattle.channel_run.proofs.Alike.LiveNames.{live_senders-AreDifferent, live_receivers-AreDifferent, live_weak_senders-AreDifferent, live_weak_receivers-AreDifferent, live_operations-AreDifferent, names_of}
use Rattle.channel_run.proofs.Alike.SameNames.{AreSameNames-first, AreSameNames-without, has_none-same}
use Rattle.channel_run.proofs.Alike.SameOperations.{AreSameOperations-first, AreSameOperations-finished, AreSameOperations-without}
use Rattle.channel_run.proofs.Alike.SameTables.{reply_in-StandsFor}

-- ---- messages

drop-count_of : {T : Type 0} (found : Option T) (messages : List T)
    → drop (count_of found) messages ≡ without_first found messages
drop-count_of None messages = refl
drop-count_of (Some message) messages = refl

-- what the step puts in hangs on the look-ups alone
accepted_by-same : {T : Type 0} (operations others : List (ℕ × Operation T)) (step : Step T) (reply : Reply T)
    → AreSameOperations operations others → accepted_by operations step reply ≡ accepted_by others step reply
accepted_by-same {T} operations others (Poll op) (SendPolled (Ready (Ok done))) same =
    ap (λ (operation : Option (Operation T)). option_and_then unsent_message operation) (same.each op)
accepted_by-same operations others step reply same = refl

messages-step : {T : Type 0} (kind : Kind) (past : Past T) (run : View T) (step : Step T) (reply : Reply T)
    → StandsFor kind past run → messages_after run step reply ≡ held_messages ((step, reply) ∷ past)
messages-step {T} kind past run step reply stands =
    ap (λ (messages : List T). without_first (taken_by reply)
    (with_last messages (accepted_by run.operations step reply))) stands.shows.messages
    ∙ ap (λ (found : Option T). without_first (taken_by reply) (with_last (held_messages past) found))
    (accepted_by-same run.operations (live_operations past) step reply stands.shows.operations)
    ∙ sym (held_messages-after kind past step reply stands.legal
    ∙ drop-count_of (taken_by reply) (with_last (held_messages past) (accepted_by (live_operations past) step reply)))

-- ---- names

module _ {T : Type 0} (names others : List ℕ) (once : AreDifferent others)
    (same : AreSameNames names others) where
  senders_after-same : (step : Step T) (reply : Reply T)
      → AreSameNames (names_after Senders step reply names) (names_after Senders step reply others)
  senders_after-same (CloneSender of new) reply = AreSameNames-first names others new same
  senders_after-same (UpgradeSender of new) (Upgraded true) = AreSameNames-first names others new same
  senders_after-same (DropSender name) reply = AreSameNames-without names others name once same
  senders_after-same step reply = same

  receivers_after-same : (step : Step T) (reply : Reply T)
      → AreSameNames (names_after Receivers step reply names) (names_after Receivers step reply others)
  receivers_after-same (CloneReceiver of new) reply = AreSameNames-first names others new same
  receivers_after-same (UpgradeReceiver of new) (Upgraded true) = AreSameNames-first names others new same
  receivers_after-same (DropReceiver name) reply = AreSameNames-without names others name once same
  receivers_after-same step reply = same

  weak_senders_after-same : (step : Step T) (reply : Reply T)
      → AreSameNames (names_after WeakSenders step reply names) (names_after WeakSenders step reply others)
  weak_senders_after-same (CloneWeakSender of new) reply = AreSameNames-first names others new same
  weak_senders_after-same (DowngradeSender of new) reply = AreSameNames-first names others new same
  weak_senders_after-same (DropWeakSender name) reply = AreSameNames-without names others name once same
  weak_senders_after-same step reply = same

  weak_receivers_after-same : (step : Step T) (reply : Reply T)
      → AreSameNames (names_after WeakReceivers step reply names) (names_after WeakReceivers step reply others)
  weak_receivers_after-same (CloneWeakReceiver of new) reply = AreSameNames-first names others new same
  weak_receivers_after-same (DowngradeReceiver of new) reply = AreSameNames-first names others new same
  weak_receivers_after-same (DropWeakReceiver name) reply = AreSameNames-without names others name once same
  weak_receivers_after-same step reply = same

-- ---- operations

operations_after-same : {T : Type 0} (operations others : List (ℕ × Operation T)) (step : Step T) (reply : Reply T)
    → AreDifferent (names_of others) → AreSameOperations operations others
    → AreSameOperations (operations_after step reply operations) (operations_after step reply others)
operations_after-same operations others (StartSend op sender message) reply once same =
    AreSameOperations-first operations others op (sending sender (Some message)) same
operations_after-same operations others (StartRecv op receiver) reply once same =
    AreSameOperations-first operations others op (receiving receiver) same
operations_after-same operations others (StartClosed op sender) reply once same =
    AreSameOperations-first operations others op (awaiting_close sender) same
operations_after-same operations others (Poll op) (SendPolled (Ready result)) once same =
    AreSameOperations-finished operations others op same
operations_after-same operations others (DropOp op) reply once same =
    AreSameOperations-without operations others op once same
operations_after-same operations others step reply once same = same

-- ---- whether it is closed

-- if it was open, a receiver is there still
receivers_stay : (before : Bool) (receivers : List ℕ) → (before ≡ false → 0 < length receivers)
    → before ≡ (((before || false) || false) || has_none receivers)
receivers_stay true receivers some = refl
receivers_stay false [] some = let one : 0 < 0 = some refl in absurd (omega arith)
receivers_stay false (first ∷ receivers) some = refl

-- or a sender
senders_stay : (before : Bool) (senders : List ℕ) → (before ≡ false → 0 < length senders)
    → before ≡ (((before || false) || has_none senders) || false)
senders_stay true senders some = refl
senders_stay false [] some = let one : 0 < 0 = some refl in absurd (omega arith)
senders_stay false (first ∷ senders) some = refl

-- A step that may close does to a run what it does after the past, with names in any order.
module _ {T : Type 0} (kind : Kind) (past : Past T) (run : View T) (step : Step T) (reply : Reply T)
    (stands : StandsFor kind past run) where
  same_senders : has_none (names_after Senders step reply run.senders) ≡ has_none (live_names Senders ((step, reply) ∷ past))
  same_senders = has_none-same (names_after Senders step reply run.senders) (names_after Senders step reply (live_names Senders past))
      (senders_after-same run.senders (live_names Senders past)
      (live_senders-AreDifferent kind past stands.legal) stands.shows.senders step reply)

  same_receivers : has_none (names_after Receivers step reply run.receivers)
      ≡ has_none (live_names Receivers ((step, reply) ∷ past))
  same_receivers =
      has_none-same (names_after Receivers step reply run.receivers) (names_after Receivers step reply (live_names Receivers past))
      (receivers_after-same run.receivers (live_names Receivers past)
      (live_receivers-AreDifferent kind past stands.legal) stands.shows.receivers step reply)

  closed_after-same : closed_after run.closed step (names_after Senders step reply run.senders)
      (names_after Receivers step reply run.receivers) ≡ is_closed ((step, reply) ∷ past)
  closed_after-same =
      ap (λ before. closed_after before step (names_after Senders step reply run.senders)
      (names_after Receivers step reply run.receivers)) stands.shows.closed
      ∙ ap (λ none. ((is_closed past || is_close step) || none)
      || has_none (names_after Receivers step reply run.receivers)) same_senders
      ∙ ap (λ none. ((is_closed past || is_close step) || has_none (live_names Senders ((step, reply) ∷ past))) || none)
      same_receivers

  ending-same : (all : Rosters) → after_ending run.closed
      (closed_after run.closed step (names_after Senders step reply run.senders)
      (names_after Receivers step reply run.receivers)) run.receivers (names_after Receivers step reply run.receivers) all
      ≡ after_ending (is_closed past) (is_closed ((step, reply) ∷ past)) (live_names Receivers past)
      (live_names Receivers ((step, reply) ∷ past)) all
  ending-same all =
      ap (λ now. after_ending run.closed now run.receivers (names_after Receivers step reply run.receivers) all)
      closed_after-same
      ∙ ap (λ before. after_ending before (is_closed ((step, reply) ∷ past)) run.receivers
      (names_after Receivers step reply run.receivers) all) stands.shows.closed
      ∙ ap (λ none. after_last_receiver none (has_none (names_after Receivers step reply run.receivers))
      (after_closing (is_closed past) (is_closed ((step, reply) ∷ past)) all))
      (has_none-same run.receivers (live_names Receivers past) stands.shows.receivers)
      ∙ ap (λ none. after_last_receiver (has_none (live_names Receivers past)) none
      (after_closing (is_closed past) (is_closed ((step, reply) ∷ past)) all)) same_receivers

closed-step : {T : Type 0} (kind : Kind) (past : Past T) (run : View T) (step : Step T) (reply : Reply T)
    → StandsFor kind past run → IsCovered (standing_of kind past)
    → closed_in run step reply ≡ is_closed ((step, reply) ∷ past)
closed-step kind past run (Close side) reply stands covered =
    closed_after-same kind past run (Close side) reply stands
closed-step kind past run (DropSender name) reply stands covered =
    closed_after-same kind past run (DropSender name) reply stands
closed-step kind past run (DropReceiver name) reply stands covered =
    closed_after-same kind past run (DropReceiver name) reply stands
closed-step kind past run (CloneSender of new) reply stands covered = stands.shows.closed
    ∙ receivers_stay (is_closed past) (live_names Receivers past) covered.open_receivers
closed-step kind past run (UpgradeSender of new) (Upgraded true) stands covered = stands.shows.closed
    ∙ receivers_stay (is_closed past) (live_names Receivers past) covered.open_receivers
closed-step kind past run (CloneReceiver of new) reply stands covered = stands.shows.closed
    ∙ senders_stay (is_closed past) (live_names Senders past) covered.open_senders
closed-step kind past run (UpgradeReceiver of new) (Upgraded true) stands covered = stands.shows.closed
    ∙ senders_stay (is_closed past) (live_names Senders past) covered.open_senders
closed-step kind past run step reply stands covered = stands.shows.closed
    ∙ sym (is_closed-kept kind past step reply covered refl refl refl)

-- ---- rosters

after_own_move-same : {T : Type 0} (operations others : List (ℕ × Operation T)) (step : Step T) (reply : Reply T)
    (all : Rosters) → AreSameOperations operations others
    → after_own_move operations step reply all ≡ after_own_move others step reply all
after_own_move-same {T} operations others (Poll op) (SendPolled Pending) all same =
    ap (λ (operation : Option (Operation T)). cond (is_finished_send operation) all
    (record { sends = wait op all.sends; receives = all.receives; streams = all.streams; closeds = all.closeds }))
    (same.each op)
after_own_move-same operations others step reply all same = refl

-- who is among them isn't nobody
some_among : (name : ℕ) (names : List ℕ) → is_among name names ≡ true → has_none names ≡ false
some_among name [] among = cc
some_among name (first ∷ names) among = refl

some_if_positive : (names : List ℕ) → 0 < length names → has_none names ≡ false
some_if_positive [] some = absurd (omega arith)
some_if_positive (first ∷ names) some = refl

-- whom the closing tells, after a step with the reply that is due
Closing : {T : Type 0} → Past T → View T → Step T → Reply T → Rosters → Type 0
Closing past run step reply all =
    ending_in run step reply all ≡ after_ending (is_closed past) (is_closed ((step, reply) ∷ past))
    (live_names Receivers past) (live_names Receivers ((step, reply) ∷ past)) all

-- neither the one nor the other changed
nothing_told : (none_before none_now closed_before closed_now : Bool) (all : Rosters)
    → none_now ≡ none_before
    → closed_now ≡ closed_before → all ≡ after_last_receiver none_before none_now
    (after_closing closed_before closed_now all)
nothing_told none_before none_now closed_before closed_now all e f =
    sym (after_last_receiver-kept none_before none_now (after_closing closed_before closed_now all) e
    ∙ after_closing-kept closed_before closed_now all f)

upgrade_receiver-closing : {T : Type 0} (kind : Kind) (past : Past T) (run : View T) (of new : ℕ) (closed : Bool)
    (all : Rosters) → is_closed past ≡ closed → StandsFor kind past run → IsCovered (standing_of kind past)
    → Closing past run (UpgradeReceiver of new) (Upgraded (not closed)) all
unfolding Closing
upgrade_receiver-closing {T} kind past run of new true all c stands covered =
    nothing_told _ _ (is_closed past) _ all refl
    (sym (closed-step kind past run (UpgradeReceiver of new) (Upgraded false) stands covered) ∙ stands.shows.closed)
upgrade_receiver-closing {T} kind past run of new false all c stands covered =
    nothing_told _ _ (is_closed past) _ all (sym (some_if_positive (live_names Receivers past) (covered.open_receivers c)))
    (sym (closed-step kind past run (UpgradeReceiver of new) (Upgraded true) stands covered) ∙ stands.shows.closed)

closing-step : {T : Type 0} (kind : Kind) (past : Past T) (run : View T) (step : Step T) (all : Rosters)
    → StandsFor kind past run → IsCovered (standing_of kind past) → Allowed (view_of kind past) step
    → Closing past run step (due_reply kind past step) all
unfolding Closing
closing-step kind past run (Close side) all stands covered may =
    ending-same kind past run (Close side) (due_reply kind past (Close side)) stands all
closing-step kind past run (DropSender name) all stands covered may =
    ending-same kind past run (DropSender name) (due_reply kind past (DropSender name)) stands all
closing-step kind past run (DropReceiver name) all stands covered may =
    ending-same kind past run (DropReceiver name) (due_reply kind past (DropReceiver name)) stands all
closing-step kind past run (CloneReceiver of new) all stands covered may =
    nothing_told _ _ (is_closed past) _ all (sym (some_among of (live_names Receivers past) may.known))
    (sym (closed-step kind past run (CloneReceiver of new)
    (due_reply kind past (CloneReceiver of new)) stands covered) ∙ stands.shows.closed)
closing-step kind past run (UpgradeReceiver of new) all stands covered may =
    upgrade_receiver-closing kind past run of new (is_closed past) all refl stands covered
closing-step kind past run step all stands covered may =
    nothing_told _ _ (is_closed past) _ all refl
    (sym (closed-step kind past run step (due_reply kind past step) stands covered) ∙ stands.shows.closed)

rosters-step : {T : Type 0} (kind : Kind) (past : Past T) (run : View T) (step : Step T)
    → StandsFor kind past run
    → IsCovered (standing_of kind past) → Allowed (view_of kind past) step
    → rosters_after run step (due_reply kind past step) ≡ rosters ((step, due_reply kind past step) ∷ past)
unfolding Closing
rosters-step {T} kind past run step stands covered may =
    ap (λ (all : Rosters). ending_in run step due (after_messages run.operations step due all)) stands.shows.rosters
    ∙ ap (λ (all : Rosters). ending_in run step due
    (after_receiving (received_by due) (after_accepting (accepted_by run.operations step due) all)))
    (after_own_move-same run.operations (live_operations past) step due (rosters past) stands.shows.operations)
    ∙ ap (λ (found : Option T). ending_in run step due
    (after_receiving (received_by due)
    (after_accepting found (after_own_move (live_operations past) step due (rosters past)))))
    (accepted_by-same run.operations (live_operations past) step due stands.shows.operations)
    ∙ closing-step kind past run step _ stands covered may
  where
    due : Reply T
    due = due_reply kind past step

-- ---- the step

pub allowed_step : {T : Type 0} (view : View T) (step : Step T)
    → IsAllowed step (refusal_in view step)
    → Allowed view step
allowed_step view (PollNext receiver) (inl may) = allowed view (PollNext receiver) may
allowed_step view (PollNext receiver) (inr may) =
    record { known = known_if_borrowed view (PollNext receiver) may; fresh = refl }
allowed_step view step may = allowed view step may

due-step : {T : Type 0} (kind : Kind) (past : Past T) (run : View T) (step : Step T)
    → StandsFor kind past run
    → IsAllowed step (refusal_of kind past step)
    → StandsFor kind ((step, due_reply kind past step) ∷ past) (after_step run step (due_reply kind past step))
due-step kind past run step stands may =
    let covered = IsCovered-IsLegal kind past stands.legal in
    let due = due_reply kind past step in
    record {
      legal = (stands.legal, refl, may);
      shows = record {
        capacity = stands.shows.capacity;
        messages = messages-step kind past run step due stands;
        closed = closed-step kind past run step due stands covered;
        senders = senders_after-same run.senders (live_names Senders past)
            (live_senders-AreDifferent kind past stands.legal) stands.shows.senders step due;
        receivers = receivers_after-same run.receivers (live_names Receivers past)
            (live_receivers-AreDifferent kind past stands.legal) stands.shows.receivers step due;
        weak_senders = weak_senders_after-same run.weak_senders (live_names WeakSenders past)
            (live_weak_senders-AreDifferent kind past stands.legal) stands.shows.weak_senders step due;
        weak_receivers = weak_receivers_after-same run.weak_receivers (live_names WeakReceivers past)
            (live_weak_receivers-AreDifferent kind past stands.legal) stands.shows.weak_receivers step due;
        operations = operations_after-same run.operations (live_operations past) step due
            (live_operations-AreDifferent kind past stands.legal) stands.shows.operations;
        rosters = rosters-step kind past run step stands covered (allowed_step (view_of kind past) step may);
      };
    }

-- Every step, by the reply that the run gives.
pub StandsFor-step : {T : Type 0} (kind : Kind) (past : Past T) (run : View T) (step : Step T) (reply : Reply T)
    → StandsFor kind past run → IsAllowed step (refusal_of kind past step) → reply ≡ reply_in run step
    → StandsFor kind ((step, reply) ∷ past) (after_step run step reply)
StandsFor-step {T} kind past run step reply stands may replied =
    subst (λ (r : Reply T). StandsFor kind ((step, r) ∷ past) (after_step run step r))
    (sym (replied ∙ reply_in-StandsFor kind past run step stands)) (due-step kind past run step stands may)
