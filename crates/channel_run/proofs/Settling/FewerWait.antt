-- After the poll of a told one no more wait than before, and one fewer if it was ready.
use Rattle.std.proofs.Common.{◌≡◌, ℕ, ◌+◌, ◌≤◌, ◌⊎◌, inl, inr, Bool, true, false, cond, Some, None, Option, Result, refl, ◌∙◌, ap, arith}
use Rattle.std.specs.Prelude.{if◌then◌else◌, MatchOption, slice_get}
use Rattle.futures.specs.declared.task.Poll.{Poll as Answer}
use Rattle.futures.specs.declared.task.Poll.TheVariants.{Ready, Pending}
use Rattle.event_list.specs.Keys.{is_among}
use Rattle.channel_core.specs.declared.errors.RecvError.{RecvError}
use Rattle.channel_core.specs.declared.errors.SendError.{SendError}
use Rattle.channel_model.specs.declared.step.Refusal.{Refusal}
use Rattle.channel_model.specs.declared.step.Refusal.TheVariants.{OutOfMemory}
use Rattle.channel_model.specs.declared.step.Step.{Step}
use Rattle.channel_model.specs.declared.step.Step.TheVariants.{Poll, PollNext}
use Rattle.channel_model.specs.declared.step.Reply.{Reply}
use Rattle.channel_model.specs.declared.step.Reply.TheVariants.{SendPolled, RecvPolled, ClosedPolled, NextPolled}
use Rattle.channel_model.specs.declared.step.Who.{Who}
use Rattle.channel_model.specs.declared.step.Who.TheVariants.{Op, Receiver}
use Rattle.channel_model.specs.Closing.{has_none}
use Rattle.channel_model.specs.Messages.{received_by, accepted_by}
use Rattle.channel_model.specs.Replies.{is_ready, poll_reply, is_full_in, reply_in}
use Rattle.channel_core.specs.Tables.{send_poll, recv_poll, next_poll, closed_poll}
use Rattle.channel_model.specs.Operations.{Operation, awaiting_close, is_finished_send, operation_in, receiving, sending}
use Rattle.channel_model.specs.Notices.{after_accepting, after_receiving}
use Rattle.channel_model.specs.Polling.{poll_of, told_polls, waiting_in}
use Rattle.channel_model.specs.Rosters.{AreSound, Rosters, is_told, leave, wait}
use Rattle.channel_model.specs.View.{View}
use Rattle.channel_model.specs.Memory.{may_want_memory_in}
use Rattle.channel_model.specs.Refusals.{refusal_in}
use Rattle.channel_run.specs.RunSteps.{IsMade, IsRefused, PollsTo, StepsAsAllowed, StepsTo, rosters_after}
use Rattle.channel_model.proofs.MeasureFalls.{PollsTold, a_closed, a_receive, a_send, a_stream, leave-told, polls_told, told_among, waiting-accepting, waiting-receiving}
use Rattle.channel_model.proofs.AnyOrder.{first-Contains}
use Rattle.channel_model.proofs.Measure.{wait-told}
use Rattle.channel_run.proofs.Told.WhoWaits.{AreSound-IsWhole, send_waits, receive_waits, closed_waits, stream_waits, is_send, is_receive, is_awaiting}
use Rattle.channel_run.proofs.Tables.Kept.{Kept, Whole, shown_by}

abbrev ready_count : {T : Type 0} → Reply T → ℕ
ready_count reply = cond (is_ready reply) 1 0

module _ {T : Type 0} (run : View T) (sound : AreSound run.rosters) where
  -- those whom the message tells wait already
  others : (step : Step T) (reply : Reply T) (own : Rosters)
      → waiting_in (after_receiving (received_by reply) (after_accepting (accepted_by run.operations step reply) own))
      ≡ waiting_in own
  others step reply own = waiting-receiving (received_by reply)
      (after_accepting (accepted_by run.operations step reply) own)
      ∙ waiting-accepting (accepted_by run.operations step reply) own

  polled-send : (op : ℕ) (answer : Answer (Result (Unit {0}) (SendError T)))
      → is_told op run.rosters.sends ≡ true
      → waiting_in (rosters_after run (Poll op) (SendPolled answer)) + ready_count {T = T}
      (SendPolled answer) ≤ waiting_in run.rosters
  polled-send op (Ready result) told =
      let leaves = leave-told op run.rosters.sends sound.sends told in
      let fewer = leaves.fewer in
      let rest = others (Poll op) (SendPolled (Ready result))
      (record run.rosters { sends = leave op run.rosters.sends }) in
      omega arith
  polled-send op Pending told = go (is_finished_send (operation_in run.operations op))
    where
      go : (finished : Bool) → waiting_in (cond finished run.rosters
          (record run.rosters { sends = wait op run.rosters.sends })) + 0 ≤ waiting_in run.rosters
      go true = omega arith
      go false = let on = wait-told op run.rosters.sends sound.sends told in let names = on.names in omega arith

  polled-recv : (op : ℕ) (answer : Answer (Result T RecvError))
      → is_told op run.rosters.receives ≡ true
      → waiting_in (rosters_after run (Poll op) (RecvPolled answer)) + ready_count {T = T}
      (RecvPolled answer) ≤ waiting_in run.rosters
  polled-recv op (Ready result) told =
      let leaves = leave-told op run.rosters.receives sound.receives told in
      let fewer = leaves.fewer in
      let rest = others (Poll op) (RecvPolled (Ready result))
      (record run.rosters { receives = leave op run.rosters.receives }) in
      omega arith
  polled-recv op Pending told = let on = wait-told op run.rosters.receives sound.receives told in
      let names = on.names in omega arith

  polled-closed : (op : ℕ) (answer : Answer (Unit {0})) → is_told op run.rosters.closeds ≡ true
      → waiting_in (rosters_after run (Poll op) (ClosedPolled answer)) + ready_count {T = T}
      (ClosedPolled answer) ≤ waiting_in run.rosters
  polled-closed op (Ready done) told =
      let leaves = leave-told op run.rosters.closeds sound.closeds told in
      let fewer = leaves.fewer in
      let rest = others (Poll op) (ClosedPolled (Ready done))
      (record run.rosters { closeds = leave op run.rosters.closeds }) in
      omega arith
  polled-closed op Pending told = let on = wait-told op run.rosters.closeds sound.closeds told in
      let names = on.names in omega arith

  polled-stream : (receiver : ℕ) (answer : Answer (Option T))
      → is_told receiver run.rosters.streams ≡ true
      → waiting_in (rosters_after run (PollNext receiver) (NextPolled answer)) + ready_count {T = T}
      (NextPolled answer) ≤ waiting_in run.rosters
  polled-stream receiver (Ready item) told =
      let leaves = leave-told receiver run.rosters.streams sound.streams told in
      let fewer = leaves.fewer in
      let rest = others (PollNext receiver) (NextPolled (Ready item))
      (record run.rosters { streams = leave receiver run.rosters.streams }) in
      omega arith
  polled-stream receiver Pending told = let on = wait-told receiver run.rosters.streams sound.streams told in
      let names = on.names in omega arith

-- No more wait after the poll than before, and one fewer if it was ready.
abbrev pub Lowers : {T : Type 0} → View T → Reply T → View T → Type 0
Lowers before reply after = waiting_in after.rosters + (if is_ready reply then 1 else 0) ≤ waiting_in before.rosters

lowers-refused : {T : Type 0} (before after : View T) (step : Step T) (refusal : Refusal) (reply : Reply T)
    → IsRefused before step refusal reply after → Lowers before reply after
lowers-refused {T} before after step refusal reply refused =
    let same : waiting_in after.rosters ≡ waiting_in before.rosters =
    ap (λ (all : Rosters). waiting_in all) refused.unchanged.rosters in
    let none : ready_count reply ≡ 0 = ap (λ (r : Reply T). ready_count r) refused.replied in
    omega arith

lowers-made : {T : Type 0} (before after : View T) (step : Step T) (reply given : Reply T)
    → IsMade before step reply after → reply_in before step ≡ given
    → waiting_in (rosters_after before step given) + ready_count given ≤ waiting_in before.rosters
    → Lowers before reply after
lowers-made {T} before after step reply given made is less =
    let same : reply ≡ given = made.replied ∙ is in
    let now : waiting_in after.rosters ≡ waiting_in (rosters_after before step given) =
    ap (λ (all : Rosters). waiting_in all) made.shows.rosters
    ∙ ap (λ (r : Reply T). waiting_in (rosters_after before step r)) same in
    let ready : ready_count reply ≡ ready_count given = ap (λ (r : Reply T). ready_count r) same in
    omega arith

module _ {T W : Type 0} (kept : Kept T W) (whole : Whole kept) where
  abbrev run : View T
  run = shown_by kept

  sound : AreSound run.rosters
  sound = AreSound-IsWhole kept whole

  given : (op : ℕ) (operation : Operation T) → operation_in run.operations op ≡ Some operation
      → reply_in run (Poll op) ≡ poll_reply run.closed (has_none run.receivers) (is_full_in run)
      (slice_get run.messages 0) (Some operation)
  given op operation e = ap (λ (found : Option (Operation T)). poll_reply run.closed (has_none run.receivers)
      (is_full_in run) (slice_get run.messages 0) found) e

  lowers-poll : (op : ℕ) (reply : Reply T) (after : View T)
      → PollsTold {T = T} run.rosters (Poll op)
      → IsMade run (Poll op) reply after → Lowers run reply after
  lowers-poll op reply after (a_send other e told) made =
      let same : op ≡ other = cc in
      let told' : is_told op run.rosters.sends ≡ true = ap (λ (n : ℕ). is_told n run.rosters.sends) same ∙ told in
      let has = send_waits kept whole op (told_among op run.rosters.sends told') in
      let kind = is_send kept whole op has.0 has.1 in
      lowers-made run after (Poll op) reply (SendPolled (send_poll kind.1 run.closed (is_full_in run))) made
      (given op (sending kind.0 kind.1) kind.2)
      (polled-send run sound op (send_poll kind.1 run.closed (is_full_in run)) told')
  lowers-poll op reply after (a_receive other e told) made =
      let same : op ≡ other = cc in
      let told' : is_told op run.rosters.receives ≡ true = ap (λ (n : ℕ). is_told n run.rosters.receives) same ∙ told in
      let has = receive_waits kept whole op (told_among op run.rosters.receives told') in
      let kind = is_receive kept whole op has.0 has.1 in
      lowers-made run after (Poll op) reply (RecvPolled (recv_poll (slice_get run.messages 0) run.closed)) made
      (given op (receiving kind.0) kind.1)
      (polled-recv run sound op (recv_poll (slice_get run.messages 0) run.closed) told')
  lowers-poll op reply after (a_closed other e told) made =
      let same : op ≡ other = cc in
      let told' : is_told op run.rosters.closeds ≡ true = ap (λ (n : ℕ). is_told n run.rosters.closeds) same ∙ told in
      let has = closed_waits kept whole op (told_among op run.rosters.closeds told') in
      let kind = is_awaiting kept whole op has.0 has.1 in
      lowers-made run after (Poll op) reply (ClosedPolled (closed_poll (has_none run.receivers))) made
      (given op (awaiting_close kind.0) kind.1)
      (polled-closed run sound op (closed_poll (has_none run.receivers)) told')
  lowers-poll op reply after (a_stream other e told) made = cc

  lowers-steps : (op : ℕ) (reply : Reply T) (after : View T)
      → PollsTold {T = T} run.rosters (Poll op)
      → StepsTo run (Poll op) reply after → Lowers run reply after
  lowers-steps op reply after told steps = go (refusal_in run (Poll op)) steps
    where
      go : (found : Option Refusal) → MatchOption found
          (IsMade run (Poll op) reply after ⊎ ((may_want_memory_in run (Poll op) ≡ true)
          × IsRefused run (Poll op) OutOfMemory reply after)) (λ refusal. IsRefused run (Poll op) refusal reply after)
          → Lowers run reply after
      go None (inl made) = lowers-poll op reply after told made
      go None (inr wanted) = lowers-refused run after (Poll op) OutOfMemory reply wanted.1
      go (Some refusal) refused = lowers-refused run after (Poll op) refusal reply refused

  stream_told : (receiver : ℕ) → PollsTold {T = T} run.rosters (PollNext receiver)
      → is_told receiver run.rosters.streams ≡ true
  stream_told receiver (a_send other e told) = cc
  stream_told receiver (a_receive other e told) = cc
  stream_told receiver (a_closed other e told) = cc
  stream_told receiver (a_stream other e told) =
      let same : receiver ≡ other = cc in ap (λ (n : ℕ). is_told n run.rosters.streams) same ∙ told

  lowers-stream : (receiver : ℕ) (reply : Reply T) (after : View T)
      → PollsTold {T = T} run.rosters (PollNext receiver) → StepsAsAllowed run (PollNext receiver) reply after
      → Lowers run reply after
  lowers-stream receiver reply after told (inl made) =
      lowers-made run after (PollNext receiver) reply
      (NextPolled (next_poll (slice_get run.messages 0) run.closed)) made refl
      (polled-stream run sound receiver (next_poll (slice_get run.messages 0) run.closed) (stream_told receiver told))
  lowers-stream receiver reply after told (inr wanted) =
      lowers-refused run after (PollNext receiver) OutOfMemory reply wanted.2

  told_first : (who : Who) → slice_get (told_polls {T = T} run.rosters) 0 ≡ Some (poll_of who)
      → PollsTold {T = T} run.rosters (poll_of who)
  told_first who first = polls_told run.rosters (poll_of who)
      (first-Contains (told_polls run.rosters) (poll_of who) first)

  pub lowers-PollsTo : (who : Who) (reply : Reply T) (after : View T)
      → slice_get (told_polls {T = T} run.rosters) 0 ≡ Some (poll_of who) → PollsTo run who reply after
      → Lowers run reply after
  lowers-PollsTo (Op op) reply after first polled = lowers-steps op reply after (told_first (Op op) first) polled
  lowers-PollsTo (Receiver receiver) reply after first polled =
      lowers-stream receiver reply after (told_first (Receiver receiver) first) polled

  -- the receiver of a told stream is live
  pub told_receiver : (receiver : ℕ)
      → slice_get (told_polls {T = T} run.rosters) 0 ≡ Some (PollNext receiver)
      → is_among receiver run.receivers ≡ true
  told_receiver receiver first =
      stream_waits kept whole receiver
      (told_among receiver run.rosters.streams (stream_told receiver (told_first (Receiver receiver) first)))
