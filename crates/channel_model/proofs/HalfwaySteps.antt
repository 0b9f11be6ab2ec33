-- Each step keeps the law of notices between its moves.
use Rattle.std.proofs.Common.{◌≡◌, ℕ, suc, ◌+◌, ◌-◌, ◌<◌, ◌≤◌, List, [], ◌∷◌, Bool, true, false, cond, Some, None, Ok, Option, refl, sym, ap, subst, length, arith}
use Rattle.std.specs.Prelude.{option_and_then}
use Rattle.std.specs.Option.{ForSome, ForNone}
use Rattle.futures.specs.declared.task.Poll.TheVariants.{Ready, Pending}
use Rattle.channel_model.specs.declared.step.Kind.{Kind}
use Rattle.channel_model.specs.declared.step.Kind.TheVariants.{Bounded, Unbounded}
use Rattle.channel_model.specs.declared.step.Step.{Step}
use Rattle.channel_model.specs.declared.step.Step.TheVariants.{TrySend, ForceSend, TryRecv, Poll, PollNext, DropOp, DropReceiver}
use Rattle.channel_model.specs.declared.step.Reply.{Reply}
use Rattle.channel_model.specs.declared.step.Refusal.TheVariants.{Unknown}
use Rattle.channel_model.specs.declared.step.Reply.TheVariants.{SendPolled, Done, Refused}
use Rattle.channel_model.specs.Past.{Past}
use Rattle.channel_model.specs.Handles.{live_names, Receivers}
use Rattle.channel_model.specs.Operations.{Operation, awaiting_close, is_finished_send, message_of, operation_of, receiving, sending, unsent_message, live_operations}
use Rattle.channel_model.specs.Messages.{accepted_by, held_messages, oldest_message, taken_by}
use Rattle.channel_model.specs.Capacity.{capacity_of}
use Rattle.channel_model.specs.Closing.{has_none, is_closed}
use Rattle.channel_model.specs.Replies.{due_reply, poll_reply}
use Rattle.channel_model.specs.Rosters.{AreSound, Rosters, leave, wait}
use Rattle.channel_model.specs.Notices.{after_accepting, rosters}
use Rattle.channel_model.proofs.ReplyForms.{force_send_reply, poll_closed_reply, poll_next_reply, poll_recv_reply, poll_send_reply, try_recv_reply, try_send_reply, is_full}
use Rattle.channel_model.proofs.Conserved.{count_of}
use Rattle.channel_model.proofs.Keeping.{Enough-fewer, Enough-leave, Enough-none, IsAllTold-leave, Enough-all_told, HasUntold-leave, names-leave}
use Rattle.channel_model.proofs.Halfway.{AreAllTold, IsHalfway, Whole, halfway_rosters, accepts, receiving_one, none-held, full-held_of, room-held_of}
use Rattle.channel_model.proofs.HalfwayRosters.{unmoved, with_receives, with_sends, with_streams, with_closeds, with_given_up}

-- what a pair leaves, by its effect on what is held
unfoldable pub Halfway : {T : Type 0} → Kind → Past T → Step T → Reply T → Type 0
Halfway kind past step reply =
    length (held_messages ((step, reply) ∷ past)) + count_of (taken_by reply)
    ≡ length (held_messages past) + count_of (accepted_by (live_operations past) step reply)
    → IsHalfway (capacity_of kind) (length (held_messages ((step, reply) ∷ past))) (is_closed past)
    (length (live_names Receivers past)) (halfway_rosters past step reply)

pub try_send-halfway : {T : Type 0} (kind : Kind) (past : Past T) (sender : ℕ) (message : T) → Whole kind past
    → (closed full : Bool) → is_closed past ≡ closed → is_full kind past ≡ full
    → Halfway kind past (TrySend sender message) (try_send_reply closed full message)
unfolding Halfway
try_send-halfway kind past sender message covered true full c f held = unmoved kind past _ covered held
try_send-halfway kind past sender message covered false true c f held = unmoved kind past _ covered held
try_send-halfway kind past sender message covered false false c f held =
    accepts (capacity_of kind) (length (held_messages past)) _ (is_closed past) (length (live_names Receivers past))
    (rosters past) message c (omega arith)
    (λ most e. let room : length (held_messages past) < most = room-held_of kind past f most e in omega arith)
    covered.receives
    (λ most e. Enough-fewer (most - length (held_messages past)) _ (rosters past).sends (omega arith)
    (covered.sends most e))
    covered.unbounded
    covered.closeds

pub force_send-halfway : {T : Type 0} (kind : Kind) (past : Past T) (sender : ℕ) (message : T) → Whole kind past
    → ForSome (capacity_of kind) (λ most. 0 < most) → (closed full : Bool) (oldest : Option T) → is_closed past ≡ closed
    → is_full kind past ≡ full → oldest_message past ≡ oldest
    → Halfway kind past (ForceSend sender message) (force_send_reply closed full oldest message)
unfolding Halfway
force_send-halfway kind past sender message covered some true full oldest c f o held = unmoved kind past _ covered held
force_send-halfway kind past sender message covered some false true (Some oldest) c f o held =
    accepts (capacity_of kind) (length (held_messages past)) _ (is_closed past) (length (live_names Receivers past))
    (rosters past) message c (omega arith)
    (λ most e. let room : length (held_messages past) ≤ most = covered.within most e in omega arith)
    covered.receives
    (λ most e. Enough-fewer (most - length (held_messages past)) _ (rosters past).sends (omega arith)
    (covered.sends most e))
    covered.unbounded
    covered.closeds
force_send-halfway kind past sender message covered some false true None c f o held =
    accepts (capacity_of kind) (length (held_messages past)) _ (is_closed past) (length (live_names Receivers past))
    (rosters past) message c (omega arith)
    (λ most e.
    let none : length (held_messages past) ≡ 0 = none-held (held_messages past) o in
    let full : most ≤ length (held_messages past) = full-held_of kind past f most e in
    let one : 0 < most = some most e in
    absurd (omega arith))
    covered.receives
    (λ most e. Enough-fewer (most - length (held_messages past)) _ (rosters past).sends (omega arith)
    (covered.sends most e))
    covered.unbounded
    covered.closeds
force_send-halfway kind past sender message covered some false false oldest c f o held =
    accepts (capacity_of kind) (length (held_messages past)) _ (is_closed past) (length (live_names Receivers past))
    (rosters past) message c (omega arith)
    (λ most e. let room : length (held_messages past) < most = room-held_of kind past f most e in omega arith)
    covered.receives
    (λ most e. Enough-fewer (most - length (held_messages past)) _ (rosters past).sends (omega arith)
    (covered.sends most e))
    covered.unbounded
    covered.closeds

pub try_recv-halfway : {T : Type 0} (kind : Kind) (past : Past T) (receiver : ℕ) → Whole kind past
    → (oldest : Option T) (closed : Bool) → oldest_message past ≡ oldest
    → Halfway kind past (TryRecv receiver) (try_recv_reply oldest closed)
unfolding Halfway
try_recv-halfway kind past receiver covered (Some message) closed o held =
    receiving_one (capacity_of kind) (length (held_messages past)) _ (is_closed past) (length (live_names Receivers past))
    (rosters past) message (omega arith) covered.within
    (Enough-fewer (length (held_messages past)) _ (rosters past).receives (omega arith) covered.receives)
    covered.sends covered.unbounded (λ untold. (covered.streams untold).0) covered.closeds covered.told
try_recv-halfway kind past receiver covered None true o held = unmoved kind past _ covered held
try_recv-halfway kind past receiver covered None false o held = unmoved kind past _ covered held

pub poll_recv-halfway : {T : Type 0} (kind : Kind) (past : Past T) (op : ℕ) → Whole kind past → AreSound (rosters past)
    → (oldest : Option T) (closed : Bool) → oldest_message past ≡ oldest → is_closed past ≡ closed
    → Halfway kind past (Poll op) (poll_recv_reply oldest closed)
unfolding Halfway
poll_recv-halfway kind past op covered sound (Some message) closed o c held =
    receiving_one (capacity_of kind) (length (held_messages past)) _ (is_closed past) (length (live_names Receivers past))
    (record {
      sends = (rosters past).sends;
      receives = leave op (rosters past).receives;
      streams = (rosters past).streams;
      closeds = (rosters past).closeds;
    }) message (omega arith) covered.within
    (Enough-fewer (length (held_messages past) - 1) _ (leave op (rosters past).receives) (omega arith)
    (Enough-leave op (length (held_messages past)) (rosters past).receives sound.receives covered.receives))
    covered.sends covered.unbounded (λ untold. (covered.streams untold).0) covered.closeds
    (λ e. let all : AreAllTold (rosters past) = covered.told e in
    record {
      sends = all.sends;
      receives = IsAllTold-leave op (rosters past).receives sound.receives all.receives;
      streams = all.streams;
    })
poll_recv-halfway kind past op covered sound None true o c held =
    with_receives kind past _ covered held (leave op (rosters past).receives)
    (rw (none-held (held_messages past) o) (Enough-none (leave op (rosters past).receives)))
    (λ e. IsAllTold-leave op (rosters past).receives sound.receives
    (let all : AreAllTold (rosters past) = covered.told e in all.receives))
poll_recv-halfway kind past op covered sound None false o c held =
    with_receives kind past _ covered held (wait op (rosters past).receives)
    (rw (none-held (held_messages past) o) (Enough-none (wait op (rosters past).receives)))
    (λ e. cc)

pub poll_next-halfway : {T : Type 0} (kind : Kind) (past : Past T) (receiver : ℕ) → Whole kind past
    → AreSound (rosters past) → (oldest : Option T) (closed : Bool) → oldest_message past ≡ oldest
    → is_closed past ≡ closed → Halfway kind past (PollNext receiver) (poll_next_reply oldest closed)
unfolding Halfway
poll_next-halfway kind past receiver covered sound (Some message) closed o c held =
    receiving_one (capacity_of kind) (length (held_messages past)) _ (is_closed past) (length (live_names Receivers past))
    (record {
      sends = (rosters past).sends;
      receives = (rosters past).receives;
      streams = leave receiver (rosters past).streams;
      closeds = (rosters past).closeds;
    }) message
    (omega arith) covered.within
    (Enough-fewer (length (held_messages past)) _ (rosters past).receives (omega arith) covered.receives)
    covered.sends covered.unbounded (λ untold.
    (covered.streams (HasUntold-leave receiver (rosters past).streams sound.streams untold)).0) covered.closeds
    (λ e. let all : AreAllTold (rosters past) = covered.told e in
    record {
      sends = all.sends;
      receives = all.receives;
      streams = IsAllTold-leave receiver (rosters past).streams sound.streams all.streams;
    })
poll_next-halfway kind past receiver covered sound None true o c held =
    with_streams kind past _ covered held (leave receiver (rosters past).streams)
    (λ untold. covered.streams (HasUntold-leave receiver (rosters past).streams sound.streams untold))
    (λ e. IsAllTold-leave receiver (rosters past).streams sound.streams
    (let all : AreAllTold (rosters past) = covered.told e in all.streams))
poll_next-halfway kind past receiver covered sound None false o c held =
    with_streams kind past _ covered held (wait receiver (rosters past).streams)
    (λ untold. (none-held (held_messages past) o, c))
    (λ e. cc)

pub some_receiver : (receivers : List ℕ) → has_none receivers ≡ false → 0 < length receivers
some_receiver [] e = cc
some_receiver (first ∷ receivers) e = omega arith

pub poll_closed-halfway : {T : Type 0} (kind : Kind) (past : Past T) (op : ℕ) → Whole kind past → AreSound (rosters past)
    → (no_receiver : Bool) → has_none (live_names Receivers past) ≡ no_receiver
    → Halfway kind past (Poll op) (poll_closed_reply no_receiver)
unfolding Halfway
poll_closed-halfway kind past op covered sound true r held =
    with_closeds kind past _ covered held (leave op (rosters past).closeds)
    (λ untold. covered.closeds (HasUntold-leave op (rosters past).closeds sound.closeds untold))
poll_closed-halfway kind past op covered sound false r held =
    with_closeds kind past _ covered held (wait op (rosters past).closeds)
    (λ untold. some_receiver (live_names Receivers past) r)

pub full-bounded : {T : Type 0} (kind : Kind) (past : Past T) (P : Type 0) → is_full kind past ≡ true
    → ForNone (capacity_of kind) P
full-bounded (Bounded capacity) past P f e = cc
full-bounded Unbounded past P f e = cc

pub poll_send-halfway : {T : Type 0} (kind : Kind) (past : Past T) (op sender : ℕ) → Whole kind past
    → AreSound (rosters past) → (message : Option T) (closed full : Bool)
    → operation_of past op ≡ Some (sending sender message) → is_closed past ≡ closed → is_full kind past ≡ full
    → Halfway kind past (Poll op) (poll_send_reply message closed full)
unfolding Halfway
poll_send-halfway kind past op sender covered sound None closed full o c f held =
    go (is_finished_send (operation_of past op)) (ap is_finished_send o)
  where
    go : (finished : Bool) → finished ≡ true
        → IsHalfway (capacity_of kind) (length (held_messages ((Poll op, SendPolled Pending) ∷ past))) (is_closed past)
        (length (live_names Receivers past)) (cond finished (rosters past)
        (record {
          sends = wait op (rosters past).sends;
          receives = (rosters past).receives;
          streams = (rosters past).streams;
          closeds = (rosters past).closeds;
        }))
    go true e = unmoved kind past _ covered held
    go false e = cc
poll_send-halfway kind past op sender covered sound (Some message) true full o c f held =
    let all : AreAllTold (rosters past) = covered.told c in
    with_sends kind past _ covered held (leave op (rosters past).sends)
    (λ most e. Enough-all_told (most - length (held_messages past)) (leave op (rosters past).sends)
    (IsAllTold-leave op (rosters past).sends sound.sends all.sends))
    (λ e. names-leave op (rosters past).sends (covered.unbounded e))
    (λ e. IsAllTold-leave op (rosters past).sends sound.sends all.sends)
poll_send-halfway kind past op sender covered sound (Some message) false true o c f held =
    go (is_finished_send (operation_of past op)) (ap is_finished_send o)
  where
    go : (finished : Bool) → finished ≡ false
        → IsHalfway (capacity_of kind) (length (held_messages ((Poll op, SendPolled Pending) ∷ past))) (is_closed past)
        (length (live_names Receivers past)) (cond finished (rosters past)
        (record {
          sends = wait op (rosters past).sends;
          receives = (rosters past).receives;
          streams = (rosters past).streams;
          closeds = (rosters past).closeds;
        }))
    go true e = cc
    go false e =
        with_sends kind past _ covered held (wait op (rosters past).sends)
        (λ most e untold. let full : most ≤ length (held_messages past) =
        full-held_of kind past f most e in omega arith)
        (full-bounded kind past _ f)
        (λ e. cc)
poll_send-halfway {T} kind past op sender covered sound (Some message) false false o c f held =
    let put : message_of past op ≡ Some message = ap (λ operation. option_and_then unsent_message operation) o in
    let more : length (held_messages ((Poll op, SendPolled (Ready (Ok tt))) ∷ past))
    ≡ suc (length (held_messages past)) = let count =
    ap (λ (found : Option T). count_of found) put in omega arith in
    let own : Rosters = record {
      sends = leave op (rosters past).sends;
      receives = (rosters past).receives;
      streams = (rosters past).streams;
      closeds = (rosters past).closeds;
    } in
    subst (λ (found : Option T). IsHalfway (capacity_of kind)
    (length (held_messages ((Poll op, SendPolled (Ready (Ok tt))) ∷ past))) (is_closed past)
    (length (live_names Receivers past)) (after_accepting found own)) (sym put)
    (accepts (capacity_of kind) (length (held_messages past)) _ (is_closed past)
    (length (live_names Receivers past)) own message c (omega arith)
    (λ most e. let room : length (held_messages past) < most = room-held_of kind past f most e in omega arith)
    covered.receives
    (λ most e. Enough-fewer (most - length (held_messages past) - 1) _ (leave op (rosters past).sends) (omega arith)
    (Enough-leave op (most - length (held_messages past)) (rosters past).sends sound.sends (covered.sends most e)))
    (λ e. names-leave op (rosters past).sends (covered.unbounded e))
    covered.closeds)

pub no_operation-halfway : {T : Type 0} (kind : Kind) (past : Past T) (op : ℕ) → Whole kind past
    → Halfway kind past (Poll op) (Refused Unknown None)
unfolding Halfway
no_operation-halfway kind past op covered held = unmoved kind past _ covered held

pub poll-halfway : {T : Type 0} (kind : Kind) (past : Past T) (op : ℕ) → Whole kind past → AreSound (rosters past)
    → (operation : Option (Operation T)) → operation_of past op ≡ operation
    → Halfway kind past (Poll op) (poll_reply (is_closed past) (has_none (live_names Receivers past)) (is_full kind past)
    (oldest_message past) operation)
poll-halfway kind past op covered sound (Some (sending sender message)) o =
    poll_send-halfway kind past op sender covered sound message (is_closed past) (is_full kind past) o refl refl
poll-halfway kind past op covered sound (Some (receiving receiver)) o =
    poll_recv-halfway kind past op covered sound (oldest_message past) (is_closed past) refl refl
poll-halfway kind past op covered sound (Some (awaiting_close sender)) o =
    poll_closed-halfway kind past op covered sound (has_none (live_names Receivers past)) refl
poll-halfway kind past op covered sound None o = no_operation-halfway kind past op covered

pub drop_op-halfway : {T : Type 0} (kind : Kind) (past : Past T) (op : ℕ) → Whole kind past → AreSound (rosters past)
    → Halfway kind past (DropOp op) Done
unfolding Halfway
drop_op-halfway kind past op covered sound held = with_given_up kind past _ covered held op sound

pub drop_receiver-halfway : {T : Type 0} (kind : Kind) (past : Past T) (receiver : ℕ) → Whole kind past
    → AreSound (rosters past) → Halfway kind past (DropReceiver receiver) Done
unfolding Halfway
drop_receiver-halfway kind past receiver covered sound held =
    with_streams kind past _ covered held (leave receiver (rosters past).streams)
    (λ untold. covered.streams (HasUntold-leave receiver (rosters past).streams sound.streams untold))
    (λ e. IsAllTold-leave receiver (rosters past).streams sound.streams
    (let all : AreAllTold (rosters past) = covered.told e in all.streams))

pub due-halfway : {T : Type 0} (kind : Kind) (past : Past T) (step : Step T) → Whole kind past → AreSound (rosters past)
    → ForSome (capacity_of kind) (λ most. 0 < most) → Halfway kind past step (due_reply kind past step)
unfolding Halfway
due-halfway kind past (TrySend sender message) covered sound some =
    try_send-halfway kind past sender message covered (is_closed past) (is_full kind past) refl refl
due-halfway kind past (ForceSend sender message) covered sound some =
    force_send-halfway kind past sender message covered some (is_closed past) (is_full kind past)
    (oldest_message past) refl refl refl
due-halfway kind past (TryRecv receiver) covered sound some =
    try_recv-halfway kind past receiver covered (oldest_message past) (is_closed past) refl
due-halfway kind past (Poll op) covered sound some = poll-halfway kind past op covered sound (operation_of past op) refl
due-halfway kind past (PollNext receiver) covered sound some =
    poll_next-halfway kind past receiver covered sound (oldest_message past) (is_closed past) refl refl
due-halfway kind past (DropOp op) covered sound some = drop_op-halfway kind past op covered sound
due-halfway kind past (DropReceiver receiver) covered sound some =
    drop_receiver-halfway kind past receiver covered sound
due-halfway kind past step covered sound some = λ held. unmoved kind past _ covered held
