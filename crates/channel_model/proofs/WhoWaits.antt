-- Whoever waits is live, and of the kind of the roster where it waits.
use Rattle.std.proofs.Common.{◌≡◌, ℕ, ◌⊎◌, inl, inr, [], ◌∷◌, Bool, true, false, not, cond, ◌==◌, Some, None, Option, Result, refl, sym, ◌∙◌, ap, subst}
use Rattle.std.proofs.lemmas.Bool.{eqb-true}
use Rattle.futures.specs.declared.task.Poll.TheVariants.{Ready, Pending}
use Rattle.channel_core.specs.declared.errors.SendError.{SendError}
use Rattle.channel_model.specs.declared.step.Kind.{Kind}
use Rattle.channel_model.specs.declared.step.Step.{Step}
use Rattle.channel_model.specs.declared.step.Step.TheVariants.{CloneReceiver, UpgradeReceiver, DropReceiver, StartSend, StartRecv, StartClosed, Poll, PollNext, DropOp}
use Rattle.channel_model.specs.declared.step.Reply.{Reply}
use Rattle.channel_model.specs.declared.step.Reply.TheVariants.{SendPolled, Done, Upgraded}
use Rattle.event_list.specs.Keys.{is_among}
use Rattle.channel_model.specs.Past.{Past}
use Rattle.channel_model.specs.Handles.{live_names, Receivers}
use Rattle.channel_model.specs.Operations.{Operation, awaiting_close, is_awaiting, is_finished_send, is_receive, is_unsent, live_operations, operation_of, receiving, sending}
use Rattle.channel_model.specs.Messages.{accepted_by, oldest_message, received_by}
use Rattle.channel_model.specs.Closing.{is_closed, has_none}
use Rattle.channel_model.specs.Replies.{due_reply, poll_reply}
use Rattle.channel_model.specs.Refusals.{refusal_of}
use Rattle.channel_model.specs.Rosters.{Rosters, wait}
use Rattle.channel_model.specs.Notices.{after_accepting, after_closing, after_last_receiver, after_own_move, after_receiving, rosters}
use Rattle.channel_model.specs.Legal.{IsAllowed, IsLegal}
use Rattle.channel_model.specs.Laws.{AreLive}
use Rattle.channel_model.specs.View.{view_of}
use Rattle.channel_model.proofs.ReplyForms.{poll_closed_reply, poll_next_reply, poll_recv_reply, poll_send_reply, is_full}
use Rattle.channel_model.proofs.LookUps.{look_up-without, look_up-with_finished, among-leave, among-hand_on, among-wait}
use Rattle.channel_model.proofs.AllowedSteps.{allowed, known_if_borrowed, apart_by, same_by, started, or_right, is_among-without_other}

pub AreLive-accepting : {T : Type 0} (past : Past T) (accepted : Option T) (all : Rosters) → AreLive past all
    → AreLive past (after_accepting accepted all)
AreLive-accepting past (Some message) all live =
    record { sends = live.sends; receives = live.receives; closeds = live.closeds; streams = live.streams }
AreLive-accepting past None all live = live

pub AreLive-receiving : {T : Type 0} (past : Past T) (received : Option T) (all : Rosters) → AreLive past all
    → AreLive past (after_receiving received all)
AreLive-receiving past (Some message) all live =
    record { sends = live.sends; receives = live.receives; closeds = live.closeds; streams = live.streams }
AreLive-receiving past None all live = live

pub AreLive-closing : {T : Type 0} (past : Past T) (before now : Bool) (all : Rosters) → AreLive past all
    → AreLive past (after_closing before now all)
AreLive-closing past false true all live =
    record { sends = live.sends; receives = live.receives; closeds = live.closeds; streams = live.streams }
AreLive-closing past false false all live = live
AreLive-closing past true now all live = live

pub AreLive-last_receiver : {T : Type 0} (past : Past T) (before now : Bool) (all : Rosters) → AreLive past all
    → AreLive past (after_last_receiver before now all)
AreLive-last_receiver past false true all live =
    record { sends = live.sends; receives = live.receives; closeds = live.closeds; streams = live.streams }
AreLive-last_receiver past false false all live = live
AreLive-last_receiver past true now all live = live

-- ---- step by step: whoever waits after the own move

pub OwnMoveIsLive : {T : Type 0} → Past T → Step T → Reply T → Type 0
OwnMoveIsLive past step reply = AreLive past (rosters past)
    → AreLive ((step, reply) ∷ past) (after_own_move (live_operations past) step reply (rosters past))

-- the send was ready: it left, and is finished
pub ready_send : {T : Type 0} (past : Past T) (op sender : ℕ) (message : Option T)
    (result : Result (Unit {0}) (SendError T)) → operation_of past op ≡ Some (sending sender message)
    → OwnMoveIsLive past (Poll op) (SendPolled (Ready result))
unfolding OwnMoveIsLive
ready_send {T} past op sender message result o live =
    record {
      sends = λ name among.
          let stayed = among-leave op name (rosters past).sends among in
          ap (λ (found : Option (Operation T)). is_unsent found)
          (look_up-with_finished op name (live_operations past) stayed.apart) ∙ live.sends name stayed.before;
      receives = λ name among.
          ap (λ (found : Option (Operation T)). is_receive found)
          (look_up-with_finished op name (live_operations past)
          (apart_by past is_receive op name (live.receives name among) (ap is_receive o)))
          ∙ live.receives name among;
      closeds = λ name among.
          ap (λ (found : Option (Operation T)). is_awaiting found)
          (look_up-with_finished op name (live_operations past)
          (apart_by past is_awaiting op name (live.closeds name among) (ap is_awaiting o)))
          ∙ live.closeds name among;
      streams = live.streams;
    }

pub poll_send-live : {T : Type 0} (past : Past T) (op sender : ℕ) (message : Option T) (closed full : Bool)
    → operation_of past op ≡ Some (sending sender message)
    → OwnMoveIsLive past (Poll op) (poll_send_reply message closed full)
unfolding OwnMoveIsLive
poll_send-live past op sender None closed full o live =
    go (is_finished_send (operation_of past op)) (ap is_finished_send o)
  where
    go : (finished : Bool) → finished ≡ true
        → AreLive ((Poll op, SendPolled Pending) ∷ past)
        (cond finished (rosters past) (record {
          sends = wait op (rosters past).sends;
          receives = (rosters past).receives;
          streams = (rosters past).streams;
          closeds = (rosters past).closeds;
        }))
    go true e = record { sends = live.sends; receives = live.receives; closeds = live.closeds; streams = live.streams }
    go false e = cc
poll_send-live {T} past op sender (Some message) true full o live = ready_send past op sender (Some message) _ o live
poll_send-live {T} past op sender (Some message) false false o live = ready_send past op sender (Some message) _ o live
poll_send-live past op sender (Some message) false true o live =
    go (is_finished_send (operation_of past op)) (ap is_finished_send o)
  where
    either_way : (name : ℕ) → ((op == name) ≡ true) ⊎ (is_among name (rosters past).sends.names ≡ true)
        → is_unsent (operation_of past name) ≡ true
    either_way name (inl same) = same_by past is_unsent op name same (ap is_unsent o)
    either_way name (inr was) = live.sends name was

    go : (finished : Bool) → finished ≡ false
        → AreLive ((Poll op, SendPolled Pending) ∷ past)
        (cond finished (rosters past) (record {
          sends = wait op (rosters past).sends;
          receives = (rosters past).receives;
          streams = (rosters past).streams;
          closeds = (rosters past).closeds;
        }))
    go true e = cc
    go false e = record {
      sends = λ name among. either_way name (among-wait op name (rosters past).sends among);
      receives = live.receives;
      closeds = live.closeds;
      streams = live.streams;
    }

pub poll_recv-live : {T : Type 0} (past : Past T) (op receiver : ℕ) (oldest : Option T) (closed : Bool)
    → operation_of past op ≡ Some (receiving receiver) → OwnMoveIsLive past (Poll op) (poll_recv_reply oldest closed)
unfolding OwnMoveIsLive
poll_recv-live past op receiver (Some message) closed o live =
    record {
      sends = live.sends;
      receives = λ name among. live.receives name
          (among-leave op name (rosters past).receives among).before;
      closeds = live.closeds;
      streams = live.streams;
    }
poll_recv-live past op receiver None true o live =
    record {
      sends = live.sends;
      receives = λ name among. live.receives name
          (among-leave op name (rosters past).receives among).before;
      closeds = live.closeds;
      streams = live.streams;
    }
poll_recv-live past op receiver None false o live =
    record {
      sends = live.sends;
      receives = λ name among. either_way name
          (among-wait op name (rosters past).receives among);
      closeds = live.closeds;
      streams = live.streams;
    }
  where
    either_way : (name : ℕ) → ((op == name) ≡ true) ⊎ (is_among name (rosters past).receives.names ≡ true)
        → is_receive (operation_of past name) ≡ true
    either_way name (inl same) = same_by past is_receive op name same (ap is_receive o)
    either_way name (inr was) = live.receives name was

pub poll_closed-live : {T : Type 0} (past : Past T) (op sender : ℕ) (no_receiver : Bool)
    → operation_of past op ≡ Some (awaiting_close sender) → OwnMoveIsLive past (Poll op) (poll_closed_reply no_receiver)
unfolding OwnMoveIsLive
poll_closed-live past op sender true o live =
    record {
      sends = live.sends;
      receives = live.receives;
      closeds = λ name among. live.closeds name (among-leave op name (rosters past).closeds among).before;
      streams = live.streams;
    }
poll_closed-live past op sender false o live =
    record {
      sends = live.sends;
      receives = live.receives;
      closeds = λ name among. either_way name (among-wait op name (rosters past).closeds among);
      streams = live.streams;
    }
  where
    either_way : (name : ℕ) → ((op == name) ≡ true) ⊎ (is_among name (rosters past).closeds.names ≡ true)
        → is_awaiting (operation_of past name) ≡ true
    either_way name (inl same) = same_by past is_awaiting op name same (ap is_awaiting o)
    either_way name (inr was) = live.closeds name was

pub poll-live : {T : Type 0} (past : Past T) (op : ℕ) (operation : Option (Operation T)) (closed no_receiver full : Bool)
    (oldest : Option T) → operation_of past op ≡ operation
    → OwnMoveIsLive past (Poll op) (poll_reply closed no_receiver full oldest operation)
unfolding OwnMoveIsLive
poll-live past op (Some (sending sender message)) closed no_receiver full oldest o live =
    poll_send-live past op sender message closed full o live
poll-live past op (Some (receiving receiver)) closed no_receiver full oldest o live =
    poll_recv-live past op receiver oldest closed o live
poll-live past op (Some (awaiting_close sender)) closed no_receiver full oldest o live =
    poll_closed-live past op sender no_receiver o live
poll-live past op None closed no_receiver full oldest o live =
    record { sends = live.sends; receives = live.receives; closeds = live.closeds; streams = live.streams }

pub poll_next-live : {T : Type 0} (past : Past T) (receiver : ℕ) (oldest : Option T) (closed : Bool)
    → is_among receiver (live_names Receivers past) ≡ true
    → OwnMoveIsLive past (PollNext receiver) (poll_next_reply oldest closed)
unfolding OwnMoveIsLive
poll_next-live past receiver (Some message) closed known live =
    record {
      sends = live.sends;
      receives = live.receives;
      closeds = live.closeds;
      streams = λ name among. live.streams name (among-leave receiver name (rosters past).streams among).before;
    }
poll_next-live past receiver None true known live =
    record {
      sends = live.sends;
      receives = live.receives;
      closeds = live.closeds;
      streams = λ name among. live.streams name (among-leave receiver name (rosters past).streams among).before;
    }
poll_next-live past receiver None false known live =
    record {
      sends = live.sends;
      receives = live.receives;
      closeds = live.closeds;
      streams = λ name among. either_way name (among-wait receiver name (rosters past).streams among);
    }
  where
    either_way : (name : ℕ) → ((receiver == name) ≡ true) ⊎ (is_among name (rosters past).streams.names ≡ true)
        → is_among name (live_names Receivers past) ≡ true
    either_way name (inl same) = rw (← eqb-true receiver name same) known
    either_way name (inr was) = live.streams name was

pub drop_op-live : {T : Type 0} (past : Past T) (op : ℕ) → OwnMoveIsLive past (DropOp op) Done
unfolding OwnMoveIsLive
drop_op-live {T} past op live =
    record {
      sends = λ name among.
          let stayed = among-hand_on op name (rosters past).sends among in
          ap (λ (found : Option (Operation T)). is_unsent found)
          (look_up-without op name (live_operations past) stayed.apart) ∙ live.sends name stayed.before;
      receives = λ name among.
          let stayed = among-hand_on op name (rosters past).receives among in
          ap (λ (found : Option (Operation T)). is_receive found)
          (look_up-without op name (live_operations past) stayed.apart) ∙ live.receives name stayed.before;
      closeds = λ name among.
          let stayed = among-leave op name (rosters past).closeds among in
          ap (λ (found : Option (Operation T)). is_awaiting found)
          (look_up-without op name (live_operations past) stayed.apart) ∙ live.closeds name stayed.before;
      streams = live.streams;
    }

pub drop_receiver-live : {T : Type 0} (past : Past T) (receiver : ℕ) → OwnMoveIsLive past (DropReceiver receiver) Done
unfolding OwnMoveIsLive
drop_receiver-live past receiver live =
    record {
      sends = live.sends;
      receives = live.receives;
      closeds = live.closeds;
      streams = λ name among.
          let stayed = among-leave receiver name (rosters past).streams among in
          is_among-without_other receiver name (live_names Receivers past) stayed.apart (live.streams name stayed.before);
    }

pub upgrade_receiver-live : {T : Type 0} (past : Past T) (of new : ℕ) (granted : Bool)
    → OwnMoveIsLive past (UpgradeReceiver of new) (Upgraded granted)
unfolding OwnMoveIsLive
upgrade_receiver-live past of new true live =
    record {
      sends = live.sends;
      receives = live.receives;
      closeds = live.closeds;
      streams = λ name among. or_right (new == name) (is_among name (live_names Receivers past)) (live.streams name among);
    }
upgrade_receiver-live past of new false live =
    record { sends = live.sends; receives = live.receives; closeds = live.closeds; streams = live.streams }

pub due-live : {T : Type 0} (kind : Kind) (past : Past T) (step : Step T) → IsAllowed step (refusal_of kind past step)
    → OwnMoveIsLive past step (due_reply kind past step)
unfolding OwnMoveIsLive
due-live kind past (Poll op) may live = poll-live past op (operation_of past op) (is_closed past) (has_none (live_names Receivers past))
    (is_full kind past) (oldest_message past) refl live
due-live kind past (PollNext receiver) (inl may) live =
    poll_next-live past receiver (oldest_message past) (is_closed past)
    (allowed (view_of kind past) (PollNext receiver) may).known live
due-live kind past (PollNext receiver) (inr may) live =
    poll_next-live past receiver (oldest_message past) (is_closed past)
    (known_if_borrowed (view_of kind past) (PollNext receiver) may) live
due-live kind past (DropOp op) may live = drop_op-live past op live
due-live kind past (DropReceiver receiver) may live = drop_receiver-live past receiver live
due-live kind past (CloneReceiver of new) may live =
    record {
      sends = live.sends;
      receives = live.receives;
      closeds = live.closeds;
      streams = λ name among. or_right (new == name) (is_among name (live_names Receivers past)) (live.streams name among);
    }
due-live kind past (UpgradeReceiver of new) may live = upgrade_receiver-live past of new (not (is_closed past)) live
due-live kind past (StartSend op sender message) may live =
    let rest = started past (rosters past) op (sending sender (Some message))
    (allowed (view_of kind past) (StartSend op sender message) may).fresh live in
    record { sends = rest.0; receives = rest.1; closeds = rest.2; streams = live.streams }
due-live kind past (StartRecv op receiver) may live =
    let rest = started past (rosters past) op (receiving receiver)
    (allowed (view_of kind past) (StartRecv op receiver) may).fresh live in
    record { sends = rest.0; receives = rest.1; closeds = rest.2; streams = live.streams }
due-live kind past (StartClosed op sender) may live =
    let rest = started past (rosters past) op (awaiting_close sender)
    (allowed (view_of kind past) (StartClosed op sender) may).fresh live in
    record { sends = rest.0; receives = rest.1; closeds = rest.2; streams = live.streams }
due-live kind past step may live = record {
  sends = live.sends;
  receives = live.receives;
  closeds = live.closeds;
  streams = live.streams;
}

pub AreLive-IsLegal : {T : Type 0} (kind : Kind) (past : Past T) → IsLegal kind past → AreLive past (rosters past)
unfolding OwnMoveIsLive
AreLive-IsLegal kind [] legal = record {
  sends = λ name among. cc;
  receives = λ name among. cc;
  closeds = λ name among. cc;
  streams = λ name among. cc;
}
AreLive-IsLegal {T} kind ((step, reply) ∷ past) legal =
    AreLive-last_receiver ((step, reply) ∷ past) (has_none (live_names Receivers past)) (has_none (live_names Receivers ((step, reply) ∷ past))) _
    (AreLive-closing ((step, reply) ∷ past) (is_closed past) (is_closed ((step, reply) ∷ past)) _
    (AreLive-receiving ((step, reply) ∷ past) (received_by reply) _
    (AreLive-accepting ((step, reply) ∷ past) (accepted_by (live_operations past) step reply) _
    (subst (λ (r : Reply T). AreLive ((step, r) ∷ past) (after_own_move (live_operations past) step r (rosters past))) (sym legal.1)
    (due-live kind past step legal.2 (AreLive-IsLegal kind past legal.0))))))
