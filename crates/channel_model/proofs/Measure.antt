-- The number that each poll of a told one lowers.
use Rattle.std.proofs.Common.{◌≡◌, ℕ, zero, suc, ◌+◌, ◌<◌, ◌≤◌, [], ◌∷◌, Bool, true, false, cond, length, arith, length-append, Some, None, Option, List}
use Rattle.futures.specs.declared.task.Poll.TheVariants.{Ready, Pending}
use Rattle.channel_model.specs.declared.step.Step.{Step}
use Rattle.channel_model.specs.declared.step.Step.TheVariants.{Poll, PollNext, DropOp, DropReceiver}
use Rattle.channel_model.specs.declared.step.Reply.{Reply}
use Rattle.channel_model.specs.declared.step.Reply.TheVariants.{SendPolled, RecvPolled, ClosedPolled, NextPolled}
use Rattle.event_list.specs.Keys.{is_among}
use Rattle.channel_model.specs.Past.{Past}
use Rattle.channel_model.specs.Operations.{is_finished_send, live_operations, Operation, operation_in}
use Rattle.channel_model.specs.Messages.{accepted_by, received_by}
use Rattle.channel_model.specs.Handles.{live_names, Receivers}
use Rattle.channel_model.specs.Closing.{is_closed, has_none}
use Rattle.channel_model.specs.Rosters.{AreSound, IsSound, Roster, Rosters, arrive, is_told, leave, nobody, wait}
use Rattle.channel_model.specs.Notices.{after_accepting, after_closing, after_last_receiver, after_own_move, after_receiving, rosters}
use Rattle.channel_model.specs.Polling.{waiting_in}
use Rattle.channel_model.proofs.RosterLemmas.{Left, told_left, untold_left, nobody_left, left, leave-IsSound, wait-IsSound, tell_one-IsSound, tell_all-IsSound, hand_on-IsSound}

after_own_move-AreSound : {T : Type 0} (operations : List (ℕ × Operation T)) (step : Step T)
    (reply : Reply T) (all : Rosters) → AreSound all → AreSound (after_own_move operations step reply all)
after_own_move-AreSound operations (Poll op) (SendPolled (Ready result)) all sound =
    record {
      sends = leave-IsSound op all.sends sound.sends;
      receives = sound.receives;
      streams = sound.streams;
      closeds = sound.closeds;
    }
after_own_move-AreSound operations (Poll op) (SendPolled Pending) all sound = go (is_finished_send (operation_in operations op))
  where
    go : (finished : Bool) → AreSound (cond finished all (record all { sends = wait op all.sends }))
    go true = sound
    go false = record {
      sends = wait-IsSound op all.sends sound.sends;
      receives = sound.receives;
      streams = sound.streams;
      closeds = sound.closeds;
    }
after_own_move-AreSound operations (Poll op) (RecvPolled (Ready result)) all sound =
    record {
      sends = sound.sends;
      receives = leave-IsSound op all.receives sound.receives;
      streams = sound.streams;
      closeds = sound.closeds;
    }
after_own_move-AreSound operations (Poll op) (RecvPolled Pending) all sound =
    record {
      sends = sound.sends;
      receives = wait-IsSound op all.receives sound.receives;
      streams = sound.streams;
      closeds = sound.closeds;
    }
after_own_move-AreSound operations (Poll op) (ClosedPolled (Ready done)) all sound =
    record {
      sends = sound.sends;
      receives = sound.receives;
      streams = sound.streams;
      closeds = leave-IsSound op all.closeds sound.closeds;
    }
after_own_move-AreSound operations (Poll op) (ClosedPolled Pending) all sound =
    record {
      sends = sound.sends;
      receives = sound.receives;
      streams = sound.streams;
      closeds = wait-IsSound op all.closeds sound.closeds;
    }
after_own_move-AreSound operations (PollNext receiver) (NextPolled (Ready item)) all sound =
    record {
      sends = sound.sends;
      receives = sound.receives;
      streams = leave-IsSound receiver all.streams sound.streams;
      closeds = sound.closeds;
    }
after_own_move-AreSound operations (PollNext receiver) (NextPolled Pending) all sound =
    record {
      sends = sound.sends;
      receives = sound.receives;
      streams = wait-IsSound receiver all.streams sound.streams;
      closeds = sound.closeds;
    }
after_own_move-AreSound operations (DropOp op) reply all sound =
    record {
      sends = hand_on-IsSound op all.sends sound.sends;
      receives = hand_on-IsSound op all.receives sound.receives;
      streams = sound.streams;
      closeds = leave-IsSound op all.closeds sound.closeds;
    }
after_own_move-AreSound operations (DropReceiver receiver) reply all sound =
    record {
      sends = sound.sends;
      receives = sound.receives;
      streams = leave-IsSound receiver all.streams sound.streams;
      closeds = sound.closeds;
    }
after_own_move-AreSound operations step reply all sound = sound

after_accepting-AreSound : {T : Type 0} (accepted : Option T) (all : Rosters) → AreSound all
    → AreSound (after_accepting accepted all)
after_accepting-AreSound (Some message) all sound =
    record {
      sends = sound.sends;
      receives = tell_one-IsSound all.receives sound.receives;
      streams = tell_all-IsSound all.streams sound.streams;
      closeds = sound.closeds;
    }
after_accepting-AreSound None all sound = sound

after_receiving-AreSound : {T : Type 0} (received : Option T) (all : Rosters) → AreSound all
    → AreSound (after_receiving received all)
after_receiving-AreSound (Some message) all sound =
    record {
      sends = tell_one-IsSound all.sends sound.sends;
      receives = sound.receives;
      streams = sound.streams;
      closeds = sound.closeds;
    }
after_receiving-AreSound None all sound = sound

after_closing-AreSound : (before now : Bool) (all : Rosters) → AreSound all → AreSound (after_closing before now all)
after_closing-AreSound false true all sound =
    record {
      sends = tell_all-IsSound all.sends sound.sends;
      receives = tell_all-IsSound all.receives sound.receives;
      streams = tell_all-IsSound all.streams sound.streams;
      closeds = sound.closeds;
    }
after_closing-AreSound true now all sound = sound
after_closing-AreSound false false all sound = sound

after_last_receiver-AreSound : (before now : Bool) (all : Rosters) → AreSound all
    → AreSound (after_last_receiver before now all)
after_last_receiver-AreSound false true all sound =
    record {
      sends = sound.sends;
      receives = sound.receives;
      streams = sound.streams;
      closeds = tell_all-IsSound all.closeds sound.closeds;
    }
after_last_receiver-AreSound true now all sound = sound
after_last_receiver-AreSound false false all sound = sound

nobody-IsSound : IsSound nobody
nobody-IsSound = record { once = tt; within = omega arith }

-- after any past at all each waits once, and no more were told than wait
pub rosters-AreSound : {T : Type 0} (past : Past T) → AreSound (rosters past)
rosters-AreSound [] = record {
  sends = nobody-IsSound;
  receives = nobody-IsSound;
  streams = nobody-IsSound;
  closeds = nobody-IsSound;
}
rosters-AreSound ((step, reply) ∷ past) =
    after_last_receiver-AreSound (has_none (live_names Receivers past)) (has_none (live_names Receivers ((step, reply) ∷ past))) _
    (after_closing-AreSound (is_closed past) (is_closed ((step, reply) ∷ past)) _
    (after_receiving-AreSound (received_by reply) _
    (after_accepting-AreSound (accepted_by (live_operations past) step reply) _
    (after_own_move-AreSound (live_operations past) step reply (rosters past) (rosters-AreSound past)))))

-- how many pairs this many can form
abbrev pub pairs : ℕ → ℕ
pairs zero = 0
pairs (suc count) = count + pairs count

-- how many of those who wait were told
abbrev pub told_in : Rosters → ℕ
told_in all = all.sends.told + all.receives.told + all.streams.told + all.closeds.told

abbrev pub measure : Rosters → ℕ
measure all = pairs (waiting_in all) + told_in all

-- A told one that is polled in vain goes on waiting, and one fewer is told.
pub record WaitsOn (before after : Roster) : Type 0 where
  pub names : length after.names ≡ length before.names
  pub told : before.told ≡ suc after.told

pub wait-told : (name : ℕ) (roster : Roster) → IsSound roster → is_told name roster ≡ true
    → WaitsOn roster (wait name roster)
wait-told name roster sound told = go (is_told name roster) told
  where
    goes_last : Left roster name → WaitsOn roster (arrive name (leave name roster))
    goes_last (told_left e t n) = record { names = simp length-append (omega arith); told = t }
    goes_last (untold_left e f t n w) = cc
    goes_last (nobody_left e f t n) = cc

    go : (is : Bool) → is ≡ true → WaitsOn roster
        (cond is (arrive name (leave name roster)) (cond (is_among name roster.names) roster (arrive name roster)))
    go true e = goes_last (left name roster sound)
    go false e = cc

-- the measure falls at a poll in vain of a told receive
pub measure-receive_in_vain : (op : ℕ) (all : Rosters) → AreSound all → is_told op all.receives ≡ true
    → measure (record all { receives = wait op all.receives }) < measure all
measure-receive_in_vain op all sound told =
    let on = wait-told op all.receives sound.receives told in
    rw on.names (let t = on.told in omega arith)

-- and at a poll that is ready, whoever is told then: one fewer waits, and no more are told than wait
pub measure-ready : (before after : Rosters) → waiting_in before ≡ suc (waiting_in after)
    → told_in after ≤ waiting_in after → 0 < told_in before → measure after < measure before
measure-ready before after fewer within some = rw fewer (omega arith)
