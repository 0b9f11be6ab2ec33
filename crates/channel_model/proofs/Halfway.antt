-- The law of notices between the moves of a step, and the moves of messages.
use Rattle.std.proofs.Common.{◌≡◌, ℕ, suc, ◌+◌, ◌-◌, ◌<◌, ◌≤◌, List, [], ◌∷◌, Bool, true, false, ◌||◌, Some, None, Option, refl, ◌∙◌, ap, length, arith, length-append}
use Rattle.std.specs.Prelude.{slice_get}
use Rattle.std.specs.Option.{ForSome, ForNone}
use Rattle.channel_model.specs.declared.step.Kind.{Kind}
use Rattle.channel_model.specs.declared.step.Kind.TheVariants.{Bounded, Unbounded}
use Rattle.channel_model.specs.declared.step.Step.{Step}
use Rattle.channel_model.specs.declared.step.Reply.{Reply}
use Rattle.channel_model.specs.Past.{Past}
use Rattle.channel_model.specs.Handles.{live_names, Receivers, Senders}
use Rattle.channel_model.specs.Operations.{live_operations}
use Rattle.channel_model.specs.Messages.{accepted_by, accepted_messages, held_messages, received_by, taken_by, taken_messages}
use Rattle.channel_model.specs.Capacity.{capacity_of}
use Rattle.channel_model.specs.Closing.{has_none, is_close, is_closed}
use Rattle.channel_model.specs.Rosters.{Roster, Rosters, tell_all, tell_one}
use Rattle.channel_model.specs.Notices.{after_accepting, after_closing, after_last_receiver, after_own_move, after_receiving, rosters}
use Rattle.channel_model.specs.Legal.{IsLegal}
use Rattle.std.proofs.lemmas.Bool.{leb-true, leb-false}
use Rattle.channel_model.proofs.Conserved.{accepted_messages-IsLegal, count_of, length-with_last}
use Rattle.channel_model.proofs.Keeping.{HasUntold, Enough, IsAllTold, IsAllTold-tell_all, Enough-tell_one, Enough-fewer, IsAllTold-tell_one, Enough-all_told}
use Rattle.channel_model.proofs.ReplyForms.{is_full}

-- What one pair adds to what is held.
pub length-held_messages : {T : Type 0} (kind : Kind) (past : Past T) (step : Step T) (reply : Reply T)
    → IsLegal kind ((step, reply) ∷ past)
    → length (held_messages ((step, reply) ∷ past)) + count_of (taken_by reply)
    ≡ length (held_messages past) + count_of (accepted_by (live_operations past) step reply)
length-held_messages {T} kind past step reply legal =
    let before : length (accepted_messages past) ≡ length (taken_messages past) + length (held_messages past) =
    ap length (accepted_messages-IsLegal kind past legal.0)
    ∙ length-append (taken_messages past) (held_messages past) in
    let after : length (accepted_messages ((step, reply) ∷ past))
    ≡ length (taken_messages ((step, reply) ∷ past)) + length (held_messages ((step, reply) ∷ past)) =
    ap length (accepted_messages-IsLegal kind ((step, reply) ∷ past) legal)
    ∙ length-append (taken_messages ((step, reply) ∷ past)) (held_messages ((step, reply) ∷ past)) in
    let put = length-with_last (accepted_messages past) (accepted_by (live_operations past) step reply) in
    let took = length-with_last (taken_messages past) (taken_by reply) in
    omega arith

-- all sends, receives and streams that wait were told
pub record AreAllTold (all : Rosters) : Type 0 where
  pub sends : IsAllTold all.sends
  pub receives : IsAllTold all.receives
  pub streams : IsAllTold all.streams

-- The law between the moves of a step: the rosters have changed, and neither a closing nor the end of the last receiver
-- was told yet.
pub record IsHalfway (capacity : Option ℕ) (held : ℕ) (closed : Bool) (receivers : ℕ) (all : Rosters) : Type 0 where
  pub receives : Enough held all.receives
  pub sends : ForSome capacity (λ most. Enough (most - held) all.sends)
  pub unbounded : ForNone capacity (all.sends.names ≡ [])
  pub streams : HasUntold all.streams → (held ≡ 0) × (closed ≡ false)
  pub closeds : HasUntold all.closeds → 0 < receivers
  pub told : closed ≡ true → AreAllTold all
  pub within : ForSome capacity (λ most. held ≤ most)

pub IsHalfway-held : (capacity : Option ℕ) (held held' : ℕ) (closed : Bool) (receivers : ℕ) (all : Rosters) → held' ≡ held
    → IsHalfway capacity held closed receivers all → IsHalfway capacity held' closed receivers all
IsHalfway-held capacity held held' closed receivers all e half = rw e half

-- The law after a past, roster by roster.
abbrev pub Whole : {T : Type 0} → Kind → Past T → Type 0
Whole kind past = IsHalfway (capacity_of kind) (length (held_messages past)) (is_closed past)
    (length (live_names Receivers past)) (rosters past)

-- if all are told nobody is untold
pub all_told-untold : (roster : Roster) → IsAllTold roster → HasUntold roster → ⊥
all_told-untold roster all untold = omega arith

-- A closing tells all sends, receives and streams.
pub closed_or_not : (capacity : Option ℕ) (held receivers : ℕ) (before now : Bool) (all : Rosters)
    → (before ≡ true → now ≡ true)
    → IsHalfway capacity held before receivers all
    → IsHalfway capacity held now receivers (after_closing before now all)
closed_or_not capacity held receivers true now all stays half =
    record {
      receives = half.receives;
      sends = half.sends;
      unbounded = half.unbounded;
      streams = λ untold. absurd (all_told-untold all.streams (half.told refl).streams untold);
      closeds = half.closeds;
      told = λ e. half.told refl;
      within = half.within;
    }
closed_or_not capacity held receivers false true all stays half =
    record {
      receives = Enough-all_told held (tell_all all.receives) (IsAllTold-tell_all all.receives);
      sends = λ most e. Enough-all_told (most - held) (tell_all all.sends) (IsAllTold-tell_all all.sends);
      unbounded = half.unbounded;
      streams = λ untold. absurd (all_told-untold (tell_all all.streams) (IsAllTold-tell_all all.streams) untold);
      closeds = half.closeds;
      told = λ e. record {
        sends = IsAllTold-tell_all all.sends;
        receives = IsAllTold-tell_all all.receives;
        streams = IsAllTold-tell_all all.streams;
      };
      within = half.within;
    }
closed_or_not capacity held receivers false false all stays half = half

-- The end of the last receiver tells all closed operations.
pub ended_or_not : (capacity : Option ℕ) (held : ℕ) (closed : Bool) (before now : List ℕ) (all : Rosters)
    → IsHalfway capacity held closed (length before) all
    → IsHalfway capacity held closed (length now) (after_last_receiver (has_none before) (has_none now) all)
ended_or_not capacity held closed [] now all half =
    record {
      receives = half.receives;
      sends = half.sends;
      unbounded = half.unbounded;
      streams = half.streams;
      closeds = λ untold. let one : 0 < 0 = half.closeds untold in absurd (omega arith);
      told = half.told;
      within = half.within;
    }
ended_or_not capacity held closed (first ∷ before) [] all half =
    record {
      receives = half.receives;
      sends = half.sends;
      unbounded = half.unbounded;
      streams = half.streams;
      closeds = λ untold. absurd (all_told-untold (tell_all all.closeds) (IsAllTold-tell_all all.closeds) untold);
      told = λ e. let told : AreAllTold all = half.told e in
          record { sends = told.sends; receives = told.receives; streams = told.streams };
      within = half.within;
    }
ended_or_not capacity held closed (first ∷ before) (other ∷ now) all half =
    record {
      receives = half.receives;
      sends = half.sends;
      unbounded = half.unbounded;
      streams = half.streams;
      closeds = λ untold. omega arith;
      told = half.told;
      within = half.within;
    }

-- What the definition of closed says of the names.
pub closed-stays : (before close senders receivers : Bool) → before ≡ true
    → (before || close || senders || receivers) ≡ true
closed-stays true close senders receivers e = refl
closed-stays false close senders receivers e = cc

pub open-senders : (before close : Bool) (senders : List ℕ) (receivers : Bool)
    → (before || close || has_none senders || receivers) ≡ false → 0 < length senders
open-senders true close senders receivers e = cc
open-senders false true senders receivers e = cc
open-senders false false [] receivers e = cc
open-senders false false (first ∷ senders) receivers e = omega arith

pub open-receivers : (before close senders : Bool) (receivers : List ℕ)
    → (before || close || senders || has_none receivers) ≡ false → 0 < length receivers
open-receivers true close senders receivers e = cc
open-receivers false true senders receivers e = cc
open-receivers false false true receivers e = cc
open-receivers false false false [] e = cc
open-receivers false false false (first ∷ receivers) e = omega arith

-- the rosters before a closing is told
abbrev pub halfway_rosters : {T : Type 0} → Past T → Step T → Reply T → Rosters
halfway_rosters past step reply = after_receiving (received_by reply)
    (after_accepting (accepted_by (live_operations past) step reply) (after_own_move (live_operations past) step reply (rosters past)))

pub Whole-from_halfway : {T : Type 0} (kind : Kind) (past : Past T) (step : Step T) (reply : Reply T)
    → IsHalfway (capacity_of kind) (length (held_messages ((step, reply) ∷ past))) (is_closed past)
    (length (live_names Receivers past)) (halfway_rosters past step reply)
    → Whole kind ((step, reply) ∷ past)
Whole-from_halfway kind past step reply half =
    ended_or_not (capacity_of kind) (length (held_messages ((step, reply) ∷ past))) (is_closed ((step, reply) ∷ past))
    (live_names Receivers past) (live_names Receivers ((step, reply) ∷ past))
    (after_closing (is_closed past) (is_closed ((step, reply) ∷ past)) (halfway_rosters past step reply))
    (closed_or_not (capacity_of kind) (length (held_messages ((step, reply) ∷ past))) (length (live_names Receivers past))
    (is_closed past) (is_closed ((step, reply) ∷ past)) (halfway_rosters past step reply)
    (closed-stays (is_closed past) (is_close step) (has_none (live_names Senders ((step, reply) ∷ past)))
    (has_none (live_names Receivers ((step, reply) ∷ past))))
    half)

-- ---- the kinds of change

-- A message goes in; another may be displaced.
pub accepts : {T : Type 0} (capacity : Option ℕ) (held held' : ℕ) (closed : Bool) (receivers : ℕ) (all : Rosters)
    (message : T) → closed ≡ false → held' ≤ suc held → ForSome capacity (λ most. held' ≤ most)
    → Enough held all.receives → ForSome capacity (λ most. Enough (most - held') all.sends)
    → ForNone capacity (all.sends.names ≡ []) → (HasUntold all.closeds → 0 < receivers)
    → IsHalfway capacity held' closed receivers (after_accepting (Some message) all)
accepts capacity held held' closed receivers all message opened more room receives sends unbounded closeds =
    record {
      receives = Enough-fewer (suc held) held' (tell_one all.receives) more
          (Enough-tell_one held all.receives receives);
      sends = sends;
      unbounded = unbounded;
      streams = λ untold. absurd (all_told-untold (tell_all all.streams) (IsAllTold-tell_all all.streams) untold);
      closeds = closeds;
      told = λ e. cc;
      within = room;
    }

-- A message is received.
pub receiving_one : {T : Type 0} (capacity : Option ℕ) (held held' : ℕ) (closed : Bool) (receivers : ℕ) (all : Rosters)
    (message : T) → held ≡ suc held' → ForSome capacity (λ most. held ≤ most)
    → Enough held' all.receives → ForSome capacity (λ most. Enough (most - held) all.sends)
    → ForNone capacity (all.sends.names ≡ [])
    → (HasUntold all.streams → held ≡ 0) → (HasUntold all.closeds → 0 < receivers) → (closed ≡ true → AreAllTold all)
    → IsHalfway capacity held' closed receivers (after_receiving (Some message) all)
receiving_one capacity held held' closed receivers all message fewer room enough sends unbounded streams closeds told =
    record {
      receives = enough;
      sends = λ most e. Enough-fewer (suc (most - held)) (most - held') (tell_one all.sends) (omega arith)
          (Enough-tell_one (most - held) all.sends (sends most e));
      unbounded = unbounded;
      streams = λ untold. let none : held ≡ 0 = streams untold in absurd (omega arith);
      closeds = closeds;
      told = λ e. let before : AreAllTold all = told e in
          record {
            sends = IsAllTold-tell_one all.sends before.sends;
            receives = before.receives;
            streams = before.streams;
          };
      within = λ most e. let le : held ≤ most = room most e in omega arith;
    }

pub some-held : {T : Type 0} (messages : List T) (message : T) → slice_get messages 0 ≡ Some message → 0 < length messages
some-held [] message e = cc
some-held (first ∷ messages) message e = omega arith

pub none-held : {T : Type 0} (messages : List T) → slice_get messages 0 ≡ None → length messages ≡ 0
none-held [] e = refl
none-held (first ∷ messages) e = cc

pub full-held_of : {T : Type 0} (kind : Kind) (past : Past T) → is_full kind past ≡ true
    → ForSome (capacity_of kind) (λ most. most ≤ length (held_messages past))
full-held_of (Bounded capacity) past e most is =
    let same : capacity ≡ most = cc in rw (← same) (leb-true capacity (length (held_messages past)) e)
full-held_of Unbounded past e most is = cc

pub room-held_of : {T : Type 0} (kind : Kind) (past : Past T) → is_full kind past ≡ false
    → ForSome (capacity_of kind) (λ most. length (held_messages past) < most)
room-held_of (Bounded capacity) past e most is =
    let same : capacity ≡ most = cc in rw (← same) (leb-false capacity (length (held_messages past)) e)
room-held_of Unbounded past e most is = cc
