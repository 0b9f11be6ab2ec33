-- Each poll of a told one makes the measure fall.
use Rattle.std.proofs.Common.{◌≡◌, ℕ, zero, suc, ◌<◌, ◌≤◌, ◌⊎◌, inl, inr, List, [], ◌∷◌, ◌++◌, Bool, true, false, cond, ◌||◌, ◌==◌, Some, None, Ok, Err, Option, refl, sym, ◌∙◌, ap, subst, length, map, arith}
use Rattle.std.specs.Prelude.{Contains}
use Rattle.std.proofs.lemmas.Bool.{eq-eqb}
use Rattle.std.proofs.lemmas.List.Elements.{Contains-append_cases}
use Rattle.futures.specs.declared.task.Poll.TheVariants.{Ready, Pending}
use Rattle.channel_model.specs.declared.step.Kind.{Kind}
use Rattle.channel_model.specs.declared.step.Step.{Step}
use Rattle.channel_model.specs.declared.step.Step.TheVariants.{Poll, PollNext}
use Rattle.channel_model.specs.declared.step.Reply.{Reply}
use Rattle.channel_model.specs.declared.step.Reply.TheVariants.{SendPolled, RecvPolled, ClosedPolled, NextPolled}
use Rattle.event_list.specs.Keys.{is_among}
use Rattle.channel_model.specs.Past.{Past}
use Rattle.channel_model.specs.Handles.{live_names, Receivers, Senders}
use Rattle.channel_model.specs.Operations.{Operation, awaiting_close, is_awaiting, is_finished_send, is_receive, is_unsent, operation_of, receiving, sending, live_operations}
use Rattle.channel_model.specs.Messages.{accepted_by, oldest_message, received_by}
use Rattle.channel_model.specs.Closing.{is_close, is_closed, has_none}
use Rattle.channel_core.specs.Tables.{send_error}
use Rattle.channel_model.specs.Replies.{due_reply, poll_reply}
use Rattle.channel_model.specs.Rosters.{AreSound, IsSound, Roster, Rosters, is_told, leave, told_names, wait}
use Rattle.channel_model.specs.Notices.{after_accepting, after_closing, after_last_receiver, after_own_move, after_receiving, rosters}
use Rattle.channel_model.specs.Legal.{IsLegal}
use Rattle.channel_core.specs.Covered.{IsCovered}
use Rattle.channel_model.specs.Standing.{standing_of}
use Rattle.channel_model.specs.Polling.{told_polls, waiting_in}
use Rattle.channel_model.proofs.ReplyForms.{poll_closed_reply, poll_next_reply, poll_recv_reply, poll_send_reply, is_full}
use Rattle.channel_model.proofs.NameLists.{is_among-take}
use Rattle.channel_model.proofs.RosterLemmas.{Left, told_left, untold_left, nobody_left, left}
use Rattle.channel_model.proofs.Measure.{rosters-AreSound, measure, measure-ready, wait-told, told_in}
use Rattle.channel_model.proofs.Unchanged.{rosters-kept}
use Rattle.channel_model.proofs.CoveredPasts.{IsCovered-IsLegal}
use Rattle.channel_model.proofs.AllowedSteps.{or_right}
use Rattle.channel_model.proofs.WhoWaits.{AreLive-IsLegal}

-- ---- the numbers

pub waiting-accepting : {T : Type 0} (accepted : Option T) (all : Rosters)
    → waiting_in (after_accepting accepted all) ≡ waiting_in all
waiting-accepting (Some message) all = refl
waiting-accepting None all = refl

pub waiting-receiving : {T : Type 0} (received : Option T) (all : Rosters)
    → waiting_in (after_receiving received all) ≡ waiting_in all
waiting-receiving (Some message) all = refl
waiting-receiving None all = refl

pub waiting-closing : (before now : Bool) (all : Rosters) → waiting_in (after_closing before now all) ≡ waiting_in all
waiting-closing false true all = refl
waiting-closing false false all = refl
waiting-closing true now all = refl

pub waiting-last_receiver : (before now : Bool) (all : Rosters)
    → waiting_in (after_last_receiver before now all) ≡ waiting_in all
waiting-last_receiver false true all = refl
waiting-last_receiver false false all = refl
waiting-last_receiver true now all = refl

pub told-waiting : (all : Rosters) → AreSound all → told_in all ≤ waiting_in all
told-waiting all sound =
    let a = sound.sends.within in let b = sound.receives.within in let c = sound.streams.within in
    let d = sound.closeds.within in omega arith

-- whoever is polled has left
pub ready-falls : {T : Type 0} (past : Past T) (step : Step T) (reply : Reply T)
    → waiting_in (rosters past) ≡ suc (waiting_in (after_own_move (live_operations past) step reply (rosters past)))
    → 0 < told_in (rosters past)
    → measure (rosters ((step, reply) ∷ past)) < measure (rosters past)
ready-falls past step reply fewer some =
    measure-ready (rosters past) (rosters ((step, reply) ∷ past))
    (fewer ∙ ap suc (sym
    (waiting-last_receiver (has_none (live_names Receivers past)) (has_none (live_names Receivers ((step, reply) ∷ past)))
    (after_closing (is_closed past) (is_closed ((step, reply) ∷ past))
    (after_receiving (received_by reply) (after_accepting (accepted_by (live_operations past) step reply)
    (after_own_move (live_operations past) step reply (rosters past)))))
    ∙ waiting-closing (is_closed past) (is_closed ((step, reply) ∷ past))
    (after_receiving (received_by reply) (after_accepting (accepted_by (live_operations past) step reply)
    (after_own_move (live_operations past) step reply (rosters past))))
    ∙ waiting-receiving (received_by reply) (after_accepting (accepted_by (live_operations past) step reply)
    (after_own_move (live_operations past) step reply (rosters past)))
    ∙ waiting-accepting (accepted_by (live_operations past) step reply) (after_own_move (live_operations past) step reply (rosters past)))))
    (told-waiting (rosters ((step, reply) ∷ past)) (rosters-AreSound ((step, reply) ∷ past)))
    some

-- one told waiter fewer
pub record LeavesTold (before after : Roster) : Type 0 where
  pub fewer : length before.names ≡ suc (length after.names)
  pub some : 0 < before.told

pub leave-told : (name : ℕ) (roster : Roster) → IsSound roster → is_told name roster ≡ true
    → LeavesTold roster (leave name roster)
leave-told name roster sound told = go (left name roster sound)
  where
    go : Left roster name → LeavesTold roster (leave name roster)
    go (told_left e t n) = record { fewer = n; some = omega arith }
    go (untold_left e f t n w) = cc
    go (nobody_left e f t n) = cc

-- a poll that is pending changes the rosters by its own move alone
pub in_vain : {T : Type 0} (kind : Kind) (past : Past T) (step : Step T) (reply : Reply T) (own : Rosters)
    → IsCovered (standing_of kind past) → is_close step ≡ false
    → live_names Senders ((step, reply) ∷ past) ≡ live_names Senders past
    → live_names Receivers ((step, reply) ∷ past) ≡ live_names Receivers past
    → after_receiving (received_by reply) (after_accepting (accepted_by (live_operations past) step reply)
    (after_own_move (live_operations past) step reply (rosters past))) ≡ own
    → measure own < measure (rosters past) → measure (rosters ((step, reply) ∷ past)) < measure (rosters past)
in_vain kind past step reply own covered open_still same_senders same_receivers moved less =
    subst (λ (all : Rosters). measure all < measure (rosters past))
    (sym (rosters-kept kind past step reply covered open_still same_senders same_receivers ∙ moved)) less

-- ---- each kind of poll

pub poll_recv-falls : {T : Type 0} (kind : Kind) (past : Past T) (op : ℕ) (oldest : Option T) (closed : Bool)
    → IsCovered (standing_of kind past) → is_closed past ≡ closed → is_told op (rosters past).receives ≡ true
    → measure (rosters ((Poll op, poll_recv_reply oldest closed) ∷ past)) < measure (rosters past)
poll_recv-falls kind past op (Some message) closed covered c told =
    let leaves = leave-told op (rosters past).receives (rosters-AreSound past).receives told in
    ready-falls past (Poll op) (RecvPolled (Ready (Ok message))) (let a = leaves.fewer in omega arith)
    (let b = leaves.some in omega arith)
poll_recv-falls kind past op None true covered c told =
    let leaves = leave-told op (rosters past).receives (rosters-AreSound past).receives told in
    ready-falls past (Poll op) (RecvPolled (Ready (Err (record {})))) (let a = leaves.fewer in omega arith)
    (let b = leaves.some in omega arith)
poll_recv-falls kind past op None false covered c told =
    let on = wait-told op (rosters past).receives (rosters-AreSound past).receives told in
    let own : Rosters = record {
      sends = (rosters past).sends;
      receives = wait op (rosters past).receives;
      streams = (rosters past).streams;
      closeds = (rosters past).closeds;
    } in
    let less : measure own < measure (rosters past) = rw on.names (let t = on.told in omega arith) in
    in_vain kind past (Poll op) (RecvPolled Pending) own covered refl refl refl refl less

pub poll_next-falls : {T : Type 0} (kind : Kind) (past : Past T) (receiver : ℕ) (oldest : Option T) (closed : Bool)
    → IsCovered (standing_of kind past) → is_closed past ≡ closed → is_told receiver (rosters past).streams ≡ true
    → measure (rosters ((PollNext receiver, poll_next_reply oldest closed) ∷ past)) < measure (rosters past)
poll_next-falls kind past receiver (Some message) closed covered c told =
    let leaves = leave-told receiver (rosters past).streams (rosters-AreSound past).streams told in
    ready-falls past (PollNext receiver) (NextPolled (Ready (Some message))) (let a = leaves.fewer in omega arith)
    (let b = leaves.some in omega arith)
poll_next-falls kind past receiver None true covered c told =
    let leaves = leave-told receiver (rosters past).streams (rosters-AreSound past).streams told in
    ready-falls past (PollNext receiver) (NextPolled (Ready None)) (let a = leaves.fewer in omega arith)
    (let b = leaves.some in omega arith)
poll_next-falls kind past receiver None false covered c told =
    let on = wait-told receiver (rosters past).streams (rosters-AreSound past).streams told in
    let own : Rosters = record {
      sends = (rosters past).sends;
      receives = (rosters past).receives;
      streams = wait receiver (rosters past).streams;
      closeds = (rosters past).closeds;
    } in
    let less : measure own < measure (rosters past) = rw on.names (let t = on.told in omega arith) in
    in_vain kind past (PollNext receiver) (NextPolled Pending) own covered refl refl refl refl less

pub poll_closed-falls : {T : Type 0} (kind : Kind) (past : Past T) (op : ℕ) (no_receiver : Bool)
    → IsCovered (standing_of kind past) → is_told op (rosters past).closeds ≡ true
    → measure (rosters ((Poll op, poll_closed_reply no_receiver) ∷ past)) < measure (rosters past)
poll_closed-falls kind past op true covered told =
    let leaves = leave-told op (rosters past).closeds (rosters-AreSound past).closeds told in
    ready-falls past (Poll op) (ClosedPolled (Ready tt)) (let a = leaves.fewer in omega arith)
    (let b = leaves.some in omega arith)
poll_closed-falls kind past op false covered told =
    let on = wait-told op (rosters past).closeds (rosters-AreSound past).closeds told in
    let own : Rosters = record {
      sends = (rosters past).sends;
      receives = (rosters past).receives;
      streams = (rosters past).streams;
      closeds = wait op (rosters past).closeds;
    } in
    let less : measure own < measure (rosters past) = rw on.names (let t = on.told in omega arith) in
    in_vain kind past (Poll op) (ClosedPolled Pending) own covered refl refl refl refl less

pub poll_send-falls : {T : Type 0} (kind : Kind) (past : Past T) (op sender : ℕ) (message : T) (closed full : Bool)
    → operation_of past op ≡ Some (sending sender (Some message)) → IsCovered (standing_of kind past)
    → is_closed past ≡ closed → is_told op (rosters past).sends ≡ true
    → measure (rosters ((Poll op, poll_send_reply (Some message) closed full) ∷ past)) < measure (rosters past)
poll_send-falls kind past op sender message true full o covered c told =
    let leaves = leave-told op (rosters past).sends (rosters-AreSound past).sends told in
    ready-falls past (Poll op) (SendPolled (Ready (Err (send_error message)))) (let a = leaves.fewer in omega arith)
    (let b = leaves.some in omega arith)
poll_send-falls kind past op sender message false false o covered c told =
    let leaves = leave-told op (rosters past).sends (rosters-AreSound past).sends told in
    ready-falls past (Poll op) (SendPolled (Ready (Ok tt))) (let a = leaves.fewer in omega arith)
    (let b = leaves.some in omega arith)
poll_send-falls kind past op sender message false true o covered c told =
    let on = wait-told op (rosters past).sends (rosters-AreSound past).sends told in
    let own : Rosters = record {
      sends = wait op (rosters past).sends;
      receives = (rosters past).receives;
      streams = (rosters past).streams;
      closeds = (rosters past).closeds;
    } in
    let less : measure own < measure (rosters past) = rw on.names (let t = on.told in omega arith) in
    in_vain kind past (Poll op) (SendPolled Pending) own covered refl refl refl
    (ap (λ finished. cond finished (rosters past) own) (ap is_finished_send o)) less

-- ---- whoever is told

pub poll-falls : {T : Type 0} (kind : Kind) (past : Past T) (op : ℕ) (operation : Option (Operation T))
    → operation_of past op ≡ operation → IsCovered (standing_of kind past)
    → ((is_told op (rosters past).receives ≡ true) × (is_receive operation ≡ true))
    ⊎ (((is_told op (rosters past).sends ≡ true) × (is_unsent operation ≡ true))
    ⊎ ((is_told op (rosters past).closeds ≡ true) × (is_awaiting operation ≡ true)))
    → measure (rosters ((
      Poll op,
      poll_reply (is_closed past) (has_none (live_names Receivers past)) (is_full kind past)
          (oldest_message past) operation,
    ) ∷ past)) < measure (rosters past)
poll-falls kind past op (Some (receiving receiver)) o covered (inl told) =
    poll_recv-falls kind past op (oldest_message past) (is_closed past) covered refl told.0
poll-falls kind past op (Some (sending sender message)) o covered (inl told) = let no = told.1 in cc
poll-falls kind past op (Some (awaiting_close sender)) o covered (inl told) = let no = told.1 in cc
poll-falls kind past op None o covered (inl told) = let no = told.1 in cc
poll-falls kind past op (Some (sending sender (Some message))) o covered (inr (inl told)) =
    poll_send-falls kind past op sender message (is_closed past) (is_full kind past) o covered refl told.0
poll-falls kind past op (Some (sending sender None)) o covered (inr (inl told)) = let no = told.1 in cc
poll-falls kind past op (Some (receiving receiver)) o covered (inr (inl told)) = let no = told.1 in cc
poll-falls kind past op (Some (awaiting_close sender)) o covered (inr (inl told)) = let no = told.1 in cc
poll-falls kind past op None o covered (inr (inl told)) = let no = told.1 in cc
poll-falls kind past op (Some (awaiting_close sender)) o covered (inr (inr told)) =
    poll_closed-falls kind past op (has_none (live_names Receivers past)) covered told.0
poll-falls kind past op (Some (sending sender message)) o covered (inr (inr told)) = let no = told.1 in cc
poll-falls kind past op (Some (receiving receiver)) o covered (inr (inr told)) = let no = told.1 in cc
poll-falls kind past op None o covered (inr (inr told)) = let no = told.1 in cc

pub told_among : (name : ℕ) (roster : Roster) → is_told name roster ≡ true → is_among name roster.names ≡ true
told_among name roster told = go (is_among name roster.names) refl
  where
    go : (among : Bool) → is_among name roster.names ≡ among → is_among name roster.names ≡ true
    go true e = e
    go false e = let no : is_told name roster ≡ false = is_among-take roster.told name roster.names e in cc

-- the step polls one of these
pub among_polls : {T : Type 0} (poll : ℕ → Step T) (names : List ℕ) (step : Step T) → Contains (map poll names) step
    → (name : ℕ) × (step ≡ poll name) × (is_among name names ≡ true)
among_polls poll [] step (k, below, is) = absurd (omega arith)
among_polls poll (first ∷ names) step (zero, below, is) =
    (first, sym is, ap (λ same. same || is_among first names) (eq-eqb first first refl))
among_polls poll (first ∷ names) step (suc k, below, is) = later (among_polls poll names step (k, omega arith, is))
  where
    later : (name : ℕ) × (step ≡ poll name) × (is_among name names ≡ true)
        → (name : ℕ) × (step ≡ poll name) × (is_among name (first ∷ names) ≡ true)
    later (name, e, among) = (name, e, or_right (first == name) (is_among name names) among)

-- a poll of somebody who was told: which step it is, and of whom
pub data PollsTold {T : Type 0} (all : Rosters) (step : Step T) : Type 0 where
  a_receive : (op : ℕ) → step ≡ Poll op → is_told op all.receives ≡ true → PollsTold all step
  a_stream : (receiver : ℕ) → step ≡ PollNext receiver → is_told receiver all.streams ≡ true → PollsTold all step
  a_send : (op : ℕ) → step ≡ Poll op → is_told op all.sends ≡ true → PollsTold all step
  a_closed : (op : ℕ) → step ≡ Poll op → is_told op all.closeds ≡ true → PollsTold all step

pub polls_told : {T : Type 0} (all : Rosters) (step : Step T) → Contains (told_polls all) step → PollsTold all step
polls_told {T} all step found = last (Contains-append_cases ((receives ++ streams) ++ sends) closeds step found)
  where
    receives : List (Step T)
    receives = map Poll (told_names all.receives)

    streams : List (Step T)
    streams = map PollNext (told_names all.streams)

    sends : List (Step T)
    sends = map Poll (told_names all.sends)

    closeds : List (Step T)
    closeds = map Poll (told_names all.closeds)

    first : Contains receives step ⊎ Contains streams step → PollsTold all step
    first (inl c) = let one = among_polls Poll (told_names all.receives) step c in a_receive one.0 one.1 one.2
    first (inr c) = let one = among_polls PollNext (told_names all.streams) step c in a_stream one.0 one.1 one.2

    second : Contains (receives ++ streams) step ⊎ Contains sends step → PollsTold all step
    second (inl c) = first (Contains-append_cases receives streams step c)
    second (inr c) = let one = among_polls Poll (told_names all.sends) step c in a_send one.0 one.1 one.2

    last : Contains ((receives ++ streams) ++ sends) step ⊎ Contains closeds step → PollsTold all step
    last (inl c) = second (Contains-append_cases (receives ++ streams) sends step c)
    last (inr c) = let one = among_polls Poll (told_names all.closeds) step c in a_closed one.0 one.1 one.2

-- each poll of a told one lowers the measure
pub measure-falls : {T : Type 0} (kind : Kind) (past : Past T) (step : Step T) → IsLegal kind past
    → PollsTold (rosters past) step → measure (rosters ((step, due_reply kind past step) ∷ past)) < measure
    (rosters past)
measure-falls {T} kind past step legal (a_receive op e told) =
    subst (λ (s : Step T). measure (rosters ((s, due_reply kind past s) ∷ past)) < measure (rosters past)) (sym e)
    (poll-falls kind past op (operation_of past op) refl (IsCovered-IsLegal kind past legal)
    (inl (told, (AreLive-IsLegal kind past legal).receives op (told_among op (rosters past).receives told))))
measure-falls {T} kind past step legal (a_stream receiver e told) =
    subst (λ (s : Step T). measure (rosters ((s, due_reply kind past s) ∷ past)) < measure (rosters past)) (sym e)
    (poll_next-falls kind past receiver (oldest_message past) (is_closed past)
    (IsCovered-IsLegal kind past legal) refl told)
measure-falls {T} kind past step legal (a_send op e told) =
    subst (λ (s : Step T). measure (rosters ((s, due_reply kind past s) ∷ past)) < measure (rosters past)) (sym e)
    (poll-falls kind past op (operation_of past op) refl (IsCovered-IsLegal kind past legal)
    (inr (inl (told, (AreLive-IsLegal kind past legal).sends op (told_among op (rosters past).sends told)))))
measure-falls {T} kind past step legal (a_closed op e told) =
    subst (λ (s : Step T). measure (rosters ((s, due_reply kind past s) ∷ past)) < measure (rosters past)) (sym e)
    (poll-falls kind past op (operation_of past op) refl (IsCovered-IsLegal kind past legal)
    (inr (inr (told, (AreLive-IsLegal kind past legal).closeds op (told_among op (rosters past).closeds told)))))
