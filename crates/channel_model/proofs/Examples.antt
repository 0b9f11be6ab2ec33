-- Worked examples that are no scripts: a refused wait, messages without size, the limit of handles, what no past has,
-- what errors give back, the numbers of a channel, the bound of settling.
use Rattle.std.proofs.Common.{◌≡◌, ◌<◌, ℕ, ap, refl, inl, inr, List, [], ◌∷◌, Ok, Err, Some, None, true, false, arith}
use Rattle.std.specs.Prelude.{◌^◌, ◌-◌, length, nat_lt, if◌then◌else◌}
use Rattle.futures.specs.declared.task.Poll.TheVariants.{Ready, Pending}
use Rattle.channel_core.specs.declared.errors.TrySendError.TheVariants.{Full, Closed}
use Rattle.channel_model.specs.declared.step.Kind.TheVariants.{Bounded, Unbounded}
use Rattle.channel_model.specs.declared.step.Side.TheVariants.{Sender}
use Rattle.channel_model.specs.declared.step.Who.TheVariants.{Op}
use Rattle.channel_model.specs.declared.step.Notice.TheVariants.{Absent}
use Rattle.channel_model.specs.declared.step.Refusal.{Refusal}
use Rattle.channel_model.specs.declared.step.Refusal.TheVariants.{Unknown, Taken, TooMany, OutOfMemory}
use Rattle.channel_model.specs.declared.step.Step.TheVariants.{TrySend, TryRecv, CloneSender, CloneReceiver, UpgradeSender, UpgradeReceiver, StartSend, StartRecv, StartClosed, Poll, PollNext, Len, IsEmpty, IsFull}
use Rattle.channel_model.specs.declared.step.Reply.TheVariants.{Done, TrySent, Forced, Received, SendPolled, RecvPolled, ClosedPolled, NextPolled, Refused, Count, Flag}
use Rattle.event_list.specs.Keys.{is_among}
use Rattle.channel_model.specs.Past.{Past}
use Rattle.channel_core.specs.Tables.{handle_limit, send_error}
use Rattle.channel_model.specs.Notices.{notice_of, rosters}
use Rattle.channel_model.specs.View.{View}
use Rattle.channel_model.specs.Refusals.{is_one_too_many, refusal_in}
use Rattle.channel_model.specs.Answers.{IsAnswer, past_after}
use Rattle.channel_model.specs.Legal.{IsAllowed, IsLegal}
use Rattle.channel_model.specs.Standing.{standing_of}
use Rattle.channel_model.specs.Polling.{IsFreePolling, IsSettling, Settles, most_polls, waiting_in}
use Rattle.channel_model.specs.Laws.{IsDone, given_back}
use Rattle.channel_model.proofs.Script.{does, Row, past_after_lines}
use Rattle.channel_model.proofs.Settling.{Settles-IsLegal}

-- ---- a refused wait

receive_started : Past ℕ
receive_started = (StartRecv 0 0, Done) ∷ []

first_wait_may_be_refused : IsAnswer Unbounded receive_started (Poll 0) (Refused OutOfMemory None)
unfolding receive_started
first_wait_may_be_refused = inr (refl, refl)

refused_wait_is_absent : notice_of (past_after receive_started (Poll 0) (Refused OutOfMemory None)) (Op 0) ≡ Absent
unfolding receive_started
refused_wait_is_absent = refl

-- a bounded channel wants no memory for a message, so no answer to a send may say that it does
bounded_send_is_never_refused : IsAnswer {T = ℕ} (Bounded 1) [] (TrySend 0 5) (Refused OutOfMemory (Some 5)) → ⊥
bounded_send_is_never_refused (inl answered) = cc
bounded_send_is_never_refused (inr wanted) = let never : false ≡ true = wanted.0 in cc

-- ---- messages without size

units : IsLegal (Bounded 2)
    ((IsFull (Sender 0), Flag false) ∷ (IsEmpty (Sender 0), Flag false) ∷ (Len (Sender 0), Count 1)
    ∷ (TryRecv 0, Received (Ok (tt {0})))
    ∷ (IsFull (Sender 0), Flag true) ∷ (IsEmpty (Sender 0), Flag false) ∷ (Len (Sender 0), Count 2)
    ∷ (TrySend 0 tt, TrySent (Ok tt)) ∷ (TrySend 0 tt, TrySent (Ok tt)) ∷ [])
units =
    let two : IsLegal {T = Unit {0}} (Bounded 2)
    ((TrySend 0 tt, TrySent (Ok tt)) ∷ (TrySend 0 tt, TrySent (Ok tt)) ∷ []) =
    (((λ capacity e. let same : 2 ≡ capacity = cc in omega arith), refl, refl), refl, refl) in
    (((((((two, refl, refl), refl, refl), refl, refl), refl, refl), refl, refl), refl, refl), refl, refl)

-- ---- the limit of handles

-- beside as many as the limit one more is made, and beside one more than these none
at_the_limit : nat_lt handle_limit (2 ^ 63 - 1) ≡ false
at_the_limit = refl

above_the_limit : nat_lt handle_limit (2 ^ 63) ≡ true
above_the_limit = refl

-- a copy counts the handles of its own kind, and so does an upgrade, on an open channel alone
sender_too_many : (view : View ℕ) → nat_lt handle_limit (length view.senders) ≡ true → view.closed ≡ false
    → (is_one_too_many view (CloneSender 0 1) ≡ true) × (is_one_too_many view (UpgradeSender 0 1) ≡ true)
sender_too_many view many now = (many, rw now many)

receiver_too_many : (view : View ℕ) → nat_lt handle_limit (length view.receivers) ≡ true → view.closed ≡ false
    → (is_one_too_many view (CloneReceiver 0 1) ≡ true) × (is_one_too_many view (UpgradeReceiver 0 1) ≡ true)
receiver_too_many view many now = (many, rw now many)

closed_upgrade_is_never_too_many : (view : View ℕ) → view.closed ≡ true
    → (is_one_too_many view (UpgradeSender 0 1) ≡ false) × (is_one_too_many view (UpgradeReceiver 0 1) ≡ false)
closed_upgrade_is_never_too_many view closed = (rw closed refl, rw closed refl)

-- one too many is the last of the refusals
too_many_comes_last : (view : View ℕ) → is_among 0 view.senders ≡ true
    → nat_lt handle_limit (length view.senders) ≡ true
    → refusal_in view (CloneSender 0 1) ≡ (if is_among 1 view.senders then Some Taken else Some TooMany)
too_many_comes_last view known many = rw (known, many) refl

-- ---- which steps may stand in a past

refused_is_not_allowed : (refusal : Refusal) → IsAllowed {T = ℕ} (TrySend 0 5) (Some refusal) → ⊥
refused_is_not_allowed refusal none = cc

unknown_stream_is_not_allowed : IsAllowed {T = ℕ} (PollNext 0) (Some Unknown) → ⊥
unknown_stream_is_not_allowed (inl none) = cc
unknown_stream_is_not_allowed (inr borrowed) = cc

-- ---- what an error gives back

every_error_gives_back : (message : ℕ) → (given_back (TrySent (Err (Full message))) ≡ Some message)
    × (given_back (TrySent (Err (Closed message))) ≡ Some message)
    × (given_back (Forced (Err (send_error message))) ≡ Some message)
    × (given_back (SendPolled (Ready (Err (send_error message)))) ≡ Some message)
every_error_gives_back message = (refl, refl, refl, refl)

-- ---- the numbers of a crowded channel

crowd : Row
crowd = record {
  kind = Bounded 1;
  lines =
      does (CloneSender 0 1) Done
      ∷ does (CloneSender 0 2) Done
      ∷ does (CloneReceiver 0 1) Done
      ∷ does (StartRecv 0 0) Done
      ∷ does (StartRecv 1 0) Done
      ∷ does (StartRecv 2 0) Done
      ∷ does (Poll 0) (RecvPolled Pending)
      ∷ does (Poll 1) (RecvPolled Pending)
      ∷ does (Poll 2) (RecvPolled Pending)
      ∷ does (PollNext 1) (NextPolled Pending)
      ∷ does (StartClosed 3 0) Done
      ∷ does (StartClosed 4 0) Done
      ∷ does (Poll 3) (ClosedPolled Pending)
      ∷ does (Poll 4) (ClosedPolled Pending)
      ∷ does (TrySend 0 5) (TrySent (Ok tt))
      ∷ does (StartSend 5 0 6) Done
      ∷ does (Poll 5) (SendPolled Pending)
      ∷ [];
}

crowd_stands : standing_of crowd.kind (past_after_lines crowd.kind [] crowd.lines) ≡ record {
  capacity = Some 1;
  held = 1;
  closed = false;
  senders = 3;
  receivers = 2;
  sends = record { told = 0; untold = 1 };
  receives = record { told = 1; untold = 2 };
  streams = record { told = 1; untold = 0 };
  closeds = record { told = 0; untold = 2 };
}
unfolding crowd
crowd_stands = refl

-- ---- the bound of settling is reached

two_wait : Past ℕ
two_wait =
    (TryRecv 0, Received (Ok 1)) ∷ (Poll 1, SendPolled Pending) ∷ (StartSend 1 0 2, Done)
    ∷ (TrySend 0 1, TrySent (Ok tt))
    ∷ (Poll 0, RecvPolled Pending) ∷ (StartRecv 0 0, Done) ∷ []

two_wait-IsLegal : IsLegal (Bounded 1) two_wait
unfolding two_wait
two_wait-IsLegal = (
  (
    (
      (
        (((λ capacity e. let same : 1 ≡ capacity = cc in omega arith), refl, refl), refl, refl),
        refl,
        refl,
      ),
      refl,
      refl,
    ),
    refl,
    refl,
  ),
  refl,
  refl,
)

three_polls : Settles (Bounded 1) two_wait
    ((Poll 0, RecvPolled (Ready (Ok 2))) ∷ (Poll 1, SendPolled (Ready (Ok tt))) ∷ (Poll 0, RecvPolled Pending) ∷ []) 3
    ((Op 1, SendPolled (Ready (Ok tt))) ∷ (Op 0, RecvPolled (Ready (Ok 2))) ∷ [])
unfolding two_wait
three_polls = Settles-IsLegal (Bounded 1) two_wait two_wait-IsLegal

three_at_the_most : most_polls (waiting_in (rosters two_wait)) ≡ 3
unfolding two_wait
three_at_the_most = refl

-- the first who was told is polled first, and who wasn't told isn't polled
another_first_is_no_settling : IsSettling (Bounded 1) two_wait ((Poll 1, SendPolled (Ready (Ok tt))) ∷ []) → ⊥
unfolding two_wait
another_first_is_no_settling each = let first : Some (Poll 0) ≡ Some (Poll 1) = each.1 in cc

untold_is_not_polled : IsFreePolling Unbounded ((Poll 0, RecvPolled Pending) ∷ receive_started)
    ((Poll 0, RecvPolled Pending) ∷ []) → ⊥
unfolding receive_started
untold_is_not_polled each = let few : each.1.0 < 0 = each.1.1 in omega (arith, few)

-- a channel on which a send waits beside a receive isn't done
two_wait_is_not_done : IsDone two_wait → ⊥
unfolding two_wait
two_wait_is_not_done done =
    let count : 1 ≡ 0 = ap (λ (names : List ℕ). length names) (done.receives (omega arith)) in omega (arith, count)
