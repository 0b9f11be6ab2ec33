-- What holds of a run that is being settled after each poll, and what it comes to.
use Rattle.std.proofs.Common.{◌≡◌, ℕ, ◌+◌, ◌-◌, ◌*◌, ◌/◌, ◌^◌, ◌<◌, ◌≤◌, List, [], ◌∷◌, ◌++◌, Bool, true, false, not, cond, Some, None, refl, sym, ◌∙◌, ap, length, arith}
use Rattle.std.specs.Prelude.{if◌then◌else◌, slice_get}
use Rattle.std.proofs.lemmas.Nat.{mul-le}
use Rattle.channel_model.specs.declared.step.Kind.{Kind}
use Rattle.channel_model.specs.declared.step.Reply.{Reply}
use Rattle.channel_model.specs.declared.step.Who.{Who}
use Rattle.channel_model.specs.declared.step.Who.TheVariants.{Op, Receiver}
use Rattle.channel_model.specs.Past.{Past}
use Rattle.channel_model.specs.Messages.{with_last}
use Rattle.channel_model.specs.Notices.{rosters}
use Rattle.channel_model.specs.Polling.{IsQuiet, IsSettling, finished_by, finished_polls, poll_of, told_polls, waiting_in}
use Rattle.channel_model.specs.Replies.{is_pending, is_ready}
use Rattle.channel_model.specs.Rosters.{Rosters}
use Rattle.channel_model.specs.View.{View}
use Rattle.channel_run.specs.Runs.{PollsFirst, SettlesTo}
use Rattle.channel_run.specs.StandsFor.{StandsFor}
use Rattle.channel_run.specs.RunSteps.{PollsTo}
use Rattle.channel_model.proofs.AnyOrder.{EndsWell-IsFreePolling, IsFreePolling-IsSettling, first-Contains}
use Rattle.channel_model.proofs.MeasureFalls.{PollsTold, polls_told}
use Rattle.channel_run.proofs.Settling.PastOfPolls.{polled_first, Settles-IsQuiet}
use Rattle.channel_run.proofs.Settling.ToldPolls.{due_answered}

-- These polls were made after the past, this is their number, and these ones were ready.
pub record SettlesSoFar {T : Type 0} (kind : Kind) (past : Past T) (count : ℕ)
    (finished : List (Who × Reply T))
    (run : View T) : Type 0 where
  pub polls : Past T
  pub settling : IsSettling kind past polls
  pub counted : count ≡ length polls
  pub listed : finished ≡ finished_polls polls
  pub stands : StandsFor kind (polls ++ past) run

-- the ready ones, and this one if it was ready
abbrev pub with_ready : {T : Type 0} → List (Who × Reply T) → Who → Reply T → List (Who × Reply T)
with_ready finished who reply = if is_ready reply then finished ++ (who, reply) ∷ [] else finished

with_finished : {T : Type 0} (finished : List (Who × Reply T)) (who : Who) (reply : Reply T)
    → is_ready reply ≡ not (is_pending reply)
    → with_ready finished who reply ≡ with_last finished (finished_by (poll_of who) reply)
with_finished {T} finished (Op op) reply e = go (is_ready reply) (is_pending reply) e
  where
    go : (ready pending : Bool) → ready ≡ not pending
        → cond ready (finished ++ (Op op, reply) ∷ []) finished
        ≡ with_last finished (cond pending None (Some (Op op, reply)))
    go true false e = refl
    go false true e = refl
    go true true e = cc
    go false false e = cc
with_finished {T} finished (Receiver receiver) reply e = go (is_ready reply) (is_pending reply) e
  where
    go : (ready pending : Bool) → ready ≡ not pending
        → cond ready (finished ++ (Receiver receiver, reply) ∷ []) finished
        ≡ with_last finished (cond pending None (Some (Receiver receiver, reply)))
    go true false e = refl
    go false true e = refl
    go true true e = cc
    go false false e = cc

pub SettlesSoFar-more : {T : Type 0} (kind : Kind) (past : Past T) (count : ℕ) (finished : List (Who × Reply T))
    (run after : View T) (who : Who) (reply : Reply T) → SettlesSoFar kind past count finished run
    → slice_get (told_polls {T = T} run.rosters) 0 ≡ Some (poll_of who) → PollsTo run who reply after
    → SettlesSoFar kind past (count + 1) (with_ready finished who reply) after
SettlesSoFar-more {T} kind past count finished run after who reply so first polled =
    record {
      polls = (poll_of who, reply) ∷ so.polls;
      settling = (so.settling, next.0, next.1);
      counted = let before = so.counted in omega arith;
      listed = with_finished finished who reply answered
          ∙ ap (λ (items : List (Who × Reply T)). with_last items (finished_by (poll_of who) reply)) so.listed;
      stands = next.2;
    }
  where
    next : PollsFirst kind (so.polls ++ past) (Some (who, reply)) after
    next = polled_first kind (so.polls ++ past) run after who reply so.stands first polled

    told : PollsTold {T = T} (rosters (so.polls ++ past)) (poll_of who)
    told = polls_told (rosters (so.polls ++ past)) (poll_of who)
        (first-Contains (told_polls (rosters (so.polls ++ past))) (poll_of who) next.0)

    answered : is_ready reply ≡ not (is_pending reply)
    answered =
        ap (λ (r : Reply T). is_ready r) next.1 ∙ due_answered kind (so.polls ++ past) so.stands.legal who told
        ∙ ap (λ (r : Reply T). not (is_pending r)) (sym next.1)

-- nobody is told any more
pub SettlesTo-IsQuiet : {T : Type 0} (kind : Kind) (past : Past T) (count : ℕ) (finished : List (Who × Reply T))
    (before run : View T) → StandsFor kind past before → SettlesSoFar kind past count finished run
    → IsQuiet run.rosters
    → SettlesTo kind past count finished run
SettlesTo-IsQuiet kind past count finished before run stood so quiet =
    let settles = Settles-IsQuiet kind past so.polls before run stood so.settling so.stands quiet in
    record { polls = so.polls; settles = rw (so.counted, so.listed) settles; stands = so.stands }

-- So many polls are never made.
pub never : {T : Type 0} (kind : Kind) (past : Past T) (count : ℕ) (finished : List (Who × Reply T))
    (before run : View T) → StandsFor kind past before → SettlesSoFar kind past count finished run
    → waiting_in before.rosters < 2 ^ 64 → count ≡ 2 ^ 128 - 1 → ⊥
never kind past count finished before run stood so few all =
    let ends = EndsWell-IsFreePolling kind past so.polls stood.legal
    (IsFreePolling-IsSettling kind past so.polls so.settling) in
    let bounded : length so.polls ≤ waiting_in (rosters past) * (waiting_in (rosters past) + 1) / 2 = ends.bounded in
    let waiting : waiting_in before.rosters ≡ waiting_in (rosters past) =
    ap (λ (all : Rosters). waiting_in all) stood.shows.rosters in
    let most : waiting_in (rosters past) * (waiting_in (rosters past) + 1) ≤ (2 ^ 64 - 1) * 2 ^ 64 =
    mul-le (waiting_in (rosters past)) (waiting_in (rosters past) + 1) (2 ^ 64 - 1) (2 ^ 64) (omega arith)
    (omega arith) in
    let count_is = so.counted in
    half (waiting_in (rosters past) * (waiting_in (rosters past) + 1)) (length so.polls) most bounded
    (sym count_is ∙ all)
  where
    half : (product polls : ℕ) → product ≤ (2 ^ 64 - 1) * 2 ^ 64 → polls ≤ product / 2
        → polls ≡ 2 ^ 128 - 1 → ⊥
    half product polls most few all = absurd (omega arith)
