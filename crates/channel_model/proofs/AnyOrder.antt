-- In whatever order the told ones are polled, it ends soon, and then nobody waits who could go on.
use Rattle.std.proofs.Common.{◌≡◌, ℕ, zero, suc, ◌+◌, ◌*◌, ◌<◌, ◌≤◌, ◌⊎◌, inl, inr, List, [], ◌∷◌, ◌++◌, Bool, true, false, not, cond, Some, None, Option, refl, sym, ap, subst, length, arith}
use Rattle.std.specs.Prelude.{Contains, is_some, slice_get}
use Rattle.channel_model.specs.declared.step.Kind.{Kind}
use Rattle.channel_model.specs.declared.step.Refusal.TheVariants.{Unknown, Borrowed}
use Rattle.channel_model.specs.declared.step.Step.{Step}
use Rattle.channel_model.specs.declared.step.Step.TheVariants.{Poll, PollNext}
use Rattle.channel_model.specs.declared.step.Reply.{Reply}
use Rattle.event_list.specs.Keys.{is_among}
use Rattle.channel_model.specs.Past.{Past}
use Rattle.channel_model.specs.Handles.{live_names, Receivers}
use Rattle.channel_model.specs.Operations.{Operation, is_awaiting, is_receive, is_unsent, operation_of}
use Rattle.channel_model.specs.Refusals.{is_borrowed, refusal_of}
use Rattle.channel_model.specs.Notices.{rosters}
use Rattle.channel_model.specs.Legal.{IsAllowed, IsLegal}
use Rattle.channel_model.specs.Polling.{EndsWell, IsFreePolling, IsSettling, most_polls, told_polls, waiting_in}
use Rattle.channel_model.specs.View.{view_of}
use Rattle.channel_model.proofs.Measure.{rosters-AreSound, pairs, measure}
use Rattle.channel_model.proofs.CoveredPasts.{Whole-IsLegal}
use Rattle.channel_model.proofs.Settled.{IsSettled-IsQuiet}
use Rattle.channel_model.proofs.WhoWaits.{AreLive-IsLegal}
use Rattle.channel_model.proofs.MeasureFalls.{PollsTold, a_closed, a_receive, a_send, a_stream, told-waiting, told_among, polls_told, measure-falls}

-- ---- polls of told ones are allowed

pub known_if : {T : Type 0} (operation : Option (Operation T))
    → (is_unsent operation ≡ true) ⊎ ((is_receive operation ≡ true) ⊎ (is_awaiting operation ≡ true))
    → is_some operation ≡ true
known_if (Some operation) which = refl
known_if None (inl e) = cc
known_if None (inr (inl e)) = cc
known_if None (inr (inr e)) = cc

pub poll-allowed : {T : Type 0} (kind : Kind) (past : Past T) (op : ℕ) → is_some (operation_of past op) ≡ true
    → IsAllowed {T = T} (Poll op) (refusal_of kind past (Poll op))
poll-allowed kind past op known = ap (λ known. cond (not known) (Some Unknown) None) known

pub poll_next-allowed : {T : Type 0} (kind : Kind) (past : Past T) (receiver : ℕ) → is_among receiver (live_names Receivers past) ≡ true
    → IsAllowed {T = T} (PollNext receiver) (refusal_of kind past (PollNext receiver))
poll_next-allowed kind past receiver known = go (is_among receiver (live_names Receivers past)) known
    (is_borrowed (view_of kind past) (PollNext receiver))
  where
    go : (known : Bool) → known ≡ true → (borrowed : Bool)
        → (cond (not known) (Some Unknown) (cond borrowed (Some Borrowed) None) ≡ None)
        ⊎ (cond (not known) (Some Unknown) (cond borrowed (Some Borrowed) None) ≡ Some Borrowed)
    go true e true = inr refl
    go true e false = inl refl
    go false e borrowed = cc

pub told-allowed : {T : Type 0} (kind : Kind) (past : Past T) (step : Step T) → IsLegal kind past
    → PollsTold (rosters past) step → IsAllowed step (refusal_of kind past step)
told-allowed {T} kind past step legal (a_receive op e told) =
    subst (λ (s : Step T). IsAllowed s (refusal_of kind past s)) (sym e)
    (poll-allowed kind past op (known_if (operation_of past op)
    (inr (inl ((AreLive-IsLegal kind past legal).receives op (told_among op (rosters past).receives told))))))
told-allowed {T} kind past step legal (a_stream receiver e told) =
    subst (λ (s : Step T). IsAllowed s (refusal_of kind past s)) (sym e)
    (poll_next-allowed kind past receiver ((AreLive-IsLegal kind past legal).streams receiver
    (told_among receiver (rosters past).streams told)))
told-allowed {T} kind past step legal (a_send op e told) =
    subst (λ (s : Step T). IsAllowed s (refusal_of kind past s)) (sym e)
    (poll-allowed kind past op (known_if (operation_of past op)
    (inl ((AreLive-IsLegal kind past legal).sends op (told_among op (rosters past).sends told)))))
told-allowed {T} kind past step legal (a_closed op e told) =
    subst (λ (s : Step T). IsAllowed s (refusal_of kind past s)) (sym e)
    (poll-allowed kind past op (known_if (operation_of past op)
    (inr (inr ((AreLive-IsLegal kind past legal).closeds op (told_among op (rosters past).closeds told))))))

-- ---- a whole free polling

pub IsLegal-IsFreePolling : {T : Type 0} (kind : Kind) (past polls : Past T) → IsLegal kind past
    → IsFreePolling kind past polls → IsLegal kind (polls ++ past)
IsLegal-IsFreePolling kind past [] legal free = legal
IsLegal-IsFreePolling kind past ((step, reply) ∷ polls) legal free =
    let before = IsLegal-IsFreePolling kind past polls legal free.0 in
    (before, free.2, told-allowed kind (polls ++ past) step before (polls_told (rosters (polls ++ past)) step free.1))

pub measure-IsFreePolling : {T : Type 0} (kind : Kind) (past polls : Past T) → IsLegal kind past
    → IsFreePolling kind past polls → length polls + measure (rosters (polls ++ past)) ≤ measure (rosters past)
measure-IsFreePolling kind past [] legal free = omega arith
measure-IsFreePolling {T} kind past ((step, reply) ∷ polls) legal free =
    let before = IsLegal-IsFreePolling kind past polls legal free.0 in
    let rest = measure-IsFreePolling kind past polls legal free.0 in
    let falls = measure-falls kind (polls ++ past) step before (polls_told (rosters (polls ++ past)) step free.1) in
    let falls' : measure (rosters ((step, reply) ∷ (polls ++ past))) < measure (rosters (polls ++ past)) =
    subst (λ (r : Reply T). measure (rosters ((step, r) ∷ (polls ++ past))) < measure (rosters (polls ++ past)))
    (sym free.2) falls in
    omega arith

pub twice_pairs : (count : ℕ) → 2 * (pairs count + count) ≡ count * (count + 1)
twice_pairs zero = omega arith
twice_pairs (suc count) = let before = twice_pairs count in omega arith

pub within_most : (polls waiting : ℕ) → polls ≤ pairs waiting + waiting → polls ≤ most_polls waiting
within_most polls waiting le = let twice = twice_pairs waiting in omega arith

-- Behind a past that can come about.
pub EndsWell-IsFreePolling : {T : Type 0} (kind : Kind) (past polls : Past T) → IsLegal kind past
    → IsFreePolling kind past polls → EndsWell kind past polls
EndsWell-IsFreePolling kind past polls legal free =
    record {
      bounded = within_most (length polls) (waiting_in (rosters past))
          (let a = measure-IsFreePolling kind past polls legal free in
          let b = told-waiting (rosters past) (rosters-AreSound past) in omega arith);
      legal = IsLegal-IsFreePolling kind past polls legal free;
      settled = IsSettled-IsQuiet kind (polls ++ past)
          (Whole-IsLegal kind (polls ++ past) (IsLegal-IsFreePolling kind past polls legal free));
    }

pub first-Contains : {X : Type 0} (items : List X) (item : X) → slice_get items 0 ≡ Some item → Contains items item
first-Contains [] item e = cc
first-Contains (first ∷ items) item e = (0, omega arith, (let same : first ≡ item = cc in same))

-- settling is one of these orders
pub IsFreePolling-IsSettling : {T : Type 0} (kind : Kind) (past polls : Past T) → IsSettling kind past polls
    → IsFreePolling kind past polls
IsFreePolling-IsSettling kind past [] settling = tt
IsFreePolling-IsSettling kind past ((step, reply) ∷ polls) settling = (
  IsFreePolling-IsSettling kind past polls settling.0,
  first-Contains
      (told_polls (rosters (polls ++ past))) step settling.1,
  settling.2,
)
