-- Settling by computation: it ends, and then nobody is told.
use Rattle.std.proofs.Common.{◌≡◌, ℕ, zero, suc, ◌+◌, ◌≤◌, List, [], ◌∷◌, ◌++◌, Some, None, Option, refl, sym, ◌∙◌, ap, length, map, take, arith}
use Rattle.std.specs.Prelude.{slice_get}
use Rattle.channel_model.specs.declared.step.Kind.{Kind}
use Rattle.channel_model.specs.declared.step.Who.{Who}
use Rattle.channel_model.specs.declared.step.Reply.{Reply}
use Rattle.channel_model.specs.declared.step.Step.{Step}
use Rattle.channel_model.specs.declared.step.Step.TheVariants.{Poll, PollNext}
use Rattle.channel_model.specs.Past.{Past}
use Rattle.channel_model.specs.Replies.{due_reply}
use Rattle.channel_model.specs.Rosters.{Roster, Rosters, told_names}
use Rattle.channel_model.specs.Notices.{rosters}
use Rattle.channel_model.specs.Legal.{IsLegal}
use Rattle.channel_model.specs.Polling.{EndsWell, IsQuiet, IsSettling, Settles, finished_polls, most_polls, settling, settling_polls, told_polls, waiting_in}
use Rattle.channel_model.proofs.Measure.{measure, rosters-AreSound}
use Rattle.channel_model.proofs.MeasureFalls.{PollsTold, polls_told, measure-falls, told-waiting}
use Rattle.channel_model.proofs.AnyOrder.{told-allowed, first-Contains, IsFreePolling-IsSettling, EndsWell-IsFreePolling, within_most}

-- ---- nobody to poll is nobody told

no_first : {X : Type 0} (items : List X) → slice_get items 0 ≡ None → items ≡ []
no_first [] e = refl
no_first (first ∷ items) e = cc

left_none : {X : Type 0} (items others : List X) → items ++ others ≡ [] → items ≡ []
left_none [] others e = refl
left_none (first ∷ items) others e = cc

right_none : {X : Type 0} (items others : List X) → items ++ others ≡ [] → others ≡ []
right_none [] others e = e
right_none (first ∷ items) others e = cc

nobody_told : {Y : Type 0} (poll : ℕ → Y) (roster : Roster) → roster.told ≤ length roster.names
    → map poll (told_names roster) ≡ [] → roster.told ≡ 0
nobody_told {Y} poll roster within none = go roster.told roster.names within none
  where
    go : (told : ℕ) (names : List ℕ) → told ≤ length names → map poll (take told names) ≡ [] → told ≡ 0
    go zero names within none = refl
    go (suc told) [] within none = omega arith
    go (suc told) (name ∷ names) within none = cc

IsQuiet-no_first : {T : Type 0} (past : Past T) → slice_get (told_polls {T = T} (rosters past)) 0 ≡ None
    → IsQuiet (rosters past)
IsQuiet-no_first {T} past none =
    let sound = rosters-AreSound past in
    record {
      receives = nobody_told Poll (rosters past).receives sound.receives.within
          (left_none receives streams (left_none (receives ++ streams) sends
          (left_none ((receives ++ streams) ++ sends) closeds all)));
      streams = nobody_told PollNext (rosters past).streams sound.streams.within
          (right_none receives streams (left_none (receives ++ streams) sends
          (left_none ((receives ++ streams) ++ sends) closeds all)));
      sends = nobody_told Poll (rosters past).sends sound.sends.within
          (right_none (receives ++ streams) sends (left_none ((receives ++ streams) ++ sends) closeds all));
      closeds = nobody_told Poll (rosters past).closeds sound.closeds.within
          (right_none ((receives ++ streams) ++ sends) closeds all);
    }
  where
    receives : List (Step T)
    receives = map Poll (told_names (rosters past).receives)

    streams : List (Step T)
    streams = map PollNext (told_names (rosters past).streams)

    sends : List (Step T)
    sends = map Poll (told_names (rosters past).sends)

    closeds : List (Step T)
    closeds = map Poll (told_names (rosters past).closeds)

    all : ((receives ++ streams) ++ sends) ++ closeds ≡ []
    all = no_first (told_polls (rosters past)) none

-- ---- it ends

-- These polls are those of settling, and after them nobody is told.
pub record IsComplete {T : Type 0} (kind : Kind) (past polls : Past T) : Type 0 where
  pub each : IsSettling kind past polls
  pub legal : IsLegal kind (polls ++ past)
  pub quiet : IsQuiet (rosters (polls ++ past))

no_measure : (all : Rosters) → measure all ≤ 0 → IsQuiet all
no_measure all none = record {
  sends = omega arith;
  receives = omega arith;
  streams = omega arith;
  closeds = omega arith;
}

pub IsComplete-settling : {T : Type 0} (most : ℕ) (kind : Kind) (past polls : Past T) → IsSettling kind past polls
    → IsLegal kind (polls ++ past) → measure (rosters (polls ++ past)) ≤ most
    → IsComplete kind past (settling most kind past polls)
IsComplete-settling zero kind past polls each legal few =
    record { each = each; legal = legal; quiet = no_measure (rosters (polls ++ past)) few }
IsComplete-settling {T} (suc most) kind past polls each legal few =
    go (slice_get (told_polls (rosters (polls ++ past))) 0) refl
    (λ step first legal' fewer. IsComplete-settling most kind past ((step, due_reply kind (polls ++ past) step) ∷ polls)
    (each, first, refl) legal' fewer)
  where
    told : (step : Step T) → slice_get (told_polls (rosters (polls ++ past))) 0 ≡ Some step
        → PollsTold (rosters (polls ++ past)) step
    told step first = polls_told (rosters (polls ++ past)) step
        (first-Contains (told_polls (rosters (polls ++ past))) step first)

    go : (found : Option (Step T)) → slice_get (told_polls (rosters (polls ++ past))) 0 ≡ found
        → ((step : Step T) → slice_get (told_polls (rosters (polls ++ past))) 0 ≡ Some step
        → IsLegal kind ((step, due_reply kind (polls ++ past) step) ∷ (polls ++ past))
        → measure (rosters ((step, due_reply kind (polls ++ past) step) ∷ (polls ++ past))) ≤ most
        → IsComplete kind past (settling most kind past ((step, due_reply kind (polls ++ past) step) ∷ polls)))
        → IsComplete kind past (elim found [
          | None ↦ polls
          | Some step ↦ settling most kind past ((step, due_reply kind (polls ++ past) step) ∷ polls)
        ])
    go None e later = record { each = each; legal = legal; quiet = IsQuiet-no_first (polls ++ past) e }
    go (Some step) e later =
        later step e
        (legal, refl, told-allowed kind (polls ++ past) step legal (told step e))
        (let falls = measure-falls kind (polls ++ past) step legal (told step e) in omega arith)

pub IsComplete-IsLegal : {T : Type 0} (kind : Kind) (past : Past T) → IsLegal kind past
    → IsComplete kind past (settling_polls kind past)
IsComplete-IsLegal kind past legal =
    IsComplete-settling (most_polls (waiting_in (rosters past))) kind past [] tt legal
    (within_most (measure (rosters past)) (waiting_in (rosters past))
    (let few = told-waiting (rosters past) (rosters-AreSound past) in omega arith))

-- if nobody is told there is nobody to be polled
pub nobody_polled : {T : Type 0} (all : Rosters) → IsQuiet all → told_polls {T = T} all ≡ []
nobody_polled all quiet = rw (quiet.receives, quiet.streams, quiet.sends, quiet.closeds) refl

-- Behind each past that can come about these polls settle the channel.
pub Settles-IsLegal : {T : Type 0} (kind : Kind) (past : Past T) → IsLegal kind past
    → Settles kind past (settling_polls kind past) (length (settling_polls kind past))
    (finished_polls (settling_polls kind past))
Settles-IsLegal kind past legal =
    let complete = IsComplete-IsLegal kind past legal in
    let ends : EndsWell kind past (settling_polls kind past) =
    EndsWell-IsFreePolling kind past (settling_polls kind past) legal
    (IsFreePolling-IsSettling kind past (settling_polls kind past) complete.each) in
    record {
      each = complete.each;
      counted = refl;
      listed = refl;
      quiet = nobody_polled (rosters (settling_polls kind past ++ past)) complete.quiet;
      settled = ends.settled complete.quiet;
      bounded = ends.bounded;
    }

-- ---- no other polls settle it

-- the poll of the first who was told, after polls that were made
abbrev next_poll : {T : Type 0} → Past T → (polls : Past T) → Option (Step T)
next_poll past polls = slice_get (told_polls (rosters (polls ++ past))) 0

abbrev with_poll : {T : Type 0} → Kind → Past T → (polls : Past T) → Option (Step T) → Past T
with_poll kind past polls None = polls
with_poll kind past polls (Some step) = (step, due_reply kind (polls ++ past) step) ∷ polls

-- the polls of settling again, with their number
abbrev polls_within : {T : Type 0} → ℕ → Kind → Past T → Past T
polls_within zero kind past = []
polls_within (suc n) kind past =
    with_poll kind past (polls_within n kind past) (next_poll past (polls_within n kind past))

polls_within-IsSettling : {T : Type 0} (kind : Kind) (past polls : Past T) → IsSettling kind past polls
    → polls_within (length polls) kind past ≡ polls
polls_within-IsSettling kind past [] each = refl
polls_within-IsSettling {T} kind past ((step, reply) ∷ polls) each =
    ap (λ (made : Past T). with_poll kind past made (next_poll past made))
    (polls_within-IsSettling kind past polls each.0)
    ∙ (ap (λ (next : Option (Step T)). with_poll kind past polls next) each.1
    ∙ ap (λ (due : Reply T). (step, due) ∷ polls) (sym each.2))

-- if nobody is told, no more polls are made
polls_within-stay : {T : Type 0} (kind : Kind) (past polls : Past T) (n : ℕ) → polls_within n kind past ≡ polls
    → told_polls {T = T} (rosters (polls ++ past)) ≡ [] → (k m : ℕ) → m ≡ k + n → polls_within m kind past ≡ polls
polls_within-stay kind past polls n made quiet zero m is = let same : m ≡ n = omega (arith, is) in rw same made
polls_within-stay kind past polls n made quiet (suc k) zero is = absurd (omega (arith, is))
polls_within-stay {T} kind past polls n made quiet (suc k) (suc m) is =
    let less : m ≡ k + n = omega (arith, is) in
    ap (λ (made : Past T). with_poll kind past made (next_poll past made))
    (polls_within-stay kind past polls n made quiet k m less)
    ∙ ap (λ (told : List (Step T)). with_poll kind past polls (slice_get told 0)) quiet

-- Polls of settling after which nobody is told are the ones that are computed.
pub settling_polls-IsSettling : {T : Type 0} (kind : Kind) (past polls : Past T) → IsLegal kind past
    → IsSettling kind past polls → told_polls {T = T} (rosters (polls ++ past)) ≡ []
    → settling_polls kind past ≡ polls
settling_polls-IsSettling {T} kind past polls legal each quiet =
    sym (polls_within-stay kind past computed (length computed)
    (polls_within-IsSettling kind past computed complete.each)
    (nobody_polled (rosters (computed ++ past)) complete.quiet)
    (length polls) (length polls + length computed) refl)
    ∙ polls_within-stay kind past polls (length polls) (polls_within-IsSettling kind past polls each)
    quiet (length computed) (length polls + length computed) (omega arith)
  where
    computed : Past T
    computed = settling_polls kind past

    complete : IsComplete kind past computed
    complete = IsComplete-IsLegal kind past legal

-- So are polls that settled the channel.
pub settling_polls-Settles : {T : Type 0} (kind : Kind) (past polls : Past T) (count : ℕ)
    (finished : List (Who × Reply T)) → IsLegal kind past → Settles kind past polls count finished
    → settling_polls kind past ≡ polls
settling_polls-Settles kind past polls count finished legal settles =
    settling_polls-IsSettling kind past polls legal settles.each settles.quiet
