-- The poll of the first told one makes the past longer by it; if nobody is told the polls have settled.
use Rattle.std.proofs.Common.{◌≡◌, ◌∷◌, ◌++◌, None, Some, refl, sym, ◌∙◌, ap, subst, length}
use Rattle.std.specs.Prelude.{slice_get}
use Rattle.channel_model.specs.declared.step.Kind.{Kind}
use Rattle.channel_model.specs.declared.step.Who.{Who}
use Rattle.channel_model.specs.declared.step.Reply.{Reply}
use Rattle.channel_model.specs.Past.{Past}
use Rattle.channel_model.specs.Rosters.{Rosters}
use Rattle.channel_model.specs.Notices.{rosters}
use Rattle.channel_model.specs.Polling.{EndsWell, IsQuiet, IsSettling, Settles, finished_polls, poll_of, told_polls}
use Rattle.channel_model.specs.View.{View}
use Rattle.channel_run.specs.StandsFor.{StandsFor}
use Rattle.channel_run.specs.RunSteps.{IsMade, PollsTo, after_step}
use Rattle.channel_run.specs.Runs.{PollsFirst}
use Rattle.channel_model.proofs.MeasureFalls.{PollsTold, polls_told}
use Rattle.channel_model.proofs.AnyOrder.{told-allowed, first-Contains, IsFreePolling-IsSettling, EndsWell-IsFreePolling}
use Rattle.channel_model.proofs.Settling.{nobody_polled}
use Rattle.channel_run.proofs.Alike.SameTables.{reply_in-StandsFor}
use Rattle.channel_run.proofs.Alike.SameViews.{StandsFor-AreAlike}
use Rattle.channel_run.proofs.Settling.ToldPolls.{made}
use Rattle.channel_run.proofs.Steps.LongerPasts.{StandsFor-step}

-- The run polled the first who was told.
pub polled_first : {T : Type 0} (kind : Kind) (past : Past T) (run after : View T) (who : Who) (reply : Reply T)
    → StandsFor kind past run → slice_get (told_polls {T = T} run.rosters) 0 ≡ Some (poll_of who)
    → PollsTo run who reply after → PollsFirst kind past (Some (who, reply)) after
polled_first {T} kind past run after who reply stands first polled = (
  at_first,
  is.replied ∙ reply_in-StandsFor kind past run (poll_of who) stands,
  StandsFor-AreAlike kind ((poll_of who, reply) ∷ past) (after_step run (poll_of who) reply) after
      (StandsFor-step kind past run (poll_of who) reply stands
      (told-allowed kind past (poll_of who) stands.legal told) is.replied) is.shows,
)
  where
    at_first : slice_get (told_polls {T = T} (rosters past)) 0 ≡ Some (poll_of who)
    at_first = ap (λ (all : Rosters). slice_get (told_polls {T = T} all) 0) (sym stands.shows.rosters) ∙ first

    told : PollsTold {T = T} (rosters past) (poll_of who)
    told = polls_told (rosters past) (poll_of who) (first-Contains (told_polls (rosters past)) (poll_of who) at_first)

    is : IsMade run (poll_of who) reply after
    is = made kind past stands.legal run stands who reply after told polled

-- It polled nobody, since nobody was told.
pub polled_nobody : {T : Type 0} (kind : Kind) (past : Past T) (run : View T) → StandsFor kind past run
    → IsQuiet run.rosters → PollsFirst {T = T} kind past None run
polled_nobody kind past run stands quiet =
    (nobody_polled (rosters past) (subst (λ (all : Rosters). IsQuiet all) stands.shows.rosters quiet), stands)

-- Nobody is told any more: the polls settled the channel.
pub Settles-IsQuiet : {T : Type 0} (kind : Kind) (past polls : Past T) (before run : View T)
    → StandsFor kind past before → IsSettling kind past polls → StandsFor kind (polls ++ past) run → IsQuiet run.rosters
    → Settles kind past polls (length polls) (finished_polls polls)
Settles-IsQuiet {T} kind past polls before run stood settling stands quiet =
    record {
      each = settling;
      counted = refl;
      listed = refl;
      quiet = nobody_polled (rosters (polls ++ past)) quiet_now;
      settled = ends.settled quiet_now;
      bounded = ends.bounded;
    }
  where
    ends : EndsWell kind past polls
    ends = EndsWell-IsFreePolling kind past polls stood.legal (IsFreePolling-IsSettling kind past polls settling)

    quiet_now : IsQuiet (rosters (polls ++ past))
    quiet_now = subst (λ (all : Rosters). IsQuiet all) stands.shows.rosters quiet
