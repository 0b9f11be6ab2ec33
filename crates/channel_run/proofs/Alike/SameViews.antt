-- Views that show the same: what one of them was made by, or stands for, holds of the other too.
use Rattle.std.proofs.Common.{◌≡◌, refl, ◌∙◌, ℕ, List, Bool}
use Rattle.channel_model.specs.declared.step.Kind.{Kind}
use Rattle.channel_model.specs.declared.step.Step.{Step}
use Rattle.channel_model.specs.declared.step.Reply.{Reply}
use Rattle.channel_model.specs.Past.{Past}
use Rattle.channel_model.specs.View.{View, AreAlike, view_of, AreSameNames, AreSameOperations}
use Rattle.channel_run.specs.StandsFor.{StandsFor}
use Rattle.channel_run.specs.RunSteps.{IsMade, after_step}
use Rattle.channel_run.proofs.Alike.SameNames.{AreSameNames-refl, AreSameNames-trans}
use Rattle.channel_run.proofs.Alike.SameOperations.{AreSameOperations-refl, AreSameOperations-trans}
use Rattle.channel_model.specs.Operations.{Operation}
use Rattle.channel_model.specs.Rosters.{Rosters}

pub AreAlike-refl : {T : Type 0} (run : View T) → AreAlike run run
AreAlike-refl run = record {
  capacity = refl;
  messages = refl;
  closed = refl;
  senders = AreSameNames-refl run.senders;
  receivers = AreSameNames-refl run.receivers;
  weak_senders = AreSameNames-refl run.weak_senders;
  weak_receivers = AreSameNames-refl run.weak_receivers;
  operations = AreSameOperations-refl run.operations;
  rosters = refl;
}

pub AreAlike-trans : {T : Type 0} (run other third : View T) → AreAlike run other
    → AreAlike other third
    → AreAlike run third
AreAlike-trans run other third same more = record {
  capacity = same.capacity ∙ more.capacity;
  messages = same.messages ∙ more.messages;
  closed = same.closed ∙ more.closed;
  senders = AreSameNames-trans run.senders other.senders third.senders same.senders more.senders;
  receivers = AreSameNames-trans run.receivers other.receivers third.receivers same.receivers more.receivers;
  weak_senders = AreSameNames-trans run.weak_senders other.weak_senders third.weak_senders same.weak_senders
      more.weak_senders;
  weak_receivers = AreSameNames-trans run.weak_receivers other.weak_receivers third.weak_receivers same.weak_receivers
      more.weak_receivers;
  operations = AreSameOperations-trans run.operations other.operations third.operations same.operations more.operations;
  rosters = same.rosters ∙ more.rosters;
}

-- a run that shows the same after the step has made it too
pub IsMade-AreAlike : {T : Type 0} (before after other : View T) (step : Step T) (reply : Reply T)
    → IsMade before step reply after → AreAlike other after → IsMade before step reply other
IsMade-AreAlike before after other step reply is alike =
    record { replied = is.replied; shows = AreAlike-trans other after (after_step before step reply) alike is.shows }

-- what stands for a run stands for each that shows the same
pub StandsFor-AreAlike : {T : Type 0} (kind : Kind) (past : Past T) (run other : View T)
    → StandsFor kind past run
    → AreAlike other run → StandsFor kind past other
StandsFor-AreAlike kind past run other stands alike =
    record { legal = stands.legal; shows = AreAlike-trans other run (view_of kind past) alike stands.shows }

-- ---- views that differ in the order of one list

pub alike-receivers : {T : Type 0} (run : View T) (names others : List ℕ)
    → AreSameNames names others
    → AreAlike (record run { receivers = names }) (record run { receivers = others })
alike-receivers run names others same = record {
  capacity = refl;
  messages = refl;
  closed = refl;
  senders = AreSameNames-refl run.senders;
  receivers = same;
  weak_senders = AreSameNames-refl run.weak_senders;
  weak_receivers = AreSameNames-refl run.weak_receivers;
  operations = AreSameOperations-refl run.operations;
  rosters = refl;
}

pub alike-operations : {T : Type 0} (run : View T) (operations others : List (ℕ × Operation T))
    → AreSameOperations operations others → AreAlike (record run { operations = operations })
    (record run { operations = others })
alike-operations run operations others same = record {
  capacity = refl;
  messages = refl;
  closed = refl;
  senders = AreSameNames-refl run.senders;
  receivers = AreSameNames-refl run.receivers;
  weak_senders = AreSameNames-refl run.weak_senders;
  weak_receivers = AreSameNames-refl run.weak_receivers;
  operations = same;
  rosters = refl;
}

-- ---- views that differ in what is told

-- the flag and the rosters are these, and all else is the same
pub told : {T : Type 0} (run : View T) (closed closed' : Bool) (all all' : Rosters)
    → closed ≡ closed' → all ≡ all'
    → AreAlike (record run { closed = closed; rosters = all }) (record run { closed = closed'; rosters = all' })
told run closed closed' all all' c r = record {
  capacity = refl;
  messages = refl;
  closed = c;
  senders = AreSameNames-refl run.senders;
  receivers = AreSameNames-refl run.receivers;
  weak_senders = AreSameNames-refl run.weak_senders;
  weak_receivers = AreSameNames-refl run.weak_receivers;
  operations = AreSameOperations-refl run.operations;
  rosters = r;
}
