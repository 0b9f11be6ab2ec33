-- When a past stands for a run.
use Rattle.channel_model.specs.declared.step.Kind.{Kind}
use Rattle.channel_model.specs.Past.{Past}
use Rattle.channel_model.specs.View.{AreAlike, View, view_of}
use Rattle.channel_model.specs.Legal.{IsLegal}

-- The past can have come about on a channel of this kind, and decides all that the run shows,
-- however it keeps it: its names and operations may stand in any order.
pub record StandsFor {T : Type 0} (kind : Kind) (past : Past T) (run : View T) : Type 0 where
  pub legal : IsLegal kind past
  pub shows : AreAlike run (view_of kind past)
