use Rattle.channel_model.proofs.CoveredPasts.{HasPositiveCapacity-IsLegal, Whole-IsLegal}
use Rattle.channel_model.proofs.Settled.{IsDone-IsQuiet}
use Rattle.channel_model.proofs.laws.settled_is_done.Goals as goal

pub returns : goal.returns
returns g c = λ kind past legal quiet. IsDone-IsQuiet kind past (HasPositiveCapacity-IsLegal kind past legal)
    (Whole-IsLegal kind past legal) quiet
