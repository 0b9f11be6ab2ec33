use Rattle.channel_model.proofs.CoveredPasts.{IsCovered-IsLegal}
use Rattle.channel_model.proofs.laws.nobody_waits_in_vain.Goals as goal

pub returns : goal.returns
returns g c = λ kind past legal. IsCovered-IsLegal kind past legal
