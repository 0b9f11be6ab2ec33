use Rattle.channel_model.specs.Polling.{settling_polls}
use Rattle.channel_model.proofs.Settling.{Settles-IsLegal}
use Rattle.channel_model.proofs.laws.can_be_settled.Goals as goal

pub returns : goal.returns
returns g c = λ kind past legal. (settling_polls kind past, Settles-IsLegal kind past legal)
