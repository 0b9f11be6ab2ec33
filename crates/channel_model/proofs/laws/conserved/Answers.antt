use Rattle.channel_model.proofs.Conserved.{accepted_messages-IsLegal}
use Rattle.channel_model.proofs.laws.conserved.Goals as goal

pub returns : goal.returns
returns g c = λ kind past legal. accepted_messages-IsLegal kind past legal
