use Rattle.channel_model.proofs.Upgrades.{within-IsLegal}
use Rattle.channel_model.proofs.laws.within_capacity.Goals as goal

pub returns : goal.returns
returns g c = λ capacity past legal. within-IsLegal capacity past legal
