use Rattle.channel_model.proofs.Upgrades.{UpgradesWhileOpen-replied}
use Rattle.channel_model.proofs.laws.upgrades_while_open.Goals as goal

pub returns : goal.returns
returns g c = record {
  senders = λ kind past of new reply legal. UpgradesWhileOpen-replied past of new reply legal.1;
  receivers = λ kind past of new reply legal. UpgradesWhileOpen-replied past of new reply legal.1;
}
