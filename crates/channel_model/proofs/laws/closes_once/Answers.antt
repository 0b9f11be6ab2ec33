use Rattle.channel_model.proofs.Upgrades.{is_closed-Close}
use Rattle.channel_model.proofs.laws.closes_once.Goals as goal

pub returns : goal.returns
returns g c = record {
  replied = λ kind past side reply legal. legal.1;
  closed = λ past side reply. is_closed-Close past side reply;
}
