use Rattle.channel_model.proofs.Measure.{rosters-AreSound}
use Rattle.channel_model.proofs.WhoWaits.{AreLive-IsLegal}
use Rattle.channel_model.proofs.laws.waits_once.Goals as goal

pub returns : goal.returns
returns g c = record {
  sound = λ kind past legal. rosters-AreSound past;
  live = λ kind past legal. AreLive-IsLegal kind past legal;
}
