use Rattle.channel_model.proofs.ClosedStays.{ComesBack-IsLegal}
use Rattle.channel_model.proofs.laws.refused_message_comes_back.Goals as goal

pub returns : goal.returns
returns g c = λ kind past step reply message legal back. ComesBack-IsLegal kind past step reply message legal back
