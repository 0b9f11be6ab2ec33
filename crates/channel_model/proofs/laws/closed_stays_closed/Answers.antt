use Rattle.channel_model.proofs.ClosedStays.{StaysClosed-IsLegal}
use Rattle.channel_model.proofs.laws.closed_stays_closed.Goals as goal

pub returns : goal.returns
returns g c = λ kind past later legal closed. StaysClosed-IsLegal kind past later legal closed
