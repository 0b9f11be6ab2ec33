use Rattle.channel_model.proofs.ClosedStays.{GivesWhatIsLeft-closed}
use Rattle.channel_model.proofs.laws.closed_gives_what_is_left.Goals as goal

pub returns : goal.returns
returns g c = λ kind past closed. GivesWhatIsLeft-closed kind past closed
