use Rattle.channel_model.proofs.AnyOrder.{EndsWell-IsFreePolling}
use Rattle.channel_model.proofs.laws.any_order.Goals as goal

pub returns : goal.returns
returns g c = λ kind past polls legal free. EndsWell-IsFreePolling kind past polls legal free
