use Rattle.std.proofs.Common.{refl}
use Rattle.chanexplore.proofs.search.first_order.Goals as goal

pub returns : goal.returns
returns g c = λ most room none. c.in_ok-open_and_make.ensures.first most room refl none c.new-turns.ensures.items
