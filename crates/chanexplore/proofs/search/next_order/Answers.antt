use Rattle.std.proofs.Common.{refl}
use Rattle.chanexplore.proofs.search.next_order.Goals as goal

pub returns : goal.returns
returns g c = λ most orders room next. c.in_ok-open_and_make.ensures.next most _ orders room refl next c.new-turns.ensures.items
