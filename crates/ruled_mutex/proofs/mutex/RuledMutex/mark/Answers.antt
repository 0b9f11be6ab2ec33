use Rattle.std.proofs.Common.{rules}
use Rattle.ruled_mutex.proofs.Keeps.{swaps}
use Rattle.ruled_mutex.proofs.mutex.RuledMutex.mark.Goals as goal

pub swap-requires : goal.swap-requires
swap-requires g c = (search rules, search rules, swaps _ _ _ _)
