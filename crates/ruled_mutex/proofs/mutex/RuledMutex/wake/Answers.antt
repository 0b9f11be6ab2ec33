use Rattle.std.proofs.Common.{rules}
use Rattle.ruled_mutex.proofs.Keeps.{pays}
use Rattle.ruled_mutex.proofs.mutex.RuledMutex.wake.Goals as goal

pub load-requires : goal.load-requires
load-requires g c = (search rules, search rules, pays _ _ _ _)
