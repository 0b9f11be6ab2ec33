use Rattle.std.proofs.Common.{rules}
use Rattle.ruled_mutex.proofs.Keeps.{tries}
use Rattle.ruled_mutex.proofs.mutex.RuledMutex.take.Goals as goal

pub compare_exchange-requires : goal.compare_exchange-requires
compare_exchange-requires g c = (search rules, search rules, tries _ _ _ _)
