use Rattle.std.proofs.Common.{rules}
use Rattle.ruled_mutex.proofs.Keeps.{sits}
use Rattle.ruled_mutex.proofs.mutex.RuledMutex.pass.Goals as goal

pub load_new_seat-seat-requires : goal.load_new_seat-seat-requires
load_new_seat-seat-requires g c = (search rules, sits _ _ _ c.requires)
