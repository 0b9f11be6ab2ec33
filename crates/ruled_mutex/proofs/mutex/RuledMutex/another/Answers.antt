use Rattle.std.proofs.Common.{rules}
use Rattle.ruled_mutex.proofs.Keeps.{splits}
use Rattle.ruled_mutex.proofs.mutex.RuledMutex.another.Goals as goal

pub split_seat-seat-requires : goal.split_seat-seat-requires
split_seat-seat-requires g c = (search rules, search rules, splits _ _ _ _ _ c.requires.rule)
