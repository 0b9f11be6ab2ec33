use Rattle.std.proofs.Common.{rules}
use Rattle.ruled_mutex.proofs.Keeps.{joins}
use Rattle.ruled_mutex.proofs.mutex.RuledMutex.absorb.Goals as goal

pub join_seat-requires : goal.join_seat-requires
join_seat-requires g c = rw c.into_seat.ensures (search rules, search rules, search rules, search rules, joins _ _ _ _ _ _ _ c.requires.rule)
