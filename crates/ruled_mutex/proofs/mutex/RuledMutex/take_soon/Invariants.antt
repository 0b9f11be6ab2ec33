use Rattle.std.proofs.Common.{◌≡◌}
use Rattle.ruled_mutex.proofs.mutex.RuledMutex.take_soon.Given as goal

abbrev pub invariant-loop : goal.invariant-loop
invariant-loop g l = (l.pass.seat.table_id ≡ l.fn.pass.seat.table_id) × (l.pass.seat.id ≡ l.fn.pass.seat.id) × (l.pass.seat.me ≡ l.fn.pass.seat.me)
