use Rattle.ruled_mutex.specs.Passes.{found}
use Rattle.ruled_mutex.proofs.InPlace.{has_slot}
use Rattle.ruled_mutex.proofs.pass.Pass.value_mut.Goals as goal

pub slot_mut-requires : goal.slot_mut-requires
slot_mut-requires g c = let holds = c.requires in (holds.0, has_slot (found c.args.held.now) _ holds.2 holds.3)
