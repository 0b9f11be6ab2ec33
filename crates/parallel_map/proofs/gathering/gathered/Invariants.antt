use Rattle.parallel_map.specs.Pieces.{AreSound}
use Rattle.parallel_map.specs.Slots.{AreFilled}
use Rattle.parallel_map.proofs.gathering.gathered.Given as goal

abbrev pub invariant-loop-piece : goal.invariant-loop-piece
invariant-loop-piece g l = AreSound l.inputs l.yielded
    × AreFilled g.J.Job.answer l.inputs l.yielded l.slots.items
