use Rattle.std.proofs.Common.{List}
use Rattle.std.specs.BTreeMap.{btree_map_len}
use Rattle.parallel_map.specs.Chunks.{ChunkView}
use Rattle.parallel_map.specs.Joining.{HasKept}
use Rattle.parallel_map.proofs.joining.Joined.append_next.Given as goal

-- what was kept or joined before is so still
abbrev pub invariant-loop-next : goal.invariant-loop-next
invariant-loop-next g l = (came : List (ChunkView _)) → HasKept came l.initial.self → HasKept came l.self

abbrev pub decreases-loop-next : goal.decreases-loop-next
decreases-loop-next g l = btree_map_len l.self.early
