use Rattle.std.proofs.Common.{◌≡◌, ◌++◌, length}
use Rattle.std.specs.List.{flat_map}
use Rattle.std.specs.Vec.Iter.{into_iter_items, into_iter_len}
use Rattle.chanrun.specs.Script.{finished_line}
use Rattle.chanrun.specs.Replayed.{text_line}
use Rattle.chanrun.proofs.replay.settled_texts.Given as goal

-- behind the first text stand the texts of those so far
abbrev pub invariant-loop-who : goal.invariant-loop-who
invariant-loop-who l = record {
  order : l.yielded ++ into_iter_items l.who-iterator ≡ into_iter_items l.initial.who-iterator;
  left : into_iter_len l.who-iterator ≡ length (into_iter_items l.who-iterator);
  written : flat_map text_line l.texts.items ≡ flat_map text_line l.initial.texts.items ++ flat_map finished_line l.yielded;
}
