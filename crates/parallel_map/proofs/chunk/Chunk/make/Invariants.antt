use Rattle.std.proofs.Common.{◌≡◌, length, take, map, vec_len, vec_capacity}
use Rattle.parallel_map.proofs.chunk.Chunk.make.Given as goal

-- the answers so far are those of the first inputs, and there is room for just the others
abbrev pub invariant-loop-offset : goal.invariant-loop-offset
invariant-loop-offset g l = record {
  so_far : l.answers.items ≡ map g.J.Job.answer (take l.offset l.inputs);
  count : vec_len l.answers ≡ l.offset;
  room : vec_capacity l.answers ≡ length l.inputs;
}
