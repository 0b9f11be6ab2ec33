use Rattle.std.proofs.Common.{◌≡◌, ◌≤◌, ℕ, List, length, slice_get, vec_len, vec_capacity}
use Rattle.parallel_map.specs.Pieces.{PieceView, AreSound}
use Rattle.parallel_map.specs.Slots.{AreFilled}
use Rattle.parallel_map.proofs.Filling.{AreEmptied}
use Rattle.parallel_map.proofs.gathering.answers_of.Given as goal

abbrev pub invariant-loop-place : goal.invariant-loop-place
invariant-loop-place g l = record {
  emptied : (pieces : List (PieceView g.row.A.Denot)) → AreSound l.inputs pieces
      → AreFilled g.J.Job.answer l.inputs pieces l.fn.slots.items
      → AreEmptied g.J.Job.answer l.inputs pieces l.place l.answers.items;
  later : (i : ℕ) → l.place ≤ i → slice_get l.slots.items i ≡ slice_get l.fn.slots.items i;
  long : vec_len l.slots ≡ length l.inputs;
  count : vec_len l.answers ≡ l.place;
  room : length l.inputs ≤ vec_capacity l.answers;
}
