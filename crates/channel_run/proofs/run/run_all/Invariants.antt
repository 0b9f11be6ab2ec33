use Rattle.std.proofs.Common.{◌≡◌, ◌++◌, ◌+◌, ◌≤◌, length}
use Rattle.std.specs.Vec.{vec_len, vec_capacity}
use Rattle.std.specs.Vec.Iter.{into_iter_items, into_iter_len}
use Rattle.channel_run.specs.Runs.{ComesTo}
use Rattle.channel_run.proofs.run.run_all.Given as goal

-- the steps so far have come to the run, and there is room for the replies to those that are left
abbrev pub invariant-loop-step : goal.invariant-loop-step
invariant-loop-step g l = record {
  order : l.yielded ++ into_iter_items l.step-iterator ≡ into_iter_items l.initial.step-iterator;
  left : into_iter_len l.step-iterator ≡ length (into_iter_items l.step-iterator);
  came : ComesTo l.fn.kind l.yielded l.replies.items l.run;
  room : vec_len l.replies + into_iter_len l.step-iterator ≤ vec_capacity l.replies;
}
