use Rattle.std.proofs.Common.{◌≡◌, ◌+◌, ◌-◌}
use Rattle.ruled_mutex.specs.Passes.{IsPassOf, view}
use Rattle.example_tally.specs.Sum.{added}
use Rattle.example_tally.proofs.tally.add_many.Given as goal

abbrev pub invariant-loop-done : goal.invariant-loop-done
invariant-loop-done g l = IsPassOf l.fn.counter l.pass × (view l.pass ≡ added ((view l.initial.pass).count + l._done) ((view l.initial.pass).left - l._done))
