use Rattle.std.proofs.Common.{◌≡◌, false, length}
use Rattle.ruled_channel.specs.Passes.{IsPassOf, view}
use Rattle.example_histogram.specs.Classes.{AreCountsOf}
use Rattle.example_histogram.specs.Rule.{counter}
use Rattle.example_histogram.proofs.histogram.count_all.Given as goal

abbrev pub invariant-loop-turn : goal.invariant-loop-turn
invariant-loop-turn g l = IsPassOf l.channel l.pass × (view l.pass ≡ counter (view l.pass).counted false) × (length (view l.pass).counted ≡ l._turn) × AreCountsOf l.counts (view l.pass).counted × (length l.counts ≡ 6)
