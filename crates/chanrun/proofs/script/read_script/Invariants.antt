use Rattle.std.proofs.Common.{◌≡◌, ◌≤◌, ◌-◌, length}
use Rattle.std.specs.Io.KnownBytes.{Consumes}
use Rattle.chanrun.proofs.script.read_script.Given as goal

abbrev pub invariant-loop-block : goal.invariant-loop-block
invariant-loop-block g l = record {
  bytes : Consumes (g.R.Source.left l.fn.reader) (g.R.Source.left l.reader) l.input.items;
  well : g.R.Source.failures l.reader ≡ g.R.Source.failures l.fn.reader;
  few : length l.input.items ≤ 1048577;
}

abbrev pub decreases-loop-block : goal.decreases-loop-block
decreases-loop-block g l = 1048577 - length l.input.items
