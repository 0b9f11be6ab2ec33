use Rattle.std.proofs.Common.{◌≡◌, take}
use Rattle.ruled_channel.specs.Passes.{IsPassOf, view}
use Rattle.example_histogram.specs.Classes.{classes_of}
use Rattle.example_histogram.specs.Rule.{sender}
use Rattle.example_histogram.proofs.histogram.send_each.Given as goal

abbrev pub invariant-loop-next : goal.invariant-loop-next
invariant-loop-next g l = IsPassOf l.channel l.pass × (view l.pass ≡ sender (classes_of (take l.next l.numbers)))
