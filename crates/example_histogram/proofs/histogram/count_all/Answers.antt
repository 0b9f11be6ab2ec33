use Rattle.std.proofs.Common.{ap, ◌∙◌}
use Rattle.std.proofs.lemmas.List.{length-set}
use Rattle.ruled_channel.specs.Passes.{view}
use Rattle.example_histogram.proofs.Keeps.{receives, ends, closes}
use Rattle.example_histogram.proofs.Counts.{counted_more}
use Rattle.example_histogram.proofs.histogram.count_all.Goals as goal

pub recv_blocking_as-requires-clause-rule : goal.recv_blocking_as-requires-clause-rule
recv_blocking_as-requires-clause-rule g c = receives _ _ (ap (λ v. v.counts) c.loop-turn.invariant.1)

pub recv_blocking_as-requires-clause-end : goal.recv_blocking_as-requires-clause-end
recv_blocking_as-requires-clause-end g c = ends _ _

pub close_as-requires-clause-rule : goal.close_as-requires-clause-rule
close_as-requires-clause-rule g c = closes _ _

pub loop-turn-preserved : goal.loop-turn-preserved
loop-turn-preserved g c =
    let told = rw c.in-Ok-Ok.field-0-is at c.in-Ok-Ok.ensures.received in
    let was = c.loop-turn.invariant in
    let now = counted_more (view c.loop-turn.pass) (view c.recv_blocking_as.new.pass) c.loop-turn.counts c.in-Ok-Ok.class c.loop-turn._turn was.4 told.0 told.1 was.1 was.2 was.3 in
    (c.in-Ok-Ok.ensures.own.0, now.0, now.1, now.2, length-set _ _ _ ∙ was.4)
