use Rattle.std.proofs.Common.{◌≡◌, map}
use Rattle.ruled_channel_rules.specs.Handles.{sent_by, got_by, sender_closed}
use Rattle.parallel_map.specs.Chunks.{chunk_at}
use Rattle.parallel_map.specs.Workers.{AreEndsOf}
use Rattle.parallel_map.proofs.workers.work.Given as goal

-- the chunk for each place that was received was sent, and nothing was closed
abbrev pub invariant-loop : goal.invariant-loop
invariant-loop g l = AreEndsOf l.task.places l.task.chunks l.ends.places l.ends.chunks
    × (sender_closed l.ends.chunks ≡ sender_closed l.initial.ends.chunks)
    × (sent_by l.ends.chunks ≡ map (chunk_at (map g.J.Job.answer l.task.inputs.now) l.task.size) (got_by l.ends.places))
