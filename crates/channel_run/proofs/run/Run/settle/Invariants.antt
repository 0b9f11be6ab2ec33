use Rattle.std.proofs.Common.{◌+◌, ◌-◌, ◌≤◌, ◌^◌}
use Rattle.std.specs.Vec.{vec_len, vec_capacity}
use Rattle.channel_model.specs.declared.step.Kind.{Kind}
use Rattle.channel_model.specs.Past.{Past}
use Rattle.channel_model.specs.Polling.{waiting_in}
use Rattle.channel_run.specs.StandsFor.{StandsFor}
use Rattle.channel_run.proofs.Settling.SoFar.{SettlesSoFar}
use Rattle.channel_run.proofs.run.Run.settle.Given as goal

-- the polls so far, and there is room for the replies of those who still wait
abbrev pub invariant-loop-polls : goal.invariant-loop-polls
invariant-loop-polls g l = record {
  came : (kind : Kind) (past : Past _) → StandsFor kind past l.fn.self
      → SettlesSoFar kind past l.polls l.finished.items l.self;
  room : vec_len l.finished + waiting_in l.self.rosters ≤ vec_capacity l.finished;
}

abbrev pub decreases-loop-polls : goal.decreases-loop-polls
decreases-loop-polls g l = 2 ^ 128 - l.polls
