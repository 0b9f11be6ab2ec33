use Rattle.std.proofs.Common.{◌≡◌}
use Rattle.ruled_channel_rules.specs.Handles.{IsReceiverOf, IsSenderOf, got_by, sent_by}
use Rattle.example_relay.specs.Answers.{answers_to}
use Rattle.example_relay.proofs.pool.work.Given as goal

abbrev pub invariant-loop : goal.invariant-loop
invariant-loop g l = IsReceiverOf l.numbers l.receiver × IsSenderOf l.answers l.sender × (sent_by l.sender ≡ answers_to (got_by l.receiver))
