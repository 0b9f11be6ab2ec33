use Rattle.ruled_channel_rules.proofs.Keeps.{closes}
use Rattle.ruled_channel_rules.proofs.forcing.ForceSender.close.Goals as goal

pub close_as-requires-clause-rule : goal.close_as-requires-clause-rule
close_as-requires-clause-rule g c = closes _ _
