use Rattle.std.proofs.Common.{ap}
use Rattle.ruled_channel_rules.proofs.Keeps.{forces}
use Rattle.ruled_channel_rules.proofs.forcing.ForceSender.force_send.Goals as goal

pub force_send_as-requires-clause-rule : goal.force_send_as-requires-clause-rule
force_send_as-requires-clause-rule g c = forces _ _ _ _ _ _ _ (ap (λ v. v.sent) c.requires.own.1) (ap (λ v. v.got) c.requires.own.1)
