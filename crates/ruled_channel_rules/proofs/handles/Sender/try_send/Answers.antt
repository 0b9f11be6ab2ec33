use Rattle.std.proofs.Common.{ap}
use Rattle.ruled_channel_rules.proofs.Keeps.{sends}
use Rattle.ruled_channel_rules.proofs.handles.Sender.try_send.Goals as goal

pub try_send_as-requires-clause-rule : goal.try_send_as-requires-clause-rule
try_send_as-requires-clause-rule g c = sends _ _ _ _ _ (ap (λ v. v.sent) c.requires.own.1)
