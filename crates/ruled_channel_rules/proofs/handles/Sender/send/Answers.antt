use Rattle.std.proofs.Common.{ap}
use Rattle.ruled_channel_rules.proofs.Keeps.{sends}
use Rattle.ruled_channel_rules.proofs.handles.Sender.send.Goals as goal

pub send_as-requires-clause-rule : goal.send_as-requires-clause-rule
send_as-requires-clause-rule g c = sends _ _ _ _ _ (ap (λ v. v.sent) c.requires.own.1)
