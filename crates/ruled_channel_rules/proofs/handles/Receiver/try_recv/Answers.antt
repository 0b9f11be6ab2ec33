use Rattle.std.proofs.Common.{ap}
use Rattle.ruled_channel_rules.proofs.Keeps.{receives, ends}
use Rattle.ruled_channel_rules.proofs.handles.Receiver.try_recv.Goals as goal

pub try_recv_as-requires-clause-rule : goal.try_recv_as-requires-clause-rule
try_recv_as-requires-clause-rule g c = receives _ _ _ _ (ap (λ v. v.got) c.requires.own.1)

pub try_recv_as-requires-clause-end : goal.try_recv_as-requires-clause-end
try_recv_as-requires-clause-end g c = ends _ _
