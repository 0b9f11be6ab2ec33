use Rattle.std.proofs.Common.{ap}
use Rattle.ruled_channel_rules.proofs.Keeps.{receives, ends}
use Rattle.ruled_channel_rules.proofs.handles.Receiver.recv.Goals as goal

pub recv_as-requires-clause-rule : goal.recv_as-requires-clause-rule
recv_as-requires-clause-rule g c = receives _ _ _ _ (ap (λ v. v.got) c.requires.own.1)

pub recv_as-requires-clause-end : goal.recv_as-requires-clause-end
recv_as-requires-clause-end g c = ends _ _
