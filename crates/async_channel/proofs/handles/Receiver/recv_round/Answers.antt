use Rattle.ruled_channel.proofs.Many.{receives_freely}
use Rattle.async_channel.proofs.handles.Receiver.recv_round.Goals as goal

pub try_recv_many_as-requires-clause-rule : goal.try_recv_many_as-requires-clause-rule
try_recv_many_as-requires-clause-rule g c = receives_freely _ _ _ _
