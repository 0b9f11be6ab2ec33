use Rattle.ruled_channel.proofs.Many.{receives_freely}
use Rattle.async_channel.proofs.handles.Receiver.poll_recv_rounds.Goals as goal

pub recv_many_or_wait_as-requires-clause-rule : goal.recv_many_or_wait_as-requires-clause-rule
recv_many_or_wait_as-requires-clause-rule g c = receives_freely _ _ _ _
