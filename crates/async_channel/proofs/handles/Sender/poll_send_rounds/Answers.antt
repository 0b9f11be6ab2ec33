use Rattle.ruled_channel.proofs.Many.{sends_freely}
use Rattle.async_channel.proofs.handles.Sender.poll_send_rounds.Goals as goal

pub send_many_or_wait_as-requires-clause-rule : goal.send_many_or_wait_as-requires-clause-rule
send_many_or_wait_as-requires-clause-rule g c = sends_freely _ _ _
