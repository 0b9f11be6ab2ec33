use Rattle.ruled_channel.proofs.Many.{sends_freely}
use Rattle.async_channel.proofs.handles.Sender.send_round.Goals as goal

pub try_send_many_as-requires-clause-rule : goal.try_send_many_as-requires-clause-rule
try_send_many_as-requires-clause-rule g c = sends_freely _ _ _
