use Rattle.ruled_channel.proofs.Logging.{logs}
use Rattle.ruled_channel.proofs.batches.take_round.Goals as goal

pub returns-clause-rung : goal.returns-clause-rung
returns-clause-rung g c = logs _ _ _ c.try_recv_many.ensures.rung
