use Rattle.channel_run.proofs.Tables.Entries.{AreDifferent-sorted}
use Rattle.channel_run.proofs.names.take.Goals as goal

pub returns-clause-different : goal.returns-clause-different
returns-clause-different g c = AreDifferent-sorted _ c.len-count.ensures.ordered
