use Rattle.channel_run.proofs.Tables.Entries.{AreDifferent-sorted}
use Rattle.channel_run.proofs.names.put.Goals as goal

pub returns-in-None-clause-different : goal.returns-in-None-clause-different
returns-in-None-clause-different g c = AreDifferent-sorted _ c.insert.ensures.ordered

pub returns-in-Err-clause-different : goal.returns-in-Err-clause-different
returns-in-Err-clause-different g c = AreDifferent-sorted _ c.insert.ensures.ordered
