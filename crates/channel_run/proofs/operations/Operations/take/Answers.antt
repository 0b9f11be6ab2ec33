use Rattle.std.proofs.Common.{◌∙◌, sym}
use Rattle.channel_run.proofs.Tables.Borrowing.{counted_taken}
use Rattle.channel_run.proofs.Tables.Entries.{AreDifferent-sorted}
use Rattle.channel_run.proofs.operations.Operations.take.Goals as goal

pub returns-in_err-operation-clause-different : goal.returns-in_err-operation-clause-different
returns-in_err-operation-clause-different g c = AreDifferent-sorted _ c.len-count.ensures.ordered

pub returns-clause-different : goal.returns-clause-different
returns-clause-different g c = AreDifferent-sorted _ c.len-count.ensures.ordered

pub returns-clause-counted : goal.returns-clause-counted
returns-clause-counted g c = rw c.discount.ensures.kept
    (counted_taken c.args.op c.args.self.now.by_name.entries c.remove.new.self.entries c.in_ok-operation.operation
    (sym c.remove.ensures.value ∙ c.in_ok-operation.was) c.remove.ensures.entries _ _ _ _ c.requires
    c.discount.ensures.senders c.discount.ensures.receivers)
