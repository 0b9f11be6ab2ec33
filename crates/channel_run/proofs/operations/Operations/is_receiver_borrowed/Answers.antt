use Rattle.std.proofs.Common.{◌∙◌, sym, ap}
use Rattle.std.specs.Prelude.{nat_lt}
use Rattle.channel_model.specs.Operations.{borrows_receiver}
use Rattle.channel_run.proofs.Tables.Borrowing.{list_any-count}
use Rattle.channel_run.proofs.operations.Operations.is_receiver_borrowed.Goals as goal

pub returns : goal.returns
returns g c = ap (λ count. nat_lt 0 count) (c.get.ensures ∙ c.requires.each_receiver c.args.name)
    ∙ sym (list_any-count (borrows_receiver c.args.name) c.args.self.now.by_name.entries)
