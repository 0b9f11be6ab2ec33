use Rattle.std.proofs.Common.{◌∙◌, sym}
use Rattle.channel_run.proofs.Tables.Entries.{is_some-shown}
use Rattle.channel_run.proofs.run.Run.has_operation.Goals as goal

pub returns : goal.returns
returns g c = rw (← c.self.view_is) (c.contains_key.ensures
    ∙ sym (is_some-shown c.self.inside.operations.by_name.entries c.args.op))
