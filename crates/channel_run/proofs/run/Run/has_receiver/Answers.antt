use Rattle.std.proofs.Common.{◌∙◌}
use Rattle.channel_run.proofs.Tables.Entries.{is_among-entry_at}
use Rattle.channel_run.proofs.run.Run.has_receiver.Goals as goal

pub returns : goal.returns
returns g c = rw (← c.self.view_is) (c.contains_key.ensures
    ∙ is_among-entry_at c.self.inside.receivers.entries c.args.name)
