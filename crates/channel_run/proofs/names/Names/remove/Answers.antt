use Rattle.std.proofs.Common.{◌∙◌, ap}
use Rattle.std.specs.Map.{keys_of}
use Rattle.event_list.specs.Keys.{is_among}
use Rattle.channel_model.proofs.NameLists.{length-without}
use Rattle.channel_run.proofs.Tables.Entries.{AreDifferent-sorted, keys_of-removed}
use Rattle.channel_run.proofs.names.Names.remove.Goals as goal

pub invariant_of-self : goal.invariant_of-self
invariant_of-self c = AreDifferent-sorted _ c.remove.ensures.ordered

pub returns-clause-left : goal.returns-clause-left
returns-clause-left c = rw (← c.self.view_is, c.remove.ensures.entries)
    (keys_of-removed c.args.name c.self.inside.names.entries c.self.invariant)

pub returns-clause-fewer : goal.returns-clause-fewer
returns-clause-fewer c = λ there.
    rw (
      ← c.self.view_is,
      c.remove.ensures.entries,
      keys_of-removed c.args.name c.self.inside.names.entries c.self.invariant,
    )
    (length-without c.args.name (keys_of c.self.inside.names.entries) c.self.invariant
    (ap (λ names. is_among c.args.name names) c.self.view_is ∙ there))
