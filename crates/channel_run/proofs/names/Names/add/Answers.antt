use Rattle.std.proofs.Common.{rules, ◌∙◌, ap}
use Rattle.event_list.specs.Keys.{is_among}
use Rattle.channel_run.proofs.Tables.Entries.{is_among-entry_at}
use Rattle.channel_run.proofs.Tables.ShownNames.{names-added}
use Rattle.channel_run.proofs.Tables.OneEntry.{nothing_at}
use Rattle.channel_run.proofs.names.Names.add.Goals as goal
use Rattle.channel_run.proofs.names.Names.add.Goals.{in-Ok, in-Err}

pub put-requires : goal.put-requires
put-requires c = nothing_at c.self.inside.names.entries c.args.name
    (is_among-entry_at c.self.inside.names.entries c.args.name
    ∙ ap (λ names. is_among c.args.name names) c.self.view_is ∙ c.requires)

pub invariant_of-self : goal.invariant_of-self
invariant_of-self c = c.put.ensures.different

pub returns-clause-added : goal.returns-clause-added
returns-clause-added c = elim c.match-put.branch [
  | in-Ok w ↦ rw (← c.self.view_is, w.result-is) (names-added c.args.name c.self.inside.names.entries
      c.put.new.entries.entries tt w.in-Ok.ensures.added w.in-Ok.ensures.more)
  | in-Err w ↦ search rules
]
