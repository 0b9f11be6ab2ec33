use Rattle.event_list.specs.Waiting.{untold_keys}
use Rattle.event_list.proofs.Splits.{absent_both}
use Rattle.event_list.proofs.KeptEntries.{vacant_absent}
use Rattle.event_list.proofs.TakesAndPuts.{linked_with}
use Rattle.event_list.proofs.ends.Ends.put_last.Goals as goal

pub returns-clause-fresh : goal.returns-clause-fresh
returns-clause-fresh g c = λ list linked.
    let parts = vacant_absent c.args.entries.now c.args.self.now list c.insert-key.result linked
    c.insert-key.ensures.fresh in
    absent_both c.insert-key.result list.told (untold_keys list) parts.0 parts.1

pub returns-clause-joins : goal.returns-clause-joins
returns-clause-joins g c = λ list linked.
    rw c.with.ensures
    (linked_with c.args.entries.now c.insert-key.new.self c.set_behind.new.self c.args.self.now list c.insert-key.result
    c.args.payload linked c.insert-key.ensures.fresh
    (record { placed = c.insert-key.ensures.updates; behind = c.set_behind.ensures.rewrites }))
