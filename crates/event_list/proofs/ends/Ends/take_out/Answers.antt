use Rattle.std.proofs.Common.{◌≡◌, ◌∙◌, sym, ap, None}
use Rattle.std.specs.Option.{option_map}
use Rattle.slab.specs.Slab.{get}
use Rattle.event_list.specs.declared.entries.Entry.{Entry}
use Rattle.event_list.proofs.Splits.{without_absent}
use Rattle.event_list.proofs.KeptEntries.{vacant_absent, entry_is}
use Rattle.event_list.proofs.TakesAndPuts.{linked_without}
use Rattle.event_list.proofs.ends.Ends.take_out.Goals as goal

pub returns-in_err-entry-clause-leaves : goal.returns-in_err-entry-clause-leaves
returns-in_err-entry-clause-leaves g c = λ list linked.
    let old = c.args.entries.now in
    let vacant : get old c.args.key ≡ None = sym c.in_err-entry.ensures.value in
    let parts = vacant_absent old c.args.self.now list c.args.key linked vacant in
    rw (c.in_err-entry.ensures.absent, without_absent list c.args.key parts.0 parts.1) linked

pub returns-in_err-entry-clause-entry : goal.returns-in_err-entry-clause-entry
returns-in_err-entry-clause-entry g c = λ list linked.
    entry_is c.args.entries.now c.args.self.now list c.args.key linked (c.from_residual.ensures
    ∙ ap (option_map (λ (entry : Entry g.row.W.Denot). entry.notice)) c.in_err-entry.ensures.value)

pub returns-clause-leaves : goal.returns-clause-leaves
returns-clause-leaves g c = λ list linked.
    rw c.without.ensures
    (linked_without c.args.entries.now c.remove.new.self c.set_behind.new.self c.set_before.new.self c.args.self.now
    list c.args.key c.in_ok-entry.entry linked
    (record {
      was = sym c.in_ok-entry.ensures.value;
      taken = c.remove.ensures.updates;
      before = c.set_behind.ensures.rewrites;
      behind = c.set_before.ensures.rewrites;
    }))

pub returns-clause-entry : goal.returns-clause-entry
returns-clause-entry g c = λ list linked.
    entry_is c.args.entries.now c.args.self.now list c.args.key linked
    (ap (option_map (λ (entry : Entry g.row.W.Denot). entry.notice)) c.in_ok-entry.ensures.value)
