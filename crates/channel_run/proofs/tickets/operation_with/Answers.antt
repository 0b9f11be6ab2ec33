use Rattle.std.proofs.Common.{◌∙◌, rules, sym}
use Rattle.std.proofs.lemmas.Iterator.Search.{find_from_yields_List}
use Rattle.std.proofs.lemmas.Iterator.Consumers.{YieldsList-from_rest}
use borrow.Author.Tests.{tests}
use Rattle.channel_run.specs.RunShown.{ticket_at, ticket_in}
use Rattle.channel_run.proofs.Tables.Entries.{AreDifferent-sorted}
use Rattle.channel_run.proofs.Told.FirstTold.{holds, none_found, one_found}
use Rattle.channel_run.proofs.Waiting.HeldLists.{has_key-is}
use Rattle.channel_run.proofs.tickets.operation_with.Goals as goal

pub returns-then-waits_with : goal.returns-then-waits_with
returns-then-waits_with g c =
    let ticket = ticket_in {T = g.row.T.Denot} c.args.group in
    has_key-is c.args.key (ticket_at ticket c.args.operations.now.entries c.in-Some.name)
    (sym c.waits_with.ensures ∙ c.if-waits_with.true)

pub returns-in_err-name : goal.returns-in_err-name
returns-in_err-name g c =
    let ticket = ticket_in {T = g.row.T.Denot} c.args.group in
    let found = find_from_yields_List (holds ticket c.args.key) _ _ c.find.result c.find.ensures.ran
    (YieldsList-from_rest c.args.operations.now.entries c.iter.ensures.rest) (λ x r q k. search (rules, tests)) in
    rw c.from_residual.ensures (none_found ticket c.args.key c.args.operations.now.entries
    (rw c.in_err-name.was at found))

pub returns : goal.returns
returns g c =
    let ticket = ticket_in {T = g.row.T.Denot} c.args.group in
    let found = find_from_yields_List (holds ticket c.args.key) _ _ c.find.result c.find.ensures.ran
    (YieldsList-from_rest c.args.operations.now.entries c.iter.ensures.rest) (λ x r q k. search (rules, tests)) in
    one_found ticket c.args.key c.args.operations.now.entries (AreDifferent-sorted _ c.iter.ensures.ordered)
    (c.in_ok-name.name.now, c.in_ok-name._operation.now) (rw c.in_ok-name.was at found)
