use Rattle.std.proofs.Common.{◌∙◌, rules, sym}
use Rattle.std.proofs.lemmas.Iterator.Search.{find_from_yields_List}
use Rattle.std.proofs.lemmas.Iterator.Consumers.{YieldsList-from_rest}
use borrow.Author.Tests.{tests}
use Rattle.channel_run.specs.RunShown.{stream_ticket, ticket_at}
use Rattle.channel_run.proofs.Tables.Entries.{AreDifferent-sorted}
use Rattle.channel_run.proofs.Told.FirstTold.{holds, none_found, one_found}
use Rattle.channel_run.proofs.Waiting.HeldLists.{has_key-is}
use Rattle.channel_run.proofs.tickets.receiver_with.Goals as goal

pub returns-then-streams_with : goal.returns-then-streams_with
returns-then-streams_with c =
    has_key-is c.args.key (ticket_at stream_ticket c.args.receivers.now.entries c.in-Some.name)
    (sym c.streams_with.ensures ∙ c.if-streams_with.true)

pub returns-in_err-name : goal.returns-in_err-name
returns-in_err-name c =
    let found = find_from_yields_List (holds stream_ticket c.args.key) _ _ c.find.result c.find.ensures.ran
    (YieldsList-from_rest c.args.receivers.now.entries c.iter.ensures.rest) (λ x r q k. search (rules, tests)) in
    rw c.from_residual.ensures (none_found stream_ticket c.args.key c.args.receivers.now.entries
    (rw c.in_err-name.was at found))

pub returns : goal.returns
returns c =
    let found = find_from_yields_List (holds stream_ticket c.args.key) _ _ c.find.result c.find.ensures.ran
    (YieldsList-from_rest c.args.receivers.now.entries c.iter.ensures.rest) (λ x r q k. search (rules, tests)) in
    one_found stream_ticket c.args.key c.args.receivers.now.entries (AreDifferent-sorted _ c.iter.ensures.ordered)
    (c.in_ok-name.name.now, c.in_ok-name._ticket.now) (rw c.in_ok-name.was at found)
