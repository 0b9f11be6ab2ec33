use Rattle.std.proofs.Common.{◌≡◌, false, ap, is_ok, rules}
use Rattle.channel_core.specs.Tickets.{waits}
use Rattle.channel_core.proofs.Replaced.{waits_unfound, nothing_held}
use Rattle.channel_core.proofs.waiting.wait.Goals.{in-Some+in-Err, in_default}
use Rattle.channel_core.proofs.waiting.wait.Goals as goal

pub returns-clause-replaced : goal.returns-clause-replaced
returns-clause-replaced g c =
    let absent : waits c.args.ticket.now c.args.list.now ≡ false =
    elim c.match-ticket.branch [
      | in-Some+in-Err w ↦ waits_unfound c.args.ticket.now _ c.args.list.now _ w.in-Some.is
          w.renew.ensures.found (ap is_ok w.in-Err.is)
      | in_default w ↦ search rules
    ] in
    nothing_held c.args.ticket.now c.args.list.now absent
