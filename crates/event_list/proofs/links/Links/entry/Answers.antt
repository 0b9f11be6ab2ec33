use Rattle.event_list.proofs.KeepLemmas.{opened, entry_of}
use Rattle.event_list.proofs.links.Links.entry.Goals as goal

pub returns-clause-entry : goal.returns-clause-entry
returns-clause-entry g c = entry_of (opened c.self.invariant c.self.view_is) c.ticket.view_is c.notice.ensures.value
