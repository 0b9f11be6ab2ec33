use Rattle.std.proofs.Common.{ap, rules}
use Rattle.slab.specs.Slab.{Slab}
use Rattle.event_list.specs.declared.entries.Entry.{Entry}
use Rattle.event_list.proofs.KeepLemmas.{opened, shows, closed, keeps_same, keeps_joined, waits_newly}
use Rattle.event_list.proofs.links.Links.listen.Goals as goal

pub invariant_of-self : goal.invariant_of-self
invariant_of-self g c =
    closed (keeps_same (ap (λ (s : Slab (Entry g.row.W.Denot)). s.slots) c.reserve.ensures.same)
    (opened c.self.invariant c.self.view_is))

pub invariant_of-self-2 : goal.invariant_of-self-2
invariant_of-self-2 g c =
    let roomy = keeps_same (ap (λ (s : Slab (Entry g.row.W.Denot)). s.slots) c.reserve.ensures.same)
    (opened c.self.invariant c.self.view_is) in
    closed (keeps_joined c.put_last-key.result c.args.payload roomy
    (c.put_last-key.ensures.joins c.args.self.now roomy.links) c.put_last-key.ensures.held)

pub returns-clause-does : goal.returns-clause-does
returns-clause-does g c =
    let roomy = keeps_same (ap (λ (s : Slab (Entry g.row.W.Denot)). s.slots) c.reserve.ensures.same)
    (opened c.self.invariant c.self.view_is) in
    let fresh = c.put_last-key.ensures.fresh c.args.self.now roomy.links in
    let after = shows (keeps_joined c.put_last-key.result c.args.payload roomy
    (c.put_last-key.ensures.joins c.args.self.now roomy.links) c.put_last-key.ensures.held) in
    record {
      fresh = fresh;
      after = after;
      waits = waits_newly c.args.self.now c.put_last-key.result c.args.payload fresh after;
      handed_back = search rules;
      unchanged = search rules;
    }
