use Rattle.std.proofs.Common.{rules}
use Rattle.event_list.proofs.KeepLemmas.{opened, shows, closed, tells_first, is_untold_there, rings_first}
use Rattle.event_list.proofs.links.Links.tell_one.Goals as goal

pub unreachable-requires : goal.unreachable-requires
unreachable-requires g c = is_untold_there
    (opened c.self.invariant c.self.view_is) c.in-Some.is c.tell.ensures.answer c.in_default-tell.is

pub invariant_of-self : goal.invariant_of-self
invariant_of-self g c =
    let tells = tells_first (opened c.self.invariant c.self.view_is) c.in-Some.is c.tell.ensures.answer
    c.in-Some-tell.is c.tell.ensures.rewrites in
    closed tells.keeps

pub returns-clause-does : goal.returns-clause-does
returns-clause-does g c =
    let tells = tells_first (opened c.self.invariant c.self.view_is) c.in-Some.is c.tell.ensures.answer
    c.in-Some-tell.is c.tell.ensures.rewrites in
    record {
      told = search rules;
      after = shows tells.keeps;
      rung = rings_first g.B.Bell.rings tells c.ring.ensures;
    }
