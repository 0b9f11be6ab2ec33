use Rattle.std.proofs.Common.{rules, ◌≡◌, Some, refl, sym, subst, ◌∙◌}
use Rattle.ruled_channel.specs.Passes.{IsPassOf, IsSamePass, view}
use Rattle.ruled_channel.specs.SendAs.{channel_of, parts_of}
use Rattle.ruled_channel.specs.Sending.{AreBack}
use Rattle.ruled_channel.proofs.sending.SendAs.leave.Goals as goal

pub give_up-requires : goal.give_up-requires
give_up-requires g c = c.args.self.now.owns _ (sym c.take.ensures.value ∙ c.in-Some.is)

pub returns-clause-back : goal.returns-clause-back
returns-clause-back g c = let pass = c.in-Some.pass in let now = c.if-is_some.pass in
    let was : parts_of c.args.self.now ≡ Some (pass, c.in-Some.message) = sym c.take.ensures.value ∙ c.in-Some.is in
    let owned : IsPassOf (channel_of c.args.self.now) pass = c.args.self.now.owns _ was in
    let own : IsPassOf (channel_of c.args.self.now) now = search rules in
    let same : IsSamePass pass now = search rules in
    let seen : view now ≡ view pass = search rules in
    subst (λ parts. AreBack (channel_of c.args.self.now) parts (Some (now, c.in-Some.message))) (sym was) (own, same, seen, refl)
