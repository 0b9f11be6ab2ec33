use Rattle.std.proofs.Common.{Some, subst, arith}
use Rattle.std.specs.Prelude.{List}
use Rattle.chanexplore.specs.declared.party.Place.{Place}
use Rattle.chanexplore.specs.Lines.{acts_in}
use Rattle.chanexplore.specs.Trail.{HasGone}
use Rattle.chanexplore.proofs.Scenes.{gone, no_turn, set_outside}
use Rattle.chanexplore.proofs.scene.Scene.go.Goals as goal

pub returns-in_default : goal.returns-in_default
returns-in_default c = λ kind moment stands.
    no_turn kind (acts_in c.args.parties.now) moment c.args.party (rw c.in_default.is at c.line.ensures.is kind moment stands)

pub returns-then-party-len : goal.returns-then-party-len
returns-then-party-len c = λ kind moment stands.
    let made = c.in_ok-answer.ensures kind moment.past stands.stands in
    gone kind (acts_in c.args.parties.now) moment c.args.party c.in-Some.place c.in-Some.act.now c.in_ok-answer.answer c.args.self.now.run c.act_on.new.run c.args.self.now.places.items _ _ c.place_after-after.result
    stands (c.in-Some.ensures.is kind moment stands) made.0 made.1 c.line_count-count.ensures c.is_await.ensures c.place_after-after.ensures

pub returns-else-party-len : goal.returns-else-party-len
returns-else-party-len c = λ kind moment stands.
    let made = c.in_ok-answer.ensures kind moment.past stands.stands in
    subst (λ (places : List Place). HasGone kind (acts_in c.args.parties.now) moment c.args.party (Some (record { party = c.args.party; line = c.in-Some.place.done; answer = c.in_ok-answer.answer })) c.act_on.new.run places)
    (set_outside c.args.self.now.places.items c.args.party c.place_after-after.result (omega (arith, c.if-party-len.false, c.len.ensures)))
    (gone kind (acts_in c.args.parties.now) moment c.args.party c.in-Some.place c.in-Some.act.now c.in_ok-answer.answer c.args.self.now.run c.act_on.new.run c.args.self.now.places.items _ _ c.place_after-after.result
    stands (c.in-Some.ensures.is kind moment stands) made.0 made.1 c.line_count-count.ensures c.is_await.ensures c.place_after-after.ensures)
