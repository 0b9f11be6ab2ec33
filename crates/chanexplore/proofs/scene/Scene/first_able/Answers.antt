use Rattle.std.proofs.Common.{Some, sym, ◌∙◌, refl}
use Rattle.chanexplore.specs.Lines.{acts_in}
use Rattle.chanexplore.proofs.Scenes.{first_from, party_below, turns_if, turns_if_not}
use Rattle.chanexplore.proofs.scene.Scene.first_able.Goals as goal

pub returns-then-can_go : goal.returns-then-can_go
returns-then-can_go c = λ kind moment stands.
    let parties = acts_in c.args.parties.now in
    let less = party_below c.args.parties.now c.loop-party.party _ c.loop-party-test.true refl in
    first_from kind parties moment c.args.from c.loop-party.party (Some c.loop-party.party)
    (c.loop-party.invariant kind moment stands)
    (turns_if kind parties moment c.loop-party.party less (sym (c.can_go.ensures kind moment stands) ∙ c.if-can_go.true))

pub loop-party-preserved : goal.loop-party-preserved
loop-party-preserved c = λ kind moment stands.
    let parties = acts_in c.args.parties.now in
    let less = party_below c.args.parties.now c.loop-party.party _ c.loop-party-test.true refl in
    c.loop-party.invariant kind moment stands
    ∙ turns_if_not kind parties moment c.loop-party.party less (sym (c.can_go.ensures kind moment stands) ∙ c.if-can_go.false)
