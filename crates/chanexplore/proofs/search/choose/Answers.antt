use Rattle.std.proofs.Common.{Some, None}
use Rattle.chanexplore.specs.Lines.{acts_in}
use Rattle.chanexplore.proofs.Trails.{chosen, first_in, gone_in, not_gone}
use Rattle.chanexplore.proofs.search.choose.Goals as goal

pub returns-in_default : goal.returns-in_default
returns-in_default c = λ tree spot more next of at stands deeper can.
    let gone = rw c.in_default.is at c.in_ok-turn.ensures tree.kind spot.moment (stands) in
    absurd (not_gone tree spot.moment c.args.party next
    (gone_in tree (acts_in c.args.parties.now) spot.moment c.args.party None c.go.new.self.run c.go.new.self.places.items of.same gone) can)

pub returns : goal.returns
returns c = λ tree spot more next of at stands deeper can.
    let lines = acts_in c.args.parties.now in
    let gone = rw c.in-Some.is at c.in_ok-turn.ensures tree.kind spot.moment stands in
    rw (c.in_ok-keep.ensures, c.in_ok-keep-2.ensures)
    (chosen tree spot more next c.args.choices.now.items c.args.turns.now.items c.args.party c.first_able_behind-next.result c.in-Some.turn c.go.new.self.run c.go.new.self.places.items at deeper can
    (first_in tree lines spot.moment _ c.first_able_behind-next.result of.same (c.first_able_behind-next.ensures tree.kind spot.moment stands))
    (gone_in tree lines spot.moment c.args.party (Some c.in-Some.turn) c.go.new.self.run c.go.new.self.places.items of.same gone))
