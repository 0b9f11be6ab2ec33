use Rattle.std.proofs.Common.{◌≡◌}
use Rattle.channel_model.specs.declared.step.Kind.{Kind}
use Rattle.chanexplore.specs.Lines.{acts_in}
use Rattle.chanexplore.specs.Orders.{Moment, turns_from}
use Rattle.chanexplore.specs.Trail.{Stands}
use Rattle.chanexplore.proofs.scene.Scene.first_able.Given as goal

-- the parties so far can't go on
abbrev pub invariant-loop-party : goal.invariant-loop-party
invariant-loop-party l =
    (kind : Kind) (moment : Moment) → Stands kind moment l.self.run l.self.places.items
    → turns_from kind (acts_in l.parties) moment l.from ≡ turns_from kind (acts_in l.parties) moment l.party
