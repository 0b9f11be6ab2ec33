use Rattle.std.proofs.Common.{rules, ◌≡◌, ℕ, subst, sym}
use Rattle.atomic_table.specs.Table.{Allows, step}
use mathlib.Core.Option.{none}
use Rattle.ruled_mutex.specs.Rule.{Guarded, unlocked}
use Rattle.ruled_mutex.specs.Passes.{found, key_of, made}
use Rattle.ruled_mutex.proofs.InPlace.{in_place}
use Rattle.ruled_mutex.proofs.Keeps.{releases}
use Rattle.ruled_mutex.proofs.mutex.RuledMutex.unlock_as.Goals as goal

pub swap-before-requires : goal.swap-before-requires
swap-before-requires g c = let own = c.requires.own in let holds = g.P.Protocol.holds (key_of c.args.self.now) in let slots : c.args.self.now.table.shared.table_id.slots ≡ 1 = search rules in (
  search rules,
  search rules,
  subst (λ (n : ℕ). Allows (Guarded holds) n c.args.pass.now.seat.id c.args.pass.now.seat.me 8 (λ _. 0) (unlocked g.M.Outcome.then (step n 8 0 0 none) c.args.pass.now.seat.me)) (sym slots)
      (releases holds g.M.Outcome.then _ _ (found c.args.held) (made c.args.held c.args.pass.now) (own.1, in_place (found c.args.held) _ own.2 own.3) c.requires.rule),
)

pub wake-requires : goal.wake-requires
wake-requires g c = let own = c.requires.own in let told = c.swap-before.ensures.2 (found c.args.held) (made c.args.held c.args.pass.now) (own.1, in_place (found c.args.held) _ own.2 own.3) in (search rules, told.1.0 (search rules), told.0)

pub returns-else-before-eq-CONTENDED-clause-own : goal.returns-else-before-eq-CONTENDED-clause-own
returns-else-before-eq-CONTENDED-clause-own g c = let own = c.requires.own in
    let told = c.swap-before.ensures.2 (found c.args.held) (made c.args.held c.args.pass.now) (own.1, in_place (found c.args.held) _ own.2 own.3) in ((search rules, told.1.1 (search rules), told.0), search rules)
