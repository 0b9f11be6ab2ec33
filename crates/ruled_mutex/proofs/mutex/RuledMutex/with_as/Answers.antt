use Rattle.std.proofs.Common.{refl, subst, ◌∙◌}
use Rattle.ruled_mutex.specs.Passes.{found, key_of, view}
use Rattle.ruled_mutex.proofs.Same.{turns_same}
use Rattle.ruled_mutex.proofs.mutex.RuledMutex.with_as.Goals as goal

pub unlock_as-requires-clause-rule : goal.unlock_as-requires-clause-rule
unlock_as-requires-clause-rule g c = let same = c.lock-held.ensures.same in let shows = c.value_mut.ensures.value ∙ c.lock-held.ensures.held.1 in
    turns_same (g.P.Protocol.holds (key_of c.args.self.now)) g.M.Outcome.then _ _ _ _ _ _ same.0.1 same.1
    (c.requires.rule (found c.lock-held.result) c.f-answer.new.arg2 c.f-answer.result (record { shown = _; shows = shows; left = _; met = c.f-answer.ensures; leaves = refl }))

pub returns-clause-rule : goal.returns-clause-rule
returns-clause-rule g c = let same = c.lock-held.ensures.same in let shows = c.value_mut.ensures.value ∙ c.lock-held.ensures.held.1 in (
  found c.lock-held.result,
  c.f-answer.new.arg2,
  record { shown = _; shows = shows; left = _; met = c.f-answer.ensures; leaves = refl },
  subst (λ (v : g.row.V.Denot). g.M.Outcome.then v (found c.lock-held.result) c.f-answer.new.arg2 (view c.unlock_as.new.pass)) same.1 c.unlock_as.ensures.rule,
)
