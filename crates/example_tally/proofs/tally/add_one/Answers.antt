use Rattle.std.proofs.Common.{◌≤◌, sym, subst, ◌∙◌, arith}
use Rattle.example_tally.specs.declared.tally.Added.{Added}
use Rattle.example_tally.proofs.Sums.{adds, learns}
use Rattle.example_tally.proofs.tally.add_one.Goals as goal

pub learn_as-requires-clause-rule : goal.learn_as-requires-clause-rule
learn_as-requires-clause-rule g c = learns _ _ _ _

pub unlock_as-requires-clause-rule : goal.unlock_as-requires-clause-rule
unlock_as-requires-clause-rule g c = let value = c.value_mut-value.ensures.value in let made = c.learn_as.ensures.held.1 ∙ c.lock-held.ensures.held.1 in
    let may_add = subst (λ (v : Added). 1 ≤ v.left) (sym (c.learn_as.ensures.same.1 ∙ c.lock-held.ensures.same.1)) c.requires.left in
    adds _ _ _ _ _ may_add (omega arith)
