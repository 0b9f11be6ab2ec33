use Rattle.std.proofs.Common.{◌≡◌, ◌≢◌, ◌++◌, ◌∷◌, [], ℕ, subst, Some}
use Rattle.std.specs.BTreeMap.{get}
use Rattle.std.specs.Ordering.{nat_cmp}
use Rattle.parallel_map.proofs.InOrder.{put_in, elsewhere}
use Rattle.parallel_map.proofs.joining.Joined.put.Goals as goal

pub returns : goal.returns
returns g c = λ came before.
    let old = c.args.self.now.early in
    let new = c.insert.new.self in
    let list = c.into_answers.result in
    c.append_next.ensures (came ++ c.args.chunk ∷ []) (λ all size.
    put_in all size came c.args.self.now.answers.items (get nat_cmp old) (get nat_cmp new) list c.args.chunk (before.kept all size)
    c.into_answers.ensures
    (subst (λ k. get nat_cmp new k ≡ Some list) c.from.ensures c.in_ok-insert.ensures.updates.1)
    (subst (λ k. (q : ℕ) → q ≢ k → get nat_cmp new q ≡ get nat_cmp old q) c.from.ensures
    (elsewhere old new c.from.result (Some list) c.in_ok-insert.ensures.updates)))
