use Rattle.std.proofs.Common.{rules, ◌≡◌, ◌≢◌, ◌++◌, ℕ, length, sym, subst, ◌∙◌, Some, None}
use Rattle.std.specs.BTreeMap.{get, is_at}
use Rattle.std.specs.Map.{lookup}
use Rattle.std.specs.Ordering.{nat_cmp}
use Rattle.parallel_map.specs.Joining.{AreSoFar}
use Rattle.parallel_map.proofs.InOrder.{one_appended, elsewhere}
use Rattle.parallel_map.proofs.joining.Joined.append_next.Goals as goal

pub loop-next-preserved : goal.loop-next-preserved
loop-next-preserved g c = λ came kept all size right.
    let answers = c.loop-next.self.answers in
    let at : c.len.result ≡ length answers.items = c.len.ensures ∙ answers.ok.0 in
    let list = c.in-Some.next in
    let value : get nat_cmp c.loop-next.self.early c.len.result ≡ Some list = sym c.remove.ensures.value ∙ c.in-Some.is in
    let longer : c.append.new.self.items ≡ answers.items ++ list.items = search rules in
    subst (λ l. AreSoFar all size came l (get nat_cmp c.remove.new.self)) (sym longer)
    (one_appended all size came answers.items (get nat_cmp c.loop-next.self.early) (get nat_cmp c.remove.new.self) list
    (c.loop-next.invariant came kept all size right)
    (subst (λ k. get nat_cmp c.loop-next.self.early k ≡ Some list) at value)
    (subst (λ k. (q : ℕ) → q ≢ k → get nat_cmp c.remove.new.self q ≡ get nat_cmp c.loop-next.self.early q) at
    (elsewhere c.loop-next.self.early c.remove.new.self c.len.result None c.remove.ensures.updates))
    (subst (λ k. get nat_cmp c.remove.new.self k ≡ None) at c.remove.ensures.updates.1))

pub returns : goal.returns
returns g c = λ came kept.
    let answers = c.loop-next.self.answers in
    let at : c.len.result ≡ length answers.items = c.len.ensures ∙ answers.ok.0 in
    let same : c.remove.new.self.entries ≡ c.loop-next.self.early.entries = search rules in
    record {
      kept = λ all size right. subst (λ es. AreSoFar all size came answers.items (λ q. lookup (is_at (nat_cmp q)) es)) (sym same)
          (c.loop-next.invariant came kept all size right);
      none = subst (λ k. get nat_cmp c.remove.new.self k ≡ None) at c.remove.ensures.updates.1;
    }
