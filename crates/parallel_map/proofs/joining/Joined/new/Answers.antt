use Rattle.std.proofs.Common.{◌≡◌, ℕ, None, [], length, sym, subst, ap}
use Rattle.std.specs.BTreeMap.{get, is_at}
use Rattle.std.specs.Map.{lookup}
use Rattle.std.specs.Ordering.{nat_cmp}
use Rattle.parallel_map.specs.Joining.{AreSoFar}
use Rattle.parallel_map.proofs.InOrder.{nothing_came}
use Rattle.parallel_map.proofs.joining.Joined.new.Goals as goal

pub returns-clause-none : goal.returns-clause-none
returns-clause-none g c =
    let early = get nat_cmp c.new.result in
    let empty : (q : ℕ) → early q ≡ None = λ q. ap (λ es. lookup (is_at (nat_cmp q)) es) c.new.ensures.empty in
    record {
      kept = λ all size right. subst (λ l. AreSoFar all size [] l early) (sym c.in_ok-with_capacity.ensures.items) (nothing_came all size early empty);
      none = empty (length c.in_ok-with_capacity.field-0.items);
    }
