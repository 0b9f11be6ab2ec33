use Rattle.std.proofs.Common.{◌≡◌, ◌∙◌, sym, ap, Some, None, true, false, rules}
use Rattle.std.specs.Option.{option_map}
use Rattle.event_list.specs.Waiting.{is_told, told_flag, without}
use Rattle.event_list.proofs.KeepLemmas.{opened, shows, closed, flag_is, loses, some_told, keeps_without_told, keeps_without_untold, keeps_untouched, without_none}
use Rattle.event_list.proofs.links.Links.unregister.Goals.{then-is_told, else-is_told}
use Rattle.event_list.proofs.links.Links.unregister.Goals as goal

pub invariant_of-self : goal.invariant_of-self
invariant_of-self g c =
    let keeps = opened c.self.invariant c.self.view_is in
    let marked : told_flag c.args.self.now c.args.key ≡ None =
    sym (c.take_out.ensures.entry c.args.self.now keeps.links).was_told
    ∙ ap (option_map is_told) c.in_err-entry.was in
    let left = keeps_untouched c.args.key keeps marked
    (c.take_out.ensures.leaves c.args.self.now keeps.links) c.in_err-entry.ensures.absent in
    closed left

pub overflow_sub-self-then-is_told : goal.overflow_sub-self-then-is_told
overflow_sub-self-then-is_told g c =
    let keeps = opened c.self.invariant c.self.view_is in
    let marked : told_flag c.args.self.now c.args.key ≡ Some true =
    flag_is (c.take_out.ensures.entry c.args.self.now keeps.links) c.in_ok-entry.was
    (sym c.is_told.ensures ∙ c.if-is_told.true) in
    some_told c.args.key keeps marked

pub invariant_of-self-then-is_told : goal.invariant_of-self-then-is_told
invariant_of-self-then-is_told g c =
    let keeps = opened c.self.invariant c.self.view_is in
    let marked : told_flag c.args.self.now c.args.key ≡ Some true =
    flag_is (c.take_out.ensures.entry c.args.self.now keeps.links) c.in_ok-entry.was
    (sym c.is_told.ensures ∙ c.if-is_told.true) in
    let left = keeps_without_told c.args.key keeps marked
    (c.take_out.ensures.leaves c.args.self.now keeps.links) c.in_ok-entry.ensures.held in
    closed left

pub invariant_of-self-else-is_told : goal.invariant_of-self-else-is_told
invariant_of-self-else-is_told g c =
    let keeps = opened c.self.invariant c.self.view_is in
    let marked : told_flag c.args.self.now c.args.key ≡ Some false =
    flag_is (c.take_out.ensures.entry c.args.self.now keeps.links) c.in_ok-entry.was
    (sym c.is_told.ensures ∙ c.if-is_told.false) in
    let left = keeps_without_untold c.args.key keeps marked
    (c.take_out.ensures.leaves c.args.self.now keeps.links) c.in_ok-entry.ensures.held in
    closed left

pub returns-in_err-entry-clause-does : goal.returns-in_err-entry-clause-does
returns-in_err-entry-clause-does g c =
    let keeps = opened c.self.invariant c.self.view_is in
    let marked : told_flag c.args.self.now c.args.key ≡ None =
    sym (c.take_out.ensures.entry c.args.self.now keeps.links).was_told
    ∙ ap (option_map is_told) c.in_err-entry.was in
    let left = keeps_untouched c.args.key keeps marked
    (c.take_out.ensures.leaves c.args.self.now keeps.links) c.in_err-entry.ensures.absent in
    record {
      was_told = search rules;
      payload = search rules;
      after = shows left ∙ sym (without_none c.args.key marked);
      unchanged = rw c.from_residual.ensures (shows left);
      sizes = loses c.args.key keeps;
    }

pub returns-clause-does : goal.returns-clause-does
returns-clause-does g c =
    let keeps = opened c.self.invariant c.self.view_is in
    let leaves = c.take_out.ensures.leaves c.args.self.now keeps.links in
    let marked : told_flag c.args.self.now c.args.key ≡ Some c.is_told.result =
    flag_is (c.take_out.ensures.entry c.args.self.now keeps.links) c.in_ok-entry.was (sym c.is_told.ensures) in
    record {
      was_told = search rules;
      payload = search rules;
      after = elim c.if-is_told.branch [
        | then-is_told w ↦ w.self-is ∙ shows (keeps_without_told c.args.key keeps
            (marked ∙ ap Some w.if-is_told.true) leaves c.in_ok-entry.ensures.held)
        | else-is_told w ↦ w.self-is ∙ shows (keeps_without_untold c.args.key keeps
            (marked ∙ ap Some w.if-is_told.false) leaves c.in_ok-entry.ensures.held)
      ];
      unchanged = search rules;
      sizes = loses c.args.key keeps;
    }
