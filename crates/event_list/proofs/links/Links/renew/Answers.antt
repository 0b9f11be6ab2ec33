use Rattle.std.proofs.Common.{◌≡◌, ◌∙◌, refl, sym, ap, Some, None, true, false, rules}
use Rattle.std.specs.Option.{is_some, option_map, option_copied}
use Rattle.event_list.specs.Waiting.{is_told, told_flag, renewed}
use Rattle.event_list.proofs.KeepLemmas.{opened, shows, closed, entry_of, flag_is, there, had, no_payload, some_told, keeps_repaid, keeps_moved, renewed_none, waits_again}
use Rattle.event_list.proofs.links.Links.renew.Goals as goal

pub invariant_of-self : goal.invariant_of-self
invariant_of-self g c =
    let keeps = opened c.self.invariant c.self.view_is in
    let is : told_flag c.args.self.now c.ticket.inside.key ≡ Some false =
    flag_is (entry_of keeps refl c.notice.ensures.value) (ap option_copied c.in-Some.is)
    (sym c.is_told.ensures ∙ c.if-not-is_told.true) in
    let done = keeps_repaid c.ticket.inside.key c.args.payload keeps is c.set_payload.ensures.rewrites in
    closed done

pub put_last-requires : goal.put_last-requires
put_last-requires g c =
    let keeps = opened c.self.invariant c.self.view_is in
    let is : told_flag c.args.self.now c.ticket.inside.key ≡ Some true =
    flag_is (entry_of keeps refl c.notice.ensures.value) (ap option_copied c.in-Some.is)
    (sym c.is_told.ensures ∙ c.if-not-is_told.false) in
    let taken : option_map is_told c.take_out.result ≡ Some true =
    (c.take_out.ensures.entry c.args.self.now keeps.links).was_told ∙ is in
    there _ taken c.take_out.ensures.room

pub overflow_sub-self : goal.overflow_sub-self
overflow_sub-self g c =
    let keeps = opened c.self.invariant c.self.view_is in
    let is : told_flag c.args.self.now c.ticket.inside.key ≡ Some true =
    flag_is (entry_of keeps refl c.notice.ensures.value) (ap option_copied c.in-Some.is)
    (sym c.is_told.ensures ∙ c.if-not-is_told.false) in
    some_told c.ticket.inside.key keeps is

pub invariant_of-self-2 : goal.invariant_of-self-2
invariant_of-self-2 g c =
    let keeps = opened c.self.invariant c.self.view_is in
    let is : told_flag c.args.self.now c.ticket.inside.key ≡ Some true =
    flag_is (entry_of keeps refl c.notice.ensures.value) (ap option_copied c.in-Some.is)
    (sym c.is_told.ensures ∙ c.if-not-is_told.false) in
    let taken : option_map is_told c.take_out.result ≡ Some true =
    (c.take_out.ensures.entry c.args.self.now keeps.links).was_told ∙ is in
    let same_key = c.put_last.ensures.key ∙ there _ taken c.take_out.ensures.next in
    let linked = c.put_last.ensures.joins _ (c.take_out.ensures.leaves c.args.self.now keeps.links) in
    let done = keeps_moved c.ticket.inside.key c.args.payload keeps is same_key linked
    (c.put_last.ensures.held ∙ there _ taken c.take_out.ensures.held) in
    closed done

pub returns-in_default-clause-does : goal.returns-in_default-clause-does
returns-in_default-clause-does g c =
    let is : told_flag c.args.self.now c.ticket.inside.key ≡ None =
    sym (entry_of (opened c.self.invariant c.self.view_is) refl c.notice.ensures.value).was_told
    ∙ ap (λ entry. option_map is_told (option_copied entry)) c.in_default.is in
    record {
      found = sym (ap is_some (ap (told_flag c.args.self.now) (sym c.ticket.view_is) ∙ is));
      replaced = search rules;
      handed_back = search rules;
      after = sym (renewed_none c.ticket.inside.key c.args.payload is)
          ∙ ap (λ k. renewed c.args.self.now k c.args.payload) c.ticket.view_is;
      waits = search rules;
      unchanged = search rules;
    }

pub returns-then-not-is_told-clause-does : goal.returns-then-not-is_told-clause-does
returns-then-not-is_told-clause-does g c =
    let keeps = opened c.self.invariant c.self.view_is in
    let is : told_flag c.args.self.now c.ticket.inside.key ≡ Some false =
    flag_is (entry_of keeps refl c.notice.ensures.value) (ap option_copied c.in-Some.is)
    (sym c.is_told.ensures ∙ c.if-not-is_told.true) in
    let flag : told_flag c.args.self.now c.args.ticket.now ≡ Some false =
    ap (told_flag c.args.self.now) (sym c.ticket.view_is) ∙ is in
    let after = shows (keeps_repaid c.ticket.inside.key c.args.payload keeps is c.set_payload.ensures.rewrites)
    ∙ ap (λ k. renewed c.args.self.now k c.args.payload) c.ticket.view_is in
    record {
      found = sym (ap is_some flag);
      replaced = had keeps c.ticket.view_is c.set_payload.ensures.replaced;
      handed_back = search rules;
      after = after;
      waits = waits_again c.args.self.now c.args.ticket.now c.args.payload false keeps.links.different flag after;
      unchanged = search rules;
    }

pub returns-clause-does : goal.returns-clause-does
returns-clause-does g c =
    let keeps = opened c.self.invariant c.self.view_is in
    let is : told_flag c.args.self.now c.ticket.inside.key ≡ Some true =
    flag_is (entry_of keeps refl c.notice.ensures.value) (ap option_copied c.in-Some.is)
    (sym c.is_told.ensures ∙ c.if-not-is_told.false) in
    let flag : told_flag c.args.self.now c.args.ticket.now ≡ Some true =
    ap (told_flag c.args.self.now) (sym c.ticket.view_is) ∙ is in
    let taken : option_map is_told c.take_out.result ≡ Some true =
    (c.take_out.ensures.entry c.args.self.now keeps.links).was_told ∙ is in
    let same_key = c.put_last.ensures.key ∙ there _ taken c.take_out.ensures.next in
    let linked = c.put_last.ensures.joins _ (c.take_out.ensures.leaves c.args.self.now keeps.links) in
    let after = shows (keeps_moved c.ticket.inside.key c.args.payload keeps is same_key linked
    (c.put_last.ensures.held ∙ there _ taken c.take_out.ensures.held))
    ∙ ap (λ k. renewed c.args.self.now k c.args.payload) c.ticket.view_is in
    record {
      found = sym (ap is_some flag);
      replaced = no_payload keeps c.ticket.view_is is;
      handed_back = search rules;
      after = after;
      waits = waits_again c.args.self.now c.args.ticket.now c.args.payload true keeps.links.different flag after;
      unchanged = search rules;
    }
