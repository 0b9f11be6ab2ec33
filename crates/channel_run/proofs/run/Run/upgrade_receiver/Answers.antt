use Rattle.std.proofs.Common.{◌≡◌, ◌∙◌, Some, None, true, false, not, length, ◌+◌, refl, sym, ap}
use Rattle.std.proofs.lemmas.List.{length-map}
use Rattle.std.specs.Prelude.{nat_lt, ◌&&◌}
use Rattle.event_list.specs.Keys.{is_among}
use Rattle.channel_model.specs.declared.step.Reply.{Reply}
use Rattle.channel_model.specs.declared.step.Step.{Step}
use Rattle.channel_core.specs.Tables.{handle_limit}
use Rattle.channel_model.specs.View.{View}
use Rattle.channel_core.specs.Counts.{count_upgraded}
use Rattle.channel_run.specs.RunShown.{Changed}
use Rattle.channel_run.proofs.Tables.Entries.{is_among-entry_at}
use Rattle.channel_run.proofs.Outcomes.Handles.{made-upgrade_receiver}
use Rattle.channel_run.proofs.Tables.OneEntry.{nothing_at}
use Rattle.channel_run.proofs.Tables.ShownNames.{one_more, upgraded-count, when_ok}
use Rattle.channel_run.proofs.Tables.MadeNames.{stepped-receiver}
use Rattle.channel_run.proofs.Steps.Refused.{StepsTo-made, not_refused}
use Rattle.channel_run.proofs.Tables.Kept.{kept_of, shown_by}
use Rattle.channel_run.proofs.run.Run.upgrade_receiver.Goals as goal

pub put_receiver-requires : goal.put_receiver-requires
put_receiver-requires g c = nothing_at c.self.inside.receivers.entries c.args.new
    (is_among-entry_at c.self.inside.receivers.entries c.args.new
    ∙ ap (λ (r : View g.row.T.Denot). is_among c.args.new r.receivers) c.self.view_is ∙ sym c.has_receiver.ensures
    ∙ c.if-has_receiver.false)

pub invariant_of-self-2 : goal.invariant_of-self-2
invariant_of-self-2 g c =
    let opened : c.self.inside.core.closed ≡ false = sym c.is_closed.ensures ∙ c.if-is_closed.false in
    let run = shown_by (kept_of c.self.inside) in
    let absent = nothing_at c.self.inside.receivers.entries c.args.new
    (is_among-entry_at c.self.inside.receivers.entries c.args.new
    ∙ ap (λ (r : View g.row.T.Denot). is_among c.args.new r.receivers) c.self.view_is
    ∙ sym c.has_receiver.ensures ∙ c.if-has_receiver.false) in
    let change = when_ok c.put_receiver.result (Changed c.args.new c.self.inside.receivers.entries c.put_receiver.new.receivers.entries
    (Some None)) (sym c.is_err.ensures.value ∙ c.if-is_err.false) c.put_receiver.ensures.added in
    let more = when_ok c.put_receiver.result (length c.put_receiver.new.receivers.entries ≡ length c.self.inside.receivers.entries + 1)
    (sym c.is_err.ensures.value ∙ c.if-is_err.false) c.put_receiver.ensures.more in
    let is = stepped-receiver (kept_of c.self.inside) c.self.invariant.0
    (Step.UpgradeReceiver c.args.of c.args.new)
    (Reply.Upgraded true) c.args.new c.put_receiver.new.receivers.entries absent change more
    (made-upgrade_receiver run c.args.of c.args.new opened) in
    let upgraded = upgraded-count c.self.inside.core.closed c.self.inside.core.receivers opened
    (rw (← c.receiver_count.ensures) c.if-receiver_count-gt-HANDLE_LIMIT.false) in
    let after = c.upgrade_receiver.ensures.after
    ∙ ap (λ count. record c.self.inside.core { receivers = count })
    (ap (λ answer. count_upgraded answer c.self.inside.core.receivers) c.upgrade_receiver.ensures.reply ∙ upgraded)
    in
    rw after (is.whole, c.self.invariant.1)

pub returns : goal.returns
returns g c =
    let opened : c.self.inside.core.closed ≡ false = sym c.is_closed.ensures ∙ c.if-is_closed.false in
    let run = shown_by (kept_of c.self.inside) in
    let absent = nothing_at c.self.inside.receivers.entries c.args.new
    (is_among-entry_at c.self.inside.receivers.entries c.args.new
    ∙ ap (λ (r : View g.row.T.Denot). is_among c.args.new r.receivers) c.self.view_is
    ∙ sym c.has_receiver.ensures ∙ c.if-has_receiver.false) in
    let change = when_ok c.put_receiver.result (Changed c.args.new c.self.inside.receivers.entries c.put_receiver.new.receivers.entries
    (Some None)) (sym c.is_err.ensures.value ∙ c.if-is_err.false) c.put_receiver.ensures.added in
    let more = when_ok c.put_receiver.result (length c.put_receiver.new.receivers.entries ≡ length c.self.inside.receivers.entries + 1)
    (sym c.is_err.ensures.value ∙ c.if-is_err.false) c.put_receiver.ensures.more in
    let is = stepped-receiver (kept_of c.self.inside) c.self.invariant.0
    (Step.UpgradeReceiver c.args.of c.args.new)
    (Reply.Upgraded true) c.args.new c.put_receiver.new.receivers.entries absent change more
    (made-upgrade_receiver run c.args.of c.args.new opened) in
    let known : is_among c.args.of run.weak_receivers ≡ true = sym c.has.ensures ∙ c.if-not-has.false in
    let fresh = ap (λ (r : View g.row.T.Denot). is_among c.args.new r.receivers) c.self.view_is
    ∙ sym c.has_receiver.ensures ∙ c.if-has_receiver.false in
    let few = one_more c.self.inside.core.receivers
    (rw (← c.receiver_count.ensures) c.if-receiver_count-gt-HANDLE_LIMIT.false) in
    let counted : nat_lt handle_limit (length run.receivers) ≡ false =
    ap (λ count. nat_lt handle_limit count) (length-map c.self.inside.receivers.entries (λ e. e.0)
    ∙ sym c.self.invariant.0.count_receivers) ∙ few in
    let upgraded = upgraded-count c.self.inside.core.closed c.self.inside.core.receivers opened
    (rw (← c.receiver_count.ensures) c.if-receiver_count-gt-HANDLE_LIMIT.false) in
    let after = c.upgrade_receiver.ensures.after
    ∙ ap (λ count. record c.self.inside.core { receivers = count })
    (ap (λ answer. count_upgraded answer c.self.inside.core.receivers) c.upgrade_receiver.ensures.reply ∙ upgraded)
    in
    rw (← c.self.view_is, after)
    (StepsTo-made run _ (Step.UpgradeReceiver c.args.of c.args.new) _
    (not_refused run (Step.UpgradeReceiver c.args.of c.args.new) known fresh refl
    (ap (λ count. not run.closed && count) counted ∙ ap (λ closed. not closed && false) opened)) is.made)
