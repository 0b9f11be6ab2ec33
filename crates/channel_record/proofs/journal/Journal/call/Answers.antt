use Rattle.std.proofs.Common.{◌++◌, ◌∷◌, [], length, ap, sym, refl, ◌∙◌}
use Rattle.channel_record.specs.Histories.{JournalView}
use Rattle.channel_record.proofs.Kept.{kept_more}
use Rattle.channel_record.proofs.journal.Journal.call.Goals as goal

pub invariant_of-self-2 : goal.invariant_of-self-2
invariant_of-self-2 g c =
    let items = c.push_reserved.ensures.items
    ∙ ap (λ h. h ++ (c.args.call, c.in_ok-outcome.outcome) ∷ []) c.reserve.ensures.items in
    rw items (kept_more _ c.self.inside.history.items _ _ c.args.call c.in_ok-outcome.outcome c.self.invariant
    c.in_ok-outcome.ensures.outcome c.in_ok-outcome.ensures.after)

pub returns-clause-place : goal.returns-clause-place
returns-clause-place g c =
    c.len-place.ensures ∙ c.reserve.new.self.ok.0 ∙ ap length c.reserve.ensures.items
    ∙ ap (λ (view : JournalView g.row.T.Denot). length view.history) c.self.view_is

pub returns-clause-recorded : goal.returns-clause-recorded
returns-clause-recorded g c =
    let items = c.push_reserved.ensures.items
    ∙ ap (λ h. h ++ (c.args.call, c.in_ok-outcome.outcome) ∷ []) c.reserve.ensures.items in
    rw (items, sym c.self.view_is) refl
