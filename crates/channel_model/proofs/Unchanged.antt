-- A step that closes nothing and leaves the handles as they are leaves the channel open or closed, and tells nobody of
-- it.
use Rattle.std.proofs.Common.{◌≡◌, ℕ, ◌<◌, List, [], ◌∷◌, Bool, true, false, ◌||◌, refl, ◌∙◌, ap, length, arith}
use Rattle.channel_model.specs.declared.step.Kind.{Kind}
use Rattle.channel_model.specs.declared.step.Step.{Step}
use Rattle.channel_model.specs.declared.step.Reply.{Reply}
use Rattle.channel_model.specs.Past.{Past}
use Rattle.channel_model.specs.Handles.{live_names, Receivers, Senders}
use Rattle.channel_model.specs.Messages.{accepted_by, received_by}
use Rattle.channel_model.specs.Closing.{has_none, is_close, is_closed}
use Rattle.channel_model.specs.Rosters.{Rosters}
use Rattle.channel_model.specs.Notices.{after_accepting, after_closing, after_last_receiver, after_own_move, after_receiving, rosters}
use Rattle.channel_core.specs.Covered.{IsCovered}
use Rattle.channel_model.specs.Standing.{standing_of}
use Rattle.channel_model.specs.Operations.{live_operations}

kept : (before close : Bool) (senders receivers : List ℕ) → close ≡ false → (before ≡ false → 0 < length senders)
    → (before ≡ false → 0 < length receivers) → (((before || close) || has_none senders) || has_none receivers) ≡ before
kept true close senders receivers e some more = refl
kept false true senders receivers e some more = cc
kept false false (s ∷ senders) (r ∷ receivers) e some more = refl
kept false false [] receivers e some more = let one : 0 < 0 = some refl in absurd (omega arith)
kept false false (s ∷ senders) [] e some more = let one : 0 < 0 = more refl in absurd (omega arith)

pub is_closed-kept : {T : Type 0} (kind : Kind) (past : Past T) (step : Step T) (reply : Reply T)
    → IsCovered (standing_of kind past) → is_close step ≡ false
    → live_names Senders ((step, reply) ∷ past) ≡ live_names Senders past
    → live_names Receivers ((step, reply) ∷ past) ≡ live_names Receivers past
    → is_closed ((step, reply) ∷ past) ≡ is_closed past
is_closed-kept kind past step reply covered open_still same_senders same_receivers =
    ap (λ (names : List ℕ). ((is_closed past || is_close step) || has_none names)
    || has_none (live_names Receivers ((step, reply) ∷ past))) same_senders
    ∙ ap (λ (names : List ℕ). ((is_closed past || is_close step) || has_none (live_names Senders past)) || has_none names)
    same_receivers
    ∙ kept (is_closed past) (is_close step) (live_names Senders past)
    (live_names Receivers past) open_still covered.open_senders covered.open_receivers

pub after_closing-kept : (before now : Bool) (all : Rosters) → now ≡ before → after_closing before now all ≡ all
after_closing-kept true now all e = refl
after_closing-kept false false all e = refl
after_closing-kept false true all e = cc

pub after_last_receiver-kept : (before now : Bool) (all : Rosters) → now ≡ before
    → after_last_receiver before now all ≡ all
after_last_receiver-kept true now all e = refl
after_last_receiver-kept false false all e = refl
after_last_receiver-kept false true all e = cc

-- the rosters then change by the step's own move and its message alone
pub rosters-kept : {T : Type 0} (kind : Kind) (past : Past T) (step : Step T) (reply : Reply T)
    → IsCovered (standing_of kind past) → is_close step ≡ false
    → live_names Senders ((step, reply) ∷ past) ≡ live_names Senders past
    → live_names Receivers ((step, reply) ∷ past) ≡ live_names Receivers past
    → rosters ((step, reply) ∷ past) ≡ after_receiving (received_by reply)
    (after_accepting (accepted_by (live_operations past) step reply) (after_own_move (live_operations past) step reply (rosters past)))
rosters-kept kind past step reply covered open_still same_senders same_receivers =
    after_last_receiver-kept (has_none (live_names Receivers past)) (has_none (live_names Receivers ((step, reply) ∷ past))) _
    (ap (λ (names : List ℕ). has_none names) same_receivers)
    ∙ after_closing-kept (is_closed past) (is_closed ((step, reply) ∷ past)) _
    (is_closed-kept kind past step reply covered open_still same_senders same_receivers)
