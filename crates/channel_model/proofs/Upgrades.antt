-- Upgrades, closings, and the limit of what is held.
use Rattle.std.proofs.Common.{◌≡◌, ℕ, ◌≤◌, ◌∷◌, Bool, true, false, not, ◌||◌, refl, ◌∙◌, ap, length}
use Rattle.channel_model.specs.declared.step.Kind.TheVariants.{Bounded}
use Rattle.channel_model.specs.declared.step.Side.{Side}
use Rattle.channel_model.specs.declared.step.Step.TheVariants.{Close, UpgradeSender, UpgradeReceiver}
use Rattle.channel_model.specs.declared.step.Reply.{Reply}
use Rattle.channel_model.specs.declared.step.Reply.TheVariants.{Upgraded}
use Rattle.channel_model.specs.Past.{Past}
use Rattle.channel_model.specs.Handles.{live_names, Senders, Receivers}
use Rattle.channel_model.specs.Messages.{held_messages}
use Rattle.channel_model.specs.Closing.{is_closed, has_none}
use Rattle.channel_model.specs.Legal.{IsLegal}
use Rattle.channel_core.specs.Covered.{IsCovered}
use Rattle.channel_model.specs.Standing.{standing_of}
use Rattle.channel_model.specs.Laws.{with_made, UpgradesWhileOpen}
use Rattle.channel_model.proofs.CoveredPasts.{IsCovered-IsLegal}

senders-made : {T : Type 0} (past : Past T) (of new : ℕ) (granted : Bool)
    → live_names Senders ((UpgradeSender of new, Upgraded granted) ∷ past) ≡ with_made granted new (live_names Senders past)
senders-made past of new true = refl
senders-made past of new false = refl

receivers-made : {T : Type 0} (past : Past T) (of new : ℕ) (granted : Bool)
    → live_names Receivers ((UpgradeReceiver of new, Upgraded granted) ∷ past) ≡ with_made granted new (live_names Receivers past)
receivers-made past of new true = refl
receivers-made past of new false = refl

pub UpgradesWhileOpen-replied : {T : Type 0} (past : Past T) (of new : ℕ) (reply : Reply T)
    → reply ≡ Upgraded (not (is_closed past)) → UpgradesWhileOpen past of new reply
UpgradesWhileOpen-replied {T} past of new reply replied = record {
  replied = replied;
  senders = ap (λ (r : Reply T). live_names Senders ((UpgradeSender of new, r) ∷ past)) replied
      ∙ senders-made past of new (not (is_closed past));
  receivers = ap (λ (r : Reply T). live_names Receivers ((UpgradeReceiver of new, r) ∷ past)) replied
      ∙ receivers-made past of new (not (is_closed past));
}

by_hand : (before no_sender no_receiver : Bool) → (((before || true) || no_sender) || no_receiver) ≡ true
by_hand true no_sender no_receiver = refl
by_hand false no_sender no_receiver = refl

pub is_closed-Close : {T : Type 0} (past : Past T) (side : Side) (reply : Reply T)
    → is_closed ((Close side, reply) ∷ past) ≡ true
is_closed-Close past side reply = by_hand (is_closed past) (has_none (live_names Senders past))
    (has_none (live_names Receivers past))

pub within-IsLegal : {T : Type 0} (capacity : ℕ) (past : Past T) → IsLegal (Bounded capacity) past
    → length (held_messages past) ≤ capacity
within-IsLegal capacity past legal = let covered : IsCovered (standing_of (Bounded capacity) past) =
    IsCovered-IsLegal (Bounded capacity) past legal in covered.within capacity refl
