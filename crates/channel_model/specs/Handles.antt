-- Which handles are live: senders, receivers and weak ones, each kind with names of its own.
use Rattle.std.specs.Prelude.{ℕ, List, [], ◌∷◌, true, not, ◌==◌, filter}
use Rattle.channel_model.specs.declared.step.Step.{Step}
use Rattle.channel_model.specs.declared.step.Step.TheVariants.{CloneSender, CloneReceiver, CloneWeakSender, CloneWeakReceiver, DowngradeSender, DowngradeReceiver, UpgradeSender, UpgradeReceiver, DropSender, DropReceiver, DropWeakSender, DropWeakReceiver}
use Rattle.channel_model.specs.declared.step.Reply.{Reply}
use Rattle.channel_model.specs.declared.step.Reply.TheVariants.{Upgraded}
use Rattle.channel_model.specs.Past.{Past, made_by}

-- the names but this one
abbrev pub without : ℕ → List ℕ → List ℕ
without name names = filter (λ other. not (other == name)) names

-- The four spaces of handles' names. A name may be live in several of them at once.
pub data Space : Type 0 where
  Senders Receivers WeakSenders WeakReceivers : Space

-- What a step with this reply makes of the names that were live in a space before it: a copy is
-- live, a weak handle that was made of another, an upgrade if it was answered by a handle; and
-- who is given up is not.
abbrev pub names_after : {T : Type 0} → Space → Step T → Reply T → List ℕ → List ℕ
names_after Senders (CloneSender of new) reply names = new ∷ names
names_after Senders (UpgradeSender of new) (Upgraded true) names = new ∷ names
names_after Senders (DropSender name) reply names = without name names
names_after Receivers (CloneReceiver of new) reply names = new ∷ names
names_after Receivers (UpgradeReceiver of new) (Upgraded true) names = new ∷ names
names_after Receivers (DropReceiver name) reply names = without name names
names_after WeakSenders (CloneWeakSender of new) reply names = new ∷ names
names_after WeakSenders (DowngradeSender of new) reply names = new ∷ names
names_after WeakSenders (DropWeakSender name) reply names = without name names
names_after WeakReceivers (CloneWeakReceiver of new) reply names = new ∷ names
names_after WeakReceivers (DowngradeReceiver of new) reply names = new ∷ names
names_after WeakReceivers (DropWeakReceiver name) reply names = without name names
names_after space step reply names = names

-- A new channel has sender 0 and receiver 0.
abbrev pub first_names : Space → List ℕ
first_names Senders = 0 ∷ []
first_names Receivers = 0 ∷ []
first_names space = []

-- The names that are live after a past: those that were made and not given up since.
abbrev pub live_names : {T : Type 0} → Space → Past T → List ℕ
live_names space past = made_by (names_after space) (first_names space) past
