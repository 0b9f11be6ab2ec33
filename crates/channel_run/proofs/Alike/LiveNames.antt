-- The names in the live lists of a past that can come about.
use Rattle.std.proofs.Common.{◌≡◌, ℕ, List, [], ◌∷◌, Bool, true, false, not, ◌||◌, ◌==◌, cond, Some, Option, refl, sym, ◌∙◌, ap, subst, map}
use Rattle.std.specs.Prelude.{is_some}
use Rattle.futures.specs.declared.task.Poll.TheVariants.{Ready}
use Rattle.channel_model.specs.declared.step.Kind.{Kind}
use Rattle.channel_model.specs.declared.step.Step.TheVariants.{CloneSender, CloneReceiver, CloneWeakSender, CloneWeakReceiver, DowngradeSender, DowngradeReceiver, UpgradeSender, UpgradeReceiver, DropSender, DropReceiver, DropWeakSender, DropWeakReceiver, StartSend, StartRecv, StartClosed, Poll, DropOp}
use Rattle.channel_model.specs.declared.step.Reply.TheVariants.{Upgraded, SendPolled}
use Rattle.event_list.specs.Keys.{AreDifferent, is_among}
use Rattle.channel_model.specs.Past.{Past}
use Rattle.channel_model.specs.Handles.{live_names, Receivers, Senders, WeakReceivers, WeakSenders, without}
use Rattle.channel_model.specs.Operations.{Operation, finished, live_operations, with_finished, without_operation}
use Rattle.channel_model.specs.Legal.{IsLegal}
use Rattle.channel_model.proofs.NameLists.{AreDifferent-without}
use Rattle.channel_model.proofs.LookUps.{look_up, look_up-cons}
use Rattle.channel_model.specs.View.{view_of}
use Rattle.channel_model.proofs.AllowedSteps.{allowed}

-- each sender's name stands once
pub live_senders-AreDifferent : {T : Type 0} (kind : Kind) (past : Past T) → IsLegal kind past
    → AreDifferent (live_names Senders past)
live_senders-AreDifferent kind [] legal = (refl, tt)
live_senders-AreDifferent kind ((CloneSender of new, reply) ∷ past) legal =
    ((allowed (view_of kind past) (CloneSender of new) legal.2).fresh, live_senders-AreDifferent kind past legal.0)
live_senders-AreDifferent kind ((UpgradeSender of new, Upgraded true) ∷ past) legal =
    ((allowed (view_of kind past) (UpgradeSender of new) legal.2).fresh, live_senders-AreDifferent kind past legal.0)
live_senders-AreDifferent kind ((DropSender name, reply) ∷ past) legal =
    AreDifferent-without name (live_names Senders past) (live_senders-AreDifferent kind past legal.0)
live_senders-AreDifferent kind ((step, reply) ∷ past) legal = live_senders-AreDifferent kind past legal.0

pub live_receivers-AreDifferent : {T : Type 0} (kind : Kind) (past : Past T) → IsLegal kind past
    → AreDifferent (live_names Receivers past)
live_receivers-AreDifferent kind [] legal = (refl, tt)
live_receivers-AreDifferent kind ((CloneReceiver of new, reply) ∷ past) legal =
    ((allowed (view_of kind past) (CloneReceiver of new) legal.2).fresh, live_receivers-AreDifferent kind past legal.0)
live_receivers-AreDifferent kind ((UpgradeReceiver of new, Upgraded true) ∷ past) legal = (
  (allowed (view_of kind past)
      (UpgradeReceiver of new) legal.2).fresh,
  live_receivers-AreDifferent kind past legal.0,
)
live_receivers-AreDifferent kind ((DropReceiver name, reply) ∷ past) legal =
    AreDifferent-without name (live_names Receivers past) (live_receivers-AreDifferent kind past legal.0)
live_receivers-AreDifferent kind ((step, reply) ∷ past) legal = live_receivers-AreDifferent kind past legal.0

pub live_weak_senders-AreDifferent : {T : Type 0} (kind : Kind) (past : Past T) → IsLegal kind past
    → AreDifferent (live_names WeakSenders past)
live_weak_senders-AreDifferent kind [] legal = tt
live_weak_senders-AreDifferent kind ((CloneWeakSender of new, reply) ∷ past) legal = (
  (allowed (view_of kind past)
      (CloneWeakSender of new) legal.2).fresh,
  live_weak_senders-AreDifferent kind past legal.0,
)
live_weak_senders-AreDifferent kind ((DowngradeSender of new, reply) ∷ past) legal = (
  (allowed (view_of kind past)
      (DowngradeSender of new) legal.2).fresh,
  live_weak_senders-AreDifferent kind past legal.0,
)
live_weak_senders-AreDifferent kind ((DropWeakSender name, reply) ∷ past) legal =
    AreDifferent-without name (live_names WeakSenders past) (live_weak_senders-AreDifferent kind past legal.0)
live_weak_senders-AreDifferent kind ((step, reply) ∷ past) legal = live_weak_senders-AreDifferent kind past legal.0

pub live_weak_receivers-AreDifferent : {T : Type 0} (kind : Kind) (past : Past T)
    → IsLegal kind past
    → AreDifferent (live_names WeakReceivers past)
live_weak_receivers-AreDifferent kind [] legal = tt
live_weak_receivers-AreDifferent kind ((CloneWeakReceiver of new, reply) ∷ past) legal = (
  (allowed (view_of kind past)
      (CloneWeakReceiver of new) legal.2).fresh,
  live_weak_receivers-AreDifferent kind past legal.0,
)
live_weak_receivers-AreDifferent kind ((DowngradeReceiver of new, reply) ∷ past) legal = (
  (allowed (view_of kind past)
      (DowngradeReceiver of new) legal.2).fresh,
  live_weak_receivers-AreDifferent kind past legal.0,
)
live_weak_receivers-AreDifferent kind ((DropWeakReceiver name, reply) ∷ past) legal =
    AreDifferent-without name (live_names WeakReceivers past) (live_weak_receivers-AreDifferent kind past legal.0)
live_weak_receivers-AreDifferent kind ((step, reply) ∷ past) legal = live_weak_receivers-AreDifferent kind past legal.0

-- ---- operations

-- their names
abbrev pub names_of : {T : Type 0} → List (ℕ × Operation T) → List ℕ
names_of operations = map (λ entry. entry.0) operations

-- a name has an operation exactly if it is among the names
pub is_some-look_up : {T : Type 0} (name : ℕ) (operations : List (ℕ × Operation T))
    → is_some (look_up name operations) ≡ is_among name (names_of operations)
is_some-look_up name [] = refl
is_some-look_up {T} name (entry ∷ operations) =
    ap (λ (found : Option (Operation T)). is_some found) (look_up-cons name entry operations)
    ∙ go (entry.0 == name) (is_some-look_up name operations)
  where
    go : (here : Bool) → is_some (look_up name operations) ≡ is_among name (names_of operations)
        → is_some (cond here (Some entry.1) (look_up name operations)) ≡ (here || is_among name (names_of operations))
    go true rest = refl
    go false rest = rest

pub names_of-with_finished : {T : Type 0} (op : ℕ) (operations : List (ℕ × Operation T))
    → names_of (with_finished op operations) ≡ names_of operations
names_of-with_finished op [] = refl
names_of-with_finished {T} op (entry ∷ operations) = go (entry.0 == op) (names_of-with_finished op operations)
  where
    go : (here : Bool) → names_of (with_finished op operations) ≡ names_of operations
        → names_of (cond here (entry.0, finished entry.1) entry ∷ with_finished op operations) ≡ entry.0
        ∷ names_of operations
    go true rest = ap (λ names. entry.0 ∷ names) rest
    go false rest = ap (λ names. entry.0 ∷ names) rest

pub names_of-without_operation : {T : Type 0} (op : ℕ) (operations : List (ℕ × Operation T))
    → names_of (without_operation op operations) ≡ without op (names_of operations)
names_of-without_operation op [] = refl
names_of-without_operation {T} op (entry ∷ operations) = go (entry.0 == op) (names_of-without_operation op operations)
  where
    go : (here : Bool)
        → names_of (without_operation op operations) ≡ without op (names_of operations)
        → names_of (cond (not here) (entry ∷ without_operation op operations) (without_operation op operations))
        ≡ cond (not here) (entry.0 ∷ without op (names_of operations)) (without op (names_of operations))
    go true rest = rest
    go false rest = ap (λ names. entry.0 ∷ names) rest

-- a name that has no operation isn't among the names
pub fresh_name : {T : Type 0} (past : Past T) (op : ℕ)
    → is_some (look_up op (live_operations past)) ≡ false
    → is_among op (names_of (live_operations past)) ≡ false
fresh_name past op fresh = sym (is_some-look_up op (live_operations past)) ∙ fresh

pub live_operations-AreDifferent : {T : Type 0} (kind : Kind) (past : Past T) → IsLegal kind past
    → AreDifferent (names_of (live_operations past))
live_operations-AreDifferent kind [] legal = tt
live_operations-AreDifferent kind ((StartSend op sender message, reply) ∷ past) legal = (
  fresh_name past op (allowed (view_of kind past) (StartSend op sender message) legal.2).fresh,
  live_operations-AreDifferent kind
      past legal.0,
)
live_operations-AreDifferent kind ((StartRecv op receiver, reply) ∷ past) legal = (
  fresh_name past op (allowed (view_of kind past) (StartRecv op receiver) legal.2).fresh,
  live_operations-AreDifferent kind past
      legal.0,
)
live_operations-AreDifferent kind ((StartClosed op sender, reply) ∷ past) legal = (
  fresh_name past op (allowed (view_of kind past) (StartClosed op sender) legal.2).fresh,
  live_operations-AreDifferent kind past
      legal.0,
)
live_operations-AreDifferent kind ((Poll op, SendPolled (Ready result)) ∷ past) legal =
    subst (λ names. AreDifferent names) (sym (names_of-with_finished op (live_operations past)))
    (live_operations-AreDifferent kind past legal.0)
live_operations-AreDifferent kind ((DropOp op, reply) ∷ past) legal =
    subst (λ names. AreDifferent names) (sym (names_of-without_operation op (live_operations past)))
    (AreDifferent-without op (names_of (live_operations past)) (live_operations-AreDifferent kind past legal.0))
live_operations-AreDifferent kind ((step, reply) ∷ past) legal = live_operations-AreDifferent kind past legal.0
