-- What a past decides, as one record. What a step answers, and what it is refused for, hangs on
-- this alone.
use Rattle.std.specs.Prelude.{◌≡◌, ℕ, List, Option, Bool, length}
use Rattle.channel_model.specs.declared.step.Kind.{Kind}
use Rattle.event_list.specs.Keys.{is_among}
use Rattle.channel_model.specs.Past.{Past}
use Rattle.channel_model.specs.Handles.{live_names, Receivers, Senders, WeakReceivers, WeakSenders}
use Rattle.channel_model.specs.Operations.{Operations, live_operations, operation_in}
use Rattle.channel_model.specs.Messages.{held_messages}
use Rattle.channel_model.specs.Capacity.{capacity_of}
use Rattle.channel_model.specs.Closing.{is_closed}
use Rattle.channel_model.specs.Rosters.{Rosters}
use Rattle.channel_model.specs.Notices.{rosters}

-- What a channel shows at one moment: how much it may hold, what it holds, whether it is closed,
-- which names are live, what each operation borrows and has still to send, and who waits.
pub record View (T : Type 0) : Type 0 where
  pub capacity : Option ℕ
  pub messages : List T
  pub closed : Bool
  pub senders : List ℕ
  pub receivers : List ℕ
  pub weak_senders : List ℕ
  pub weak_receivers : List ℕ
  pub operations : Operations T
  pub rosters : Rosters

-- what a channel of this kind shows after this past
abbrev pub view_of : {T : Type 0} → Kind → Past T → View T
view_of kind past = record {
  capacity = capacity_of kind;
  messages = held_messages past;
  closed = is_closed past;
  senders = live_names Senders past;
  receivers = live_names Receivers past;
  weak_senders = live_names WeakSenders past;
  weak_receivers = live_names WeakReceivers past;
  operations = live_operations past;
  rosters = rosters past;
}

-- ---- two views that show the same

-- As many, and each among both or neither. So where each stands once in one list it does in the
-- other.
pub record AreSameNames (names others : List ℕ) : Type 0 where
  pub count : length names ≡ length others
  pub each : (name : ℕ) → is_among name names ≡ is_among name others

-- As many, and each name has the same operation in both, or none.
pub record AreSameOperations {T : Type 0} (operations others : Operations T) : Type 0 where
  pub count : length operations ≡ length others
  pub each : (name : ℕ) → operation_in operations name ≡ operation_in others name

-- Both show the same, with names and operations in any order.
pub record AreAlike {T : Type 0} (view other : View T) : Type 0 where
  pub capacity : view.capacity ≡ other.capacity
  pub messages : view.messages ≡ other.messages
  pub closed : view.closed ≡ other.closed
  pub senders : AreSameNames view.senders other.senders
  pub receivers : AreSameNames view.receivers other.receivers
  pub weak_senders : AreSameNames view.weak_senders other.weak_senders
  pub weak_receivers : AreSameNames view.weak_receivers other.weak_receivers
  pub operations : AreSameOperations view.operations other.operations
  pub rosters : view.rosters ≡ other.rosters
