-- The parts of what holds after every past that can come about. `laws` promises each of them.
use Rattle.std.specs.Prelude.{◌≡◌, ◌<◌, ℕ, List, [], ◌∷◌, ◌++◌, Option, Some, None, Err, Bool, true, not, length, drop, if◌then◌else◌}
use Rattle.std.specs.Option.{ok_or}
use Rattle.futures.specs.declared.task.Poll.TheVariants.{Ready}
use Rattle.channel_core.specs.declared.errors.TrySendError.TheVariants.{Full, Closed}
use Rattle.channel_core.specs.declared.errors.TryRecvError.TheVariants.{Closed}
use Rattle.channel_model.specs.declared.step.Kind.{Kind}
use Rattle.channel_model.specs.declared.step.Step.{Step}
use Rattle.channel_model.specs.declared.step.Step.TheVariants.{TrySend, ForceSend, TryRecv, UpgradeSender, UpgradeReceiver, Poll, PollNext}
use Rattle.channel_model.specs.declared.step.Reply.{Reply}
use Rattle.channel_model.specs.declared.step.Reply.TheVariants.{TrySent, Forced, Received, Upgraded, SendPolled, RecvPolled, NextPolled}
use Rattle.event_list.specs.Keys.{is_among}
use Rattle.channel_model.specs.Past.{Past}
use Rattle.channel_model.specs.Handles.{live_names, Receivers, Senders}
use Rattle.channel_model.specs.Operations.{is_awaiting, is_receive, is_unsent, message_of, operation_of, receiving}
use Rattle.channel_model.specs.Messages.{accepted_messages, held_messages, oldest_message, taken_messages}
use Rattle.channel_model.specs.Closing.{is_closed}
use Rattle.channel_model.specs.Replies.{due_reply}
use Rattle.channel_model.specs.Rosters.{Rosters}
use Rattle.channel_model.specs.Notices.{rosters}

-- ---- who waits

-- Whoever waits is live, and in the roster of its kind: a send that has its message still, a
-- receive, a closed operation, or the stream of a receiver.
pub record AreLive {T : Type 0} (past : Past T) (all : Rosters) : Type 0 where
  pub sends : (name : ℕ) → is_among name all.sends.names ≡ true
      → is_unsent (operation_of past name) ≡ true
  pub receives : (name : ℕ) → is_among name all.receives.names ≡ true
      → is_receive (operation_of past name) ≡ true
  pub closeds : (name : ℕ) → is_among name all.closeds.names ≡ true
      → is_awaiting (operation_of past name) ≡ true
  pub streams : (name : ℕ) → is_among name all.streams.names ≡ true
      → is_among name (live_names Receivers past) ≡ true

-- No send waits beside a waiting receive or stream, and on a closed channel none of them waits.
pub record IsDone {T : Type 0} (past : Past T) : Type 0 where
  pub receives : 0 < length (rosters past).sends.names → (rosters past).receives.names ≡ []
  pub streams : 0 < length (rosters past).sends.names → (rosters past).streams.names ≡ []
  pub closed_sends : is_closed past ≡ true → (rosters past).sends.names ≡ []
  pub closed_receives : is_closed past ≡ true → (rosters past).receives.names ≡ []
  pub closed_streams : is_closed past ≡ true → (rosters past).streams.names ≡ []

-- ---- closed channels

-- the messages that were taken in the later pairs, in order
abbrev pub taken_since : {T : Type 0} → (past later : Past T) → List T
taken_since past later = drop (length (taken_messages past)) (taken_messages (later ++ past))

-- Behind these later pairs the channel is closed still, and has accepted nothing more. The messages
-- that were held are those taken since, followed by those that are left.
pub record StaysClosed {T : Type 0} (past later : Past T) : Type 0 where
  pub closed : is_closed (later ++ past) ≡ true
  pub accepted : accepted_messages (later ++ past) ≡ accepted_messages past
  pub left : held_messages past ≡ taken_since past later ++ held_messages (later ++ past)

-- Each way to receive gives the oldest message, and if none is left the error or the end: it is
-- never empty and never pending.
pub record GivesWhatIsLeft {T : Type 0} (kind : Kind) (past : Past T) : Type 0 where
  pub at_once : (receiver : ℕ)
      → due_reply kind past (TryRecv receiver) ≡ Received (ok_or (oldest_message past) Closed)
  pub polled : (op receiver : ℕ) → operation_of past op ≡ Some (receiving receiver)
      → due_reply kind past (Poll op) ≡ RecvPolled (Ready (ok_or (oldest_message past) (record {})))
  pub streamed : (receiver : ℕ)
      → due_reply kind past (PollNext receiver) ≡ NextPolled (Ready (oldest_message past))

-- ---- refused sends

-- the message that a step wants to send
abbrev pub sent_by : {T : Type 0} → Past T → Step T → Option T
sent_by past (TrySend sender message) = Some message
sent_by past (ForceSend sender message) = Some message
sent_by past (Poll op) = message_of past op
sent_by past step = None

-- the message that an error gives back
abbrev pub given_back : {T : Type 0} → Reply T → Option T
given_back (TrySent (Err (Full message))) = Some message
given_back (TrySent (Err (Closed message))) = Some message
given_back (Forced (Err error)) = Some error.0
given_back (SendPolled (Ready (Err error))) = Some error.0
given_back reply = None

-- The message is the one that was to be sent, and the channel holds what it held.
pub record ComesBack {T : Type 0} (past : Past T) (step : Step T) (reply : Reply T)
    (message : T) : Type 0 where
  pub same : sent_by past step ≡ Some message
  pub held : held_messages ((step, reply) ∷ past) ≡ held_messages past

-- ---- upgrades

-- the names, and this one among them if it was made
abbrev pub with_made : (is_made : Bool) → ℕ → List ℕ → List ℕ
with_made is_made name names = if is_made then name ∷ names else names

-- An upgrade makes its handle exactly on an open channel.
pub record UpgradesWhileOpen {T : Type 0} (past : Past T) (of new : ℕ)
    (reply : Reply T) : Type 0 where
  pub replied : reply ≡ Upgraded (not (is_closed past))
  pub senders : live_names Senders ((UpgradeSender of new, reply) ∷ past)
      ≡ with_made (not (is_closed past)) new (live_names Senders past)
  pub receivers : live_names Receivers ((UpgradeReceiver of new, reply) ∷ past)
      ≡ with_made (not (is_closed past)) new (live_names Receivers past)
