-- The history of a recorder, read as a past of its channel.
use Rattle.std.specs.Prelude.{◌≡◌, ℕ, List, map, reverse}
use Rattle.channel_model.specs.declared.step.Kind.{Kind}
use Rattle.channel_model.specs.declared.step.Side.TheVariants.{Sender}
use Rattle.channel_model.specs.declared.step.Step.{Step}
use Rattle.channel_model.specs.declared.step.Step.TheVariants.{TrySend, ForceSend, TryRecv, Close, IsClosed, Len}
use Rattle.channel_model.specs.declared.step.Reply.{Reply}
use Rattle.channel_model.specs.declared.step.Reply.TheVariants.{TrySent, Forced, Received, Flag, Count}
use Rattle.channel_model.specs.Past.{Past}
use Rattle.channel_model.specs.Messages.{held_messages}
use Rattle.channel_model.specs.Capacity.{capacity_of}
use Rattle.channel_model.specs.Closing.{is_closed}
use Rattle.channel_model.specs.Legal.{IsLegal}
use Rattle.channel_core.specs.Channel.{Channel}
use Rattle.channel_record.specs.declared.calls.Call.{Call}
use Rattle.channel_record.specs.declared.calls.Call.TheVariants.{TrySend, ForceSend, TryRecv, Close, IsClosed, Len}
use Rattle.channel_record.specs.declared.calls.Outcome.{Outcome}
use Rattle.channel_record.specs.declared.calls.Outcome.TheVariants.{TrySent, Forced, Received, Flag, Count}

-- A call is the step of the same name of sender 0, or of receiver 0. A recorded channel has these
-- two for good.
abbrev pub step_of_call : {T : Type 0} → Call T → Step T
step_of_call (TrySend message) = TrySend 0 message
step_of_call (ForceSend message) = ForceSend 0 message
step_of_call TryRecv = TryRecv 0
step_of_call Close = Close (Sender 0)
step_of_call IsClosed = IsClosed (Sender 0)
step_of_call Len = Len (Sender 0)

-- An outcome is the reply of the same name.
abbrev pub reply_of_outcome : {T : Type 0} → Outcome T → Reply T
reply_of_outcome (TrySent result) = TrySent result
reply_of_outcome (Forced result) = Forced result
reply_of_outcome (Received result) = Received result
reply_of_outcome (Flag answer) = Flag answer
reply_of_outcome (Count number) = Count number

-- a call with its outcome, as a step with its reply
abbrev pub pair_of : {T : Type 0} → Call T × Outcome T → Step T × Reply T
pair_of entry = (step_of_call entry.0, reply_of_outcome entry.1)

-- The past that a history tells. A history has the oldest call first, a past the newest.
abbrev pub past_of : {T : Type 0} → List (Call T × Outcome T) → Past T
past_of history = map pair_of (reverse history)

-- A channel of this kind could have this history: each outcome is the one that the calls before it
-- decide.
abbrev pub IsLegalHistory : {T : Type 0} → Kind → List (Call T × Outcome T) → Type 0
IsLegalHistory kind history = IsLegal kind (past_of history)

-- What a journal shows: the kind of its channel, its history, and how many clerks were made.
pub record JournalView (T : Type 0) : Type 0 where
  pub kind : Kind
  pub history : List (Call T × Outcome T)
  pub clerks : ℕ

-- The past is legal, and the channel is as it leaves it.
pub record IsKept {T W : Type 0} (kind : Kind) (past : Past T)
    (channel : Channel T W) : Type 0 where
  pub legal : IsLegal kind past
  pub capacity : channel.capacity ≡ capacity_of kind
  pub messages : channel.messages ≡ held_messages past
  pub closed : channel.closed ≡ is_closed past
