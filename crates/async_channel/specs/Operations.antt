-- What contracts see of handles and operations.
use Rattle.std.specs.Prelude.{◌≡◌, ⊤, ℕ, ◌-◌, Bool, List, drop, length, Option, Some, None, Result, Ok, Err}
use Rattle.std.specs.declared.alloc.Global.{Global}
use Rattle.std.specs.declared.collections.VecDeque.{VecDeque}
use Rattle.channel_core.specs.declared.errors.SendError.{SendError}
use Rattle.channel_core.specs.declared.errors.OutOfMemory.{OutOfMemory}
use Rattle.async_channel.specs.Tags.{TagView}

-- A sender or a weak handle: its tag, the name of the source that tasks wait for at its channel, and
-- how many messages that can hold, if there is a bound.
pub record HandleView : Type 0 where
  pub tag : TagView
  pub source : ℕ
  pub capacity : Option ℕ

-- A receiver: also the key of the entry by which its stream waits, if it does.
pub record ReceiverView : Type 0 where
  pub tag : TagView
  pub source : ℕ
  pub capacity : Option ℕ
  pub ticket : Option ℕ

-- a receiver whose stream doesn't wait, of the handle's channel
abbrev pub receiver_at : HandleView → ReceiverView
receiver_at handle = record {
  tag = handle.tag;
  source = handle.source;
  capacity = handle.capacity;
  ticket = None;
}

-- a receiver without its stream
abbrev pub handle_of : ReceiverView → HandleView
handle_of receiver = record {
  tag = receiver.tag;
  source = receiver.source;
  capacity = receiver.capacity;
}

-- Both ends of a channel have the number drawn, and the capacity asked for.
pub record AreEndsOf (sender : HandleView) (receiver : ReceiverView)
    (drawn asked : Option ℕ) : Type 0 where
  pub is_drawn : drawn ≡ Some sender.tag.stamp
  pub is_asked : sender.tag.capacity ≡ asked
  pub is_held : sender.capacity ≡ asked
  pub is_same : receiver ≡ receiver_at sender

-- A send: its message until it is finished, the name of the source that its task waits for, and
-- the key of the entry by which it waits, if it does.
pub record SendView (T : Type 0) : Type 0 where
  pub message : Option T
  pub source : ℕ
  pub ticket : Option ℕ

-- A receive or a closed operation: whether the last poll finished it, the name of the source that
-- its task waits for, and the key of the entry by which it waits, if it does.
pub record OperationView : Type 0 where
  pub finished : Bool
  pub source : ℕ
  pub ticket : Option ℕ

-- A send of many: the messages that haven't gone in, how many they were with those that have,
-- whether the last poll finished it, the name of the source that its task waits for, and the key of
-- the entry by which it waits, if it does.
pub record SendManyView (T : Type 0) : Type 0 where
  pub unsent : List T
  pub count : ℕ
  pub finished : Bool
  pub source : ℕ
  pub ticket : Option ℕ

-- A receive of many: what its list has, how many it takes at most, whether the last poll finished
-- it, the name of the source that its task waits for, and the key of the entry by which it waits,
-- if it does.
pub record RecvManyView (T : Type 0) : Type 0 where
  pub into : List T
  pub limit : ℕ
  pub finished : Bool
  pub source : ℕ
  pub ticket : Option ℕ

-- how many messages of a send of many went in
abbrev pub sent_count : {T : Type 0} → SendManyView T → ℕ
sent_count op = op.count - length op.unsent

-- what is left of some messages when so many of the first went in
abbrev pub IsLeftOf : {T : Type 0} → List T → List T → Type 0
IsLeftOf left messages = (sent : ℕ) × (left ≡ drop sent messages)

-- What a send of many may give: nothing, what is left of its messages in an error, or want of
-- memory.
abbrev pub MayGiveMany : {T : Type 0} → List T
    → Result (Result (Unit {0}) (SendError (VecDeque T Global))) OutOfMemory → Type 0
MayGiveMany messages (Err refusal) = ⊤
MayGiveMany messages (Ok (Ok sent)) = ⊤
MayGiveMany messages (Ok (Err error)) = IsLeftOf error.0.items messages

-- What a send may give: nothing, its own message in an error, or want of memory. A finished one
-- gives want of memory at most.
abbrev pub MayGive : {T : Type 0} → Option T
    → Result (Result (Unit {0}) (SendError T)) OutOfMemory → Type 0
MayGive message (Err refusal) = ⊤
MayGive (Some message) (Ok (Ok sent)) = ⊤
MayGive (Some message) (Ok (Err error)) = error.0 ≡ message
MayGive None (Ok answer) = ⊥

-- what may come from a receiver's stream: any items, and any answer after them
abbrev pub AnyItems : {T : Type 0} → List (Result T OutOfMemory)
    → Option (Result T OutOfMemory) → Type 0
AnyItems items last = ⊤
