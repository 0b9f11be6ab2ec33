-- What the errors say: their messages, their cases and their texts.
use Rattle.std.specs.Prelude.{ℕ, List, codes, Bool, true, false}
use Rattle.channel_core.specs.declared.errors.TrySendError.{TrySendError}
use Rattle.channel_core.specs.declared.errors.TrySendError.TheVariants.{Full, Closed}
use Rattle.channel_core.specs.declared.errors.TryRecvError.{TryRecvError}
use Rattle.channel_core.specs.declared.errors.TryRecvError.TheVariants.{Empty, Closed}
use Rattle.channel_core.specs.declared.errors.MakeError.{MakeError}
use Rattle.channel_core.specs.declared.errors.MakeError.TheVariants.{OutOfMemory, NoStamps}
use Rattle.channel_core.specs.declared.errors.CloneError.{CloneError}
use Rattle.channel_core.specs.declared.errors.CloneError.TheVariants.{TooMany, OutOfMemory}

module _ {T : Type 0} where
  -- the message that came back
  abbrev pub message_of : TrySendError T → T
  message_of (Full message) = message
  message_of (Closed message) = message

  -- whether the channel was full
  abbrev pub was_full : TrySendError T → Bool
  was_full (Full message) = true
  was_full (Closed message) = false

  -- whether the channel was closed
  abbrev pub was_closed : TrySendError T → Bool
  was_closed (Full message) = false
  was_closed (Closed message) = true

  -- what `Display` writes of a send that was not made
  abbrev pub try_send_text : TrySendError T → List ℕ
  try_send_text (Full message) = codes "sending into a full channel"
  try_send_text (Closed message) = codes "sending into a closed channel"

  -- what `Debug` writes of it, without its message
  abbrev pub try_send_debug : TrySendError T → List ℕ
  try_send_debug (Full message) = codes "Full(..)"
  try_send_debug (Closed message) = codes "Closed(..)"

-- whether the channel was empty and open
abbrev pub was_empty : TryRecvError → Bool
was_empty Empty = true
was_empty Closed = false

-- whether the channel was empty and closed
abbrev pub was_ended : TryRecvError → Bool
was_ended Empty = false
was_ended Closed = true

-- what `Display` writes of a receive that got nothing
abbrev pub try_recv_text : TryRecvError → List ℕ
try_recv_text Empty = codes "receiving from an empty channel"
try_recv_text Closed = codes "receiving from an empty and closed channel"

-- what `Debug` writes of it
abbrev pub try_recv_debug : TryRecvError → List ℕ
try_recv_debug Empty = codes "Empty"
try_recv_debug Closed = codes "Closed"

-- what `Display` writes of a channel that was not made
abbrev pub make_text : MakeError → List ℕ
make_text OutOfMemory = codes "out of memory"
make_text NoStamps = codes "no stamp is left"

-- what `Debug` writes of it
abbrev pub make_debug : MakeError → List ℕ
make_debug OutOfMemory = codes "OutOfMemory"
make_debug NoStamps = codes "NoStamps"

-- what `Display` writes of a handle that was not copied
abbrev pub clone_text : CloneError → List ℕ
clone_text TooMany = codes "too many handles"
clone_text OutOfMemory = codes "out of memory"

-- what `Debug` writes of it
abbrev pub clone_debug : CloneError → List ℕ
clone_debug TooMany = codes "TooMany"
clone_debug OutOfMemory = codes "OutOfMemory"
