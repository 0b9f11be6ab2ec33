-- What a clause says of a channel's passes and of its answers.
use Rattle.std.specs.Prelude.{◌≡◌, ◌⊎◌, ⊤, ℕ, Option, Some, Result, Ok, Err}
use Rattle.channel_core.specs.Channel.{Channel}
use Rattle.channel_core.specs.declared.errors.TrySendError.{TrySendError}
use Rattle.channel_core.specs.declared.errors.TrySendError.TheVariants.{Full, Closed}
use Rattle.channel_core.specs.declared.errors.TryRecvError.{TryRecvError}
use Rattle.channel_core.specs.declared.errors.TryRecvError.TheVariants.{Empty, Closed}
use Rattle.ruled_mutex.specs.declared.pass.Held.{Held}
use Rattle.ruled_mutex.specs.Passes.{Holds as HoldsMutex, IsPassOf as IsMutexPass, IsSamePass as IsSameMutexPass, key_of as key_of_mutex, number as number_in_mutex, view as view_in_mutex}
use Rattle.ruled_channel.specs.declared.channel.RuledChannel.{RuledChannel}
use Rattle.ruled_channel.specs.declared.mark.Mark.{Mark}
use Rattle.ruled_channel.specs.declared.pass.Pass.{Pass}
use Rattle.ruled_channel.specs.State.{State, IsClosed, IsEmpty, IsFull, IsUnbounded}
use Rattle.ruled_channel.specs.Steps.{found}

module _ {T V P K : Type 0} where
  -- what it was made with
  abbrev pub key_of : RuledChannel T V P K → K
  key_of channel = (key_of_mutex channel.mutex).caller.value

  -- how many messages it can hold, if there is a bound
  abbrev pub capacity_of : RuledChannel T V P K → Option ℕ
  capacity_of channel = channel.capacity

  -- the name of the source that its tasks wait for
  abbrev pub source_of : RuledChannel T V P K → ℕ
  source_of channel = channel.source.id

  -- it is a pass of this channel, and does not hold its lock
  abbrev pub IsFree : RuledChannel T V P K → Pass T V → Type 0
  IsFree channel pass = IsMutexPass channel.mutex pass.lock

  -- it knows the channel's capacity
  abbrev pub KnowsCapacity : RuledChannel T V P K → Pass T V → Type 0
  KnowsCapacity channel pass = (view_in_mutex pass.lock).capacity ≡ Some channel.capacity

  -- it is one that knows the capacity, which is that of the channel that its last step found
  abbrev pub IsPassOf : RuledChannel T V P K → Pass T V → Type 0
  IsPassOf channel pass =
      IsFree channel pass × KnowsCapacity channel pass
      × ((found pass).capacity ≡ channel.capacity)

  -- it is a pass of this channel that holds its lock
  abbrev pub Holds : RuledChannel T V P K → Held (Channel T Mark) → Pass T V → Type 0
  Holds channel held pass = HoldsMutex channel.mutex held pass.lock × KnowsCapacity channel pass

module _ {T V : Type 0} where
  -- what the pass knows
  abbrev pub view : Pass T V → V
  view pass = (view_in_mutex pass.lock).view

  -- the place of its view among the views of all passes
  abbrev pub number : Pass T V → ℕ
  number pass = number_in_mutex pass.lock

  -- it is a pass of the same channel, with the same number
  abbrev pub IsSamePass : Pass T V → Pass T V → Type 0
  IsSamePass old new = IsSameMutexPass old.lock new.lock

-- at one moment the channel was such, and something was learned of it
abbrev pub LearnedOf : {T : Type 0} → (State T → Type 0) → (State T → Type 0) → Type 0
LearnedOf {T} WasSuch fact = (state : State T) × WasSuch state × fact state

-- Why a send was refused, and what was learned at that moment: the channel was full and open, or it
-- was closed.
abbrev pub Refuses : {T A : Type 0} → (State T → Type 0) → TrySendError A → Type 0
Refuses fact (Full m) = LearnedOf IsFull fact
Refuses fact (Closed m) = LearnedOf IsClosed fact

-- Why a receive got no message. Of a channel that is empty and open something is learned; one that
-- is empty and closed may turn the view.
abbrev pub FindsNone : {T V : Type 0} → (V → V → Type 0) → (State T → Type 0) → V → V
    → TryRecvError → Type 0
FindsNone then fact v w Empty = (w ≡ v) × LearnedOf IsEmpty fact
FindsNone then fact v w Closed = then v w

-- Why a send wanted memory: for its message, in an open channel without a capacity, or to wait, at a
-- full and open one.
abbrev pub WantsToSend : {T : Type 0} → (State T → Type 0) → Type 0
WantsToSend fact = LearnedOf IsUnbounded fact ⊎ LearnedOf IsFull fact

-- a fact, if the channel was full
abbrev pub IfFull : {T : Type 0} → TrySendError T → Type 0 → Type 0
IfFull (Full m) Fact = Fact
IfFull (Closed m) Fact = ⊤

-- a fact, unless it was
abbrev pub UnlessFull : {T : Type 0} → Result (Unit {0}) (TrySendError T) → Type 0 → Type 0
UnlessFull (Ok sent) Fact = Fact
UnlessFull (Err (Full m)) Fact = ⊤
UnlessFull (Err (Closed m)) Fact = Fact
