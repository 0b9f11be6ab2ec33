-- What each call of a waiting list answers and leaves. A counted call does what that of the plain
-- name does.
use Rattle.std.specs.Prelude.{◌≡◌, ◌<◌, ◌↔◌, ℕ, Bool, IsTrue, false, length, take, Option, is_some, IfNone, Result, is_ok, IfOk, IfErr, OnOk, OnErr}
use Rattle.std.specs.Bool.{OnTrue, OnFalse}
use Rattle.std.specs.Option.{option_map, option_and_then}
use Rattle.event_list.specs.Keys.{is_among}
use Rattle.event_list.specs.Waiting.{Waiting, LosesOne, IsWaiting, keys, payloads, is_told, payload_of, told_flag, payload_in, joined, without, renewed, told_one, told_all, cancelled, rung_by_cancelling, RingsEach}
use Rattle.event_list.specs.declared.entries.EntryState.{EntryState}
use Rattle.event_list.specs.declared.list.NoRoom.{NoRoom}

module _ {W : Type 0} where
  -- This is the key's entry, or nothing if it isn't in the list.
  pub record IsEntryAt (list : Waiting W) (key : ℕ) (entry : Option (EntryState W)) : Type 0 where
    pub was_told : option_map is_told entry ≡ told_flag list key
    pub payload : option_and_then payload_of entry ≡ payload_in key list.untold

  -- A new entry goes last, untold, under a key that isn't in the list, or its payload comes back.
  pub record Listens (list : Waiting W) (payload : W) (result : Result ℕ (NoRoom W))
      (list' : Waiting W) : Type 0 where
    pub fresh : IfOk result (λ key. is_among key (keys list) ≡ false)
    pub after : IfOk result (λ key. list' ≡ joined list key payload)
    pub waits : IfOk result (λ key. IsWaiting list' key payload)
    pub handed_back : IfErr result (λ error. error.0 ≡ payload)
    pub unchanged : OnErr result (list' ≡ list)

  -- The key's entry waits again with this payload, if it is in the list.
  pub record WaitsAgain (list : Waiting W) (key : ℕ) (payload : W) (result : Bool)
      (list' : Waiting W) : Type 0 where
    pub found : result ≡ is_some (told_flag list key)
    pub after : list' ≡ renewed list key payload
    pub waits : OnTrue result (IsWaiting list' key payload)
    pub unchanged : OnFalse result (list' ≡ list)

  -- It does so, and the payload that it had comes back, or this one if it isn't in the list.
  pub record Renews (list : Waiting W) (key : ℕ) (payload : W) (result : Result (Option W) W)
      (list' : Waiting W) : Type 0 where
    pub found : is_ok result ≡ is_some (told_flag list key)
    pub replaced : IfOk result (λ had. had ≡ payload_in key list.untold)
    pub handed_back : IfErr result (λ back. back ≡ payload)
    pub after : list' ≡ renewed list key payload
    pub waits : OnOk result (IsWaiting list' key payload)
    pub unchanged : OnErr result (list' ≡ list)

  -- The key's entry leaves, if it is in the list. The answer is whether it was told.
  pub record Removes (list : Waiting W) (key : ℕ) (result : Option Bool) (list' : Waiting W)
      : Type 0 where
    pub was_told : result ≡ told_flag list key
    pub after : list' ≡ without list key
    pub unchanged : IfNone result (list' ≡ list)

  -- It does so, and is the answer.
  pub record Unregisters (list : Waiting W) (key : ℕ) (result : Option (EntryState W))
      (list' : Waiting W) : Type 0 where
    pub was_told : option_map is_told result ≡ told_flag list key
    pub payload : option_and_then payload_of result ≡ payload_in key list.untold
    pub after : list' ≡ without list key
    pub unchanged : IfNone result (list' ≡ list)
    pub sizes : LosesOne list key

module _ {B W : Type 0} where
  -- The longest waiting untold entry is told, if there is one.
  pub record TellsOne (rings : B → W → B → Type 0) (list : Waiting W) (bell : B) (result : Bool)
      (list' : Waiting W) (bell' : B) : Type 0 where
    pub told : IsTrue result ↔ (0 < length (payloads list))
    pub after : list' ≡ told_one list
    pub rung : RingsEach rings bell (take 1 (payloads list)) bell'

  -- Every entry is told. The answer is how many were untold.
  pub record TellsAll (rings : B → W → B → Type 0) (list : Waiting W) (bell : B) (result : ℕ)
      (list' : Waiting W) (bell' : B) : Type 0 where
    pub told : result ≡ length (payloads list)
    pub after : list' ≡ told_all list
    pub rung : RingsEach rings bell (payloads list) bell'

  -- The key's entry leaves, and if it was told, one is told in its place.
  pub record Cancels (rings : B → W → B → Type 0) (list : Waiting W) (key : ℕ) (bell : B)
      (list' : Waiting W) (bell' : B) : Type 0 where
    pub after : list' ≡ cancelled list key
    pub rung : RingsEach rings bell (rung_by_cancelling list key) bell'

  -- It does so, and the answer is the payload of one that was untold.
  pub record Withdraws (rings : B → W → B → Type 0) (list : Waiting W) (key : ℕ) (bell : B)
      (result : Option W) (list' : Waiting W) (bell' : B) : Type 0 where
    pub payload : result ≡ payload_in key list.untold
    pub after : list' ≡ cancelled list key
    pub rung : RingsEach rings bell (rung_by_cancelling list key) bell'
    pub sizes : LosesOne list key
