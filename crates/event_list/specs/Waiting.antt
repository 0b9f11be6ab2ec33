-- What a contract sees of a waiting list, and what each call makes of it.
use Rattle.std.specs.Prelude.{◌≡◌, ℕ, ◌+◌, ◌==◌, Bool, true, false, not, if◌then◌else◌, List, [], ◌∷◌, ◌++◌, map, filter, length, take, Option, Some, None}
use Rattle.event_list.specs.Keys.{is_among}
use Rattle.event_list.specs.declared.entries.EntryState.{EntryState}
use Rattle.event_list.specs.declared.entries.EntryState.TheVariants.{Told, Untold}

-- Those who wait, in order of arrival: first the told ones, by their keys, and then the untold
-- ones, each with its payload.
pub record Waiting (W : Type 0) : Type 0 where
  pub told : List ℕ
  pub untold : List (ℕ × W)

module _ {W : Type 0} where
  -- nobody waits
  abbrev pub nobody : Waiting W
  nobody = record { told = []; untold = [] }

  -- the keys of the untold ones, in order of arrival
  abbrev pub untold_keys : Waiting W → List ℕ
  untold_keys list = map (λ entry. entry.0) list.untold

  -- all keys, in order of arrival
  abbrev pub keys : Waiting W → List ℕ
  keys list = list.told ++ untold_keys list

  -- how many are told, from the front of the list
  abbrev pub told_count : Waiting W → ℕ
  told_count list = length list.told

  -- how many are untold
  abbrev pub untold_count : Waiting W → ℕ
  untold_count list = length list.untold

  -- the payloads of the untold ones, in order of arrival
  abbrev pub payloads : Waiting W → List W
  payloads list = map (λ entry. entry.1) list.untold

  -- whether the key is told, or nothing if it isn't in the list
  abbrev pub told_flag : Waiting W → ℕ → Option Bool
  told_flag list key =
      if is_among key list.told then Some true
      else if is_among key (untold_keys list) then Some false else None

  -- the payload of an untold key
  abbrev pub payload_in : ℕ → List (ℕ × W) → Option W
  payload_in key [] = None
  payload_in key (entry ∷ rest) = if entry.0 == key then Some entry.1 else payload_in key rest

  -- whether an entry that left is told
  abbrev pub is_told : EntryState W → Bool
  is_told Told = true
  is_told (Untold payload) = false

  -- the payload of one that is untold
  abbrev pub payload_of : EntryState W → Option W
  payload_of Told = None
  payload_of (Untold payload) = Some payload

  -- the key is in the list, untold, with this payload
  pub record IsWaiting (list : Waiting W) (key : ℕ) (payload : W) : Type 0 where
    pub is_untold : told_flag list key ≡ Some false
    pub holds : payload_in key list.untold ≡ Some payload

  -- a new entry goes last, untold
  abbrev pub joined : Waiting W → ℕ → W → Waiting W
  joined list key payload = record list { untold = list.untold ++ (key, payload) ∷ [] }

  -- the key's entry leaves
  abbrev pub without : Waiting W → ℕ → Waiting W
  without list key = record {
    told = filter (λ other. not (other == key)) list.told;
    untold = filter (λ entry. not (entry.0 == key)) list.untold;
  }

  -- With the key's entry one told or one untold leaves, and nobody if the key isn't in the list.
  abbrev pub LosesOne : Waiting W → ℕ → Type 0
  LosesOne list key =
      (told_count (without list key) + (if is_among key list.told then 1 else 0) ≡ told_count list)
      × (untold_count (without list key) + (if is_among key (untold_keys list) then 1 else 0)
      ≡ untold_count list)

  -- the key's entry keeps its place, with another payload
  abbrev pub repaid : Waiting W → ℕ → W → Waiting W
  repaid list key payload = record list {
    untold = map (λ entry. if entry.0 == key then (key, payload) else entry) list.untold;
  }

  -- an entry waits again: a told one goes last, untold, and an untold one keeps its place
  abbrev pub renewed : Waiting W → ℕ → W → Waiting W
  renewed list key payload =
      if is_among key list.told then joined (without list key) key payload
      else repaid list key payload

  abbrev told_first : List ℕ → List (ℕ × W) → Waiting W
  told_first told [] = record { told = told; untold = [] }
  told_first told (entry ∷ rest) = record { told = told ++ entry.0 ∷ []; untold = rest }

  -- the longest waiting untold entry is told, if there is one
  abbrev pub told_one : Waiting W → Waiting W
  told_one list = told_first list.told list.untold

  -- every entry is told
  abbrev pub told_all : Waiting W → Waiting W
  told_all list = record { told = keys list; untold = [] }

  -- the key's entry leaves; if it was told, one is told in its place
  abbrev pub cancelled : Waiting W → ℕ → Waiting W
  cancelled list key =
      if is_among key list.told then told_one (without list key) else without list key

  -- the payload that is rung with when the key's entry leaves: of the one told in its place
  abbrev pub rung_by_cancelling : Waiting W → ℕ → List W
  rung_by_cancelling list key =
      if is_among key list.told then take 1 (payloads (without list key)) else []

module _ {B W : Type 0} where
  -- A bell goes from `before` to `after` by one ring for each payload, in this order.
  abbrev pub RingsEach : (B → W → B → Type 0) → B → List W → B → Type 0
  RingsEach rings before [] after = after ≡ before
  RingsEach rings before (payload ∷ rest) after =
      (between : B) × rings before payload between × RingsEach rings between rest after
