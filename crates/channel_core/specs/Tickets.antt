-- What a ticket that may be there does to a waiting list. A ticket whose key isn't in the list
-- counts as none: its entry neither leaves nor waits.
use Rattle.std.specs.Prelude.{◌≡◌, ℕ, Bool, true, false, List, [], take, Option, Some, None, IsSomeAnd, if◌then◌else◌}
use Rattle.event_list.specs.Keys.{is_among}
use Rattle.event_list.specs.Waiting.{Waiting, IsWaiting, LosesOne, keys, payloads, payload_in, joined, without, renewed, cancelled}

module _ {W : Type 0} where
  -- whether the ticket's entry is in the list
  abbrev pub waits : Option ℕ → Waiting W → Bool
  waits None list = false
  waits (Some key) list = is_among key (keys list)

  -- the payload of the ticket's entry, if it is untold
  abbrev pub payload_held : Option ℕ → Waiting W → Option W
  payload_held None list = None
  payload_held (Some key) list = payload_in key list.untold

  -- the ticket's entry leaves
  abbrev pub left : Option ℕ → Waiting W → Waiting W
  left None list = list
  left (Some key) list = without list key

  -- the ticket's entry leaves; if it was told, one is told in its place
  abbrev pub handed_on : Option ℕ → Waiting W → Waiting W
  handed_on None list = list
  handed_on (Some key) list = cancelled list key

  -- the payload of who is told in its place
  abbrev pub rung_by_handing_on : Option ℕ → Waiting W → List W
  rung_by_handing_on None list = []
  rung_by_handing_on (Some key) list =
      if is_among key list.told then take 1 (payloads (without list key)) else []

  -- the ticket's entry waits again
  abbrev pub waiting_again : Option ℕ → Waiting W → W → Waiting W
  waiting_again None list payload = list
  waiting_again (Some key) list payload = renewed list key payload

  -- with the ticket's entry one told or one untold leaves, and nobody if it isn't in the list
  abbrev pub LosesAtMostOne : Option ℕ → Waiting W → Type 0
  LosesAtMostOne None list = Unit {0}
  LosesAtMostOne (Some key) list = LosesOne list key

  -- Who can't go on waits. An entry that is in the list waits again; else a new one goes last,
  -- under a key that isn't in the list. Either way it is untold after that, and holds the payload.
  pub record Waits (ticket : Option ℕ) (list : Waiting W) (payload : W) (ticket' : Option ℕ)
      (list' : Waiting W) : Type 0 where
    pub again : waits ticket list ≡ true → (ticket' ≡ ticket)
        × (list' ≡ waiting_again ticket list payload)
    pub begins : waits ticket list ≡ false → IsSomeAnd ticket'
        (λ key. (is_among key (keys list) ≡ false) × (list' ≡ joined list key payload))
    pub holds : IsSomeAnd ticket' (λ key. IsWaiting list' key payload)
