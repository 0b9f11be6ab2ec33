-- What many messages in one call make of a channel: single steps, one after the other, with nobody's
-- between.
use Rattle.std.specs.Prelude.{◌≡◌, ◌⊎◌, ℕ, ◌++◌, List, [], ◌∷◌, length, map, min, replicate, Result, Ok, Err, true}
use Rattle.channel_core.specs.Channel.{Channel, Change, GrowsWithMessages, is_channel_full, received, sent, unchanged}

-- The answer of a single step, with a number in the place of what it gives.
abbrev pub counted : {A E : Type 0} → ℕ → Result A E → Result ℕ E
counted number (Ok given) = Ok number
counted number (Err error) = Err error

-- how many messages a batch moved, by its answer
abbrev pub moved_count : {E D : Type 0} → Result (Result ℕ E) D → ℕ
moved_count (Ok (Ok count)) = count
moved_count (Ok (Err error)) = 0
moved_count (Err error) = 0

module _ {T W : Type 0} where
  -- one more step after a change
  abbrev pub followed_by : Change T W → (Channel T W → Change T W) → Change T W
  followed_by change step = record {
    channel = (step change.channel).channel;
    rung = change.rung ++ (step change.channel).rung;
  }

  -- steps, one after the other
  abbrev pub in_turn : List (Channel T W → Change T W) → Channel T W → Change T W
  in_turn [] channel = unchanged channel
  in_turn (step ∷ rest) channel = followed_by (step channel) (in_turn rest)

  -- so many receives
  abbrev pub received_many : ℕ → Channel T W → Change T W
  received_many count channel = in_turn (replicate count received) channel

  -- a send of each of these messages
  abbrev pub sent_many : List T → Channel T W → Change T W
  sent_many messages channel = in_turn (map sent messages) channel

  -- how many messages a batch takes: what is held, up to its limit
  abbrev pub taken_count : ℕ → Channel T W → ℕ
  taken_count limit channel = min limit (length channel.messages)

  -- Nothing more goes in: no message is left, or the channel is closed or full, or it would want
  -- memory for one more.
  abbrev pub CanSendNoMore : List T → Channel T W → Type 0
  CanSendNoMore messages channel =
      (messages ≡ []) ⊎ (channel.closed ≡ true) ⊎ (is_channel_full channel ≡ true)
      ⊎ GrowsWithMessages channel
