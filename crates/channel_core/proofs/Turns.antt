-- Steps, one after the other.
use Rattle.std.proofs.Common.{◌≡◌, ◌+◌, ◌<◌, ℕ, zero, suc, List, [], ◌∷◌, ◌++◌, take, drop, length, map, replicate, Bool, true, false, Option, Some, None, Ok, Err, refl, sym, ap, ◌∙◌, subst, slice_get, add-one, arith}
use Rattle.std.proofs.lemmas.List.{append_assoc, append-nil, drop-drop, map-append, replicate_more}
use Rattle.event_list.specs.Waiting.{RingsEach}
use Rattle.channel_core.specs.Tables.{try_recv_answer}
use Rattle.channel_core.specs.declared.errors.TryRecvError.{TryRecvError}
use Rattle.channel_core.specs.Channel.{Channel, Change, oldest, received, sent, taking}
use Rattle.channel_core.specs.Batches.{followed_by, in_turn, received_many, sent_many}
use Rattle.channel_core.proofs.Rings.{rings_in_turn}

-- ---- lists, and the answers of a receive

module _ {T : Type 0} where
  drop_further : (count : ℕ) (messages : List T) → drop count (drop 1 messages) ≡ drop (suc count) messages
  drop_further zero [] = refl
  drop_further (suc count) [] = refl
  drop_further count (message ∷ rest) = refl

  take_further : (count : ℕ) (messages : List T)
      → take (suc count) messages ≡ take count messages ++ take 1 (drop count messages)
  take_further zero [] = refl
  take_further zero (first ∷ rest) = refl
  take_further (suc count) [] = refl
  take_further (suc count) (first ∷ rest) =
      ap (λ (messages : List T). first ∷ messages) (take_further count rest)

  take_next : (count : ℕ) (messages : List T) (message : T)
      → slice_get (drop count messages) 0 ≡ Some message
      → take (suc count) messages ≡ take count messages ++ message ∷ []
  take_next zero [] message is = absurd (cc)
  take_next zero (first ∷ rest) message is = cc
  take_next (suc count) [] message is = absurd (cc)
  take_next (suc count) (first ∷ rest) message is =
      ap (λ (messages : List T). first ∷ messages) (take_next count rest message is)

  some_left : (count : ℕ) (messages : List T) → count < length messages
      → slice_get (drop count messages) 0 ≡ None → ⊥
  some_left zero [] few none = omega (arith, few)
  some_left zero (first ∷ rest) few none = cc none
  some_left (suc count) [] few none = omega (arith, few)
  some_left (suc count) (first ∷ rest) few none = some_left count rest (omega (arith, few)) none

  oldest_of : (first : Option T) (closed : Bool) (message : T)
      → Ok message ≡ try_recv_answer first closed → first ≡ Some message
  oldest_of (Some first) closed message is = cc
  oldest_of None true message is = absurd (cc)
  oldest_of None false message is = absurd (cc)

  none_of : (first : Option T) (closed : Bool) (error : TryRecvError)
      → Err error ≡ try_recv_answer first closed → first ≡ None
  none_of (Some first) closed error is = absurd (cc)
  none_of None closed error is = refl

  -- What is held after one send more, if it went in.
  pub more_held : (count : ℕ) (messages rest : List T) → rest ≡ drop count messages
      → (start now next : List T) → now ≡ start ++ take count messages
      → next ≡ now ++ take 1 rest → next ≡ start ++ take (count + 1) messages
  more_held count messages rest left start now next before step =
      step ∙ ap (λ (held : List T). held ++ take 1 rest) before
      ∙ append_assoc start (take count messages) (take 1 rest)
      ∙ ap (λ (more : List T). start ++ more)
      (rw (left, add-one) (sym (take_further count messages)))

-- ---- steps

module _ {T W : Type 0} where
  abbrev with_rung : Channel T W → List W → Change T W
  with_rung channel rung = record { channel = channel; rung = rung }

  -- some steps, and then others
  in_turn-append : (steps others : List (Channel T W → Change T W)) (channel : Channel T W)
      → in_turn (steps ++ others) channel ≡ followed_by (in_turn steps channel) (in_turn others)
  in_turn-append [] others channel = refl
  in_turn-append (first ∷ rest) others channel =
      let between = (in_turn rest (first channel).channel).channel in
      ap (λ (change : Change T W). with_rung change.channel ((first channel).rung ++ change.rung))
      (in_turn-append rest others (first channel).channel)
      ∙ ap (λ (rung : List W). with_rung (in_turn others between).channel rung)
      (sym (append_assoc (first channel).rung (in_turn rest (first channel).channel).rung
      (in_turn others between).rung))

  -- Some steps were made, and then others.
  module _ (steps others whole : List (Channel T W → Change T W)) (parts : whole ≡ steps ++ others)
      (start now : Channel T W) (is : now ≡ (in_turn steps start).channel) where
    all_of : in_turn whole start ≡ followed_by (in_turn steps start) (in_turn others)
    all_of = ap (λ (all : List (Channel T W → Change T W)). in_turn all start) parts
        ∙ in_turn-append steps others start

    then-channel : (next : Channel T W) → next ≡ (in_turn others now).channel
        → next ≡ (in_turn whole start).channel
    then-channel next step =
        step ∙ ap (λ (channel : Channel T W). (in_turn others channel).channel) is
        ∙ ap (λ (change : Change T W). change.channel) (sym all_of)

    then-rung : {B : Type 0} (rings : B → W → B → Type 0) (before between after : B)
        → RingsEach rings before (in_turn steps start).rung between
        → RingsEach rings between (in_turn others now).rung after
        → RingsEach rings before (in_turn whole start).rung after
    then-rung rings before between after first second =
        subst (λ (change : Change T W). RingsEach rings before change.rung after) (sym all_of)
        (rings_in_turn rings before (in_turn steps start).rung
        (in_turn others (in_turn steps start).channel).rung between after first
        (subst (λ (channel : Channel T W). RingsEach rings between (in_turn others channel).rung after) is second))

  -- ---- receives

  -- a receive leaves all but the oldest message
  received-messages : (messages : List T) (channel : Channel T W) → messages ≡ channel.messages
      → (taking messages channel).channel.messages ≡ drop 1 messages
  received-messages [] channel is = sym is
  received-messages (message ∷ rest) channel is = ap (drop 1) (sym is)

  -- and so many receives all but as many
  received_many-messages : (count : ℕ) (channel : Channel T W)
      → (received_many count channel).channel.messages ≡ drop count channel.messages
  received_many-messages zero channel = refl
  received_many-messages (suc count) channel =
      received_many-messages count (received channel).channel
      ∙ ap (drop count) (received-messages channel.messages channel refl)
      ∙ drop_further count channel.messages

  -- One receive more, after so many.
  module _ (count : ℕ) (start now : Channel T W) (is : now ≡ (received_many count start).channel) where
    pub more-channel : (next : Channel T W) → next ≡ (received now).channel
        → next ≡ (received_many (count + 1) start).channel
    more-channel = then-channel (replicate count received) (received ∷ []) (replicate (count + 1) received)
        (sym (replicate_more count received)) start now is

    pub more-rung : {B : Type 0} (rings : B → W → B → Type 0) (before between after : B)
        → RingsEach rings before (received_many count start).rung between
        → RingsEach rings between (received now).rung after
        → RingsEach rings before (received_many (count + 1) start).rung after
    more-rung rings before between after first second =
        then-rung (replicate count received) (received ∷ []) (replicate (count + 1) received)
        (sym (replicate_more count received)) start now is rings before between after first
        (subst (λ (rung : List W). RingsEach rings between rung after) (sym (append-nil (received now).rung)) second)

    oldest_is : oldest now ≡ slice_get (drop count start.messages) 0
    oldest_is = ap (λ (channel : Channel T W). oldest channel) is
        ∙ ap (λ (messages : List T). slice_get messages 0) (received_many-messages count start)

    pub more-taken : (message : T) → Ok message ≡ try_recv_answer (oldest now) now.closed
        → take (count + 1) start.messages ≡ take count start.messages ++ message ∷ []
    more-taken message reply =
        rw add-one (take_next count start.messages message
        (sym oldest_is ∙ oldest_of (oldest now) now.closed message reply))

    pub never_none : (error : TryRecvError) → count < length start.messages
        → Err error ≡ try_recv_answer (oldest now) now.closed → ⊥
    never_none error few reply =
        some_left count start.messages few (sym oldest_is ∙ none_of (oldest now) now.closed error reply)

  -- ---- sends

  abbrev sends : List T → List (Channel T W → Change T W)
  sends messages = map sent messages

  -- One send more, after so many from the front.
  module _ (count : ℕ) (messages rest : List T) (start now : Channel T W)
      (is : now ≡ (sent_many (take count messages) start).channel) (left : rest ≡ drop count messages) where
    one_more : sends (take (count + 1) messages) ≡ sends (take count messages) ++ sends (take 1 rest)
    one_more = rw (left, add-one) (ap (λ (messages : List T). sends messages) (take_further count messages)
        ∙ map-append (sent {T = T} {W = W}) (take count messages) (take 1 (drop count messages)))

    pub sent-channel : (next : Channel T W) → next ≡ (sent_many (take 1 rest) now).channel
        → next ≡ (sent_many (take (count + 1) messages) start).channel
    sent-channel = then-channel (sends (take count messages)) (sends (take 1 rest))
        (sends (take (count + 1) messages)) one_more start now is

    pub sent-rung : {B : Type 0} (rings : B → W → B → Type 0) (before between after : B)
        → RingsEach rings before (sent_many (take count messages) start).rung between
        → RingsEach rings between (sent_many (take 1 rest) now).rung after
        → RingsEach rings before (sent_many (take (count + 1) messages) start).rung after
    sent-rung = then-rung (sends (take count messages)) (sends (take 1 rest))
        (sends (take (count + 1) messages)) one_more start now is

    pub sent-rest : drop 1 rest ≡ drop (count + 1) messages
    sent-rest = ap (drop 1) left ∙ drop-drop 1 count messages
