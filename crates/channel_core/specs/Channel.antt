-- What a contract sees of a channel, and what each step makes of it.
use Rattle.std.specs.Prelude.{◌≡◌, ℕ, ◌-◌, ◌++◌, ◌==◌, ◌&&◌, Bool, true, false, not, List, [], ◌∷◌, length, take, drop, slice_get, Option, Some, None, if◌then◌else◌, ◌⊎◌}
use Rattle.event_list.specs.Waiting.{Waiting, nobody, payloads, told_count, untold_count, told_one, told_all}
use Rattle.futures.specs.declared.task.Poll.TheVariants.{Pending}
use Rattle.channel_core.specs.declared.state.Group.{Group}
use Rattle.channel_core.specs.declared.state.Group.TheVariants.{Sends, Receives, Streams, Closeds}
use Rattle.channel_core.specs.Queue.{is_full}
use Rattle.channel_core.specs.Covered.{Waiters, Standing}
use Rattle.channel_core.specs.Tables.{send_poll, recv_poll, next_poll, closed_poll}
use Rattle.channel_core.specs.Tickets.{waits, left, handed_on, rung_by_handing_on, Waits}

-- The capacity, if there is one, the held messages, the oldest first, whether it is closed, how
-- many senders and receivers there are, and who waits. The payload of an untold waiter is a `W`.
pub record Channel (T W : Type 0) : Type 0 where
  pub capacity : Option ℕ
  pub messages : List T
  pub closed : Bool
  pub senders : ℕ
  pub receivers : ℕ
  pub sends : Waiting W
  pub receives : Waiting W
  pub streams : Waiting W
  pub closeds : Waiting W

-- What a step leaves: the channel, and the payloads of those whom it told, in the order of the
-- rings.
pub record Change (T W : Type 0) : Type 0 where
  pub channel : Channel T W
  pub rung : List W

-- how many wait in a list, for the law of notices
abbrev pub waiters_of : {W : Type 0} → Waiting W → Waiters
waiters_of list = record { told = told_count list; untold = untold_count list }

module _ {T W : Type 0} where
  -- an open and empty channel with one sender and one receiver, where nobody waits
  abbrev pub new_channel : Option ℕ → Channel T W
  new_channel capacity = record {
    capacity = capacity;
    messages = [];
    closed = false;
    senders = 1;
    receivers = 1;
    sends = nobody;
    receives = nobody;
    streams = nobody;
    closeds = nobody;
  }

  abbrev pub is_channel_full : Channel T W → Bool
  is_channel_full channel = is_full channel.capacity channel.messages

  abbrev pub oldest : Channel T W → Option T
  oldest channel = slice_get channel.messages 0

  -- an open channel without a capacity wants memory for one more message
  abbrev pub GrowsWithMessages : Channel T W → Type 0
  GrowsWithMessages channel = (channel.closed ≡ false) × (channel.capacity ≡ None)

  -- the list of a group
  abbrev pub list_of : Group → Channel T W → Waiting W
  list_of Sends channel = channel.sends
  list_of Receives channel = channel.receives
  list_of Streams channel = channel.streams
  list_of Closeds channel = channel.closeds

  -- that list put in its place
  abbrev pub with_list : Group → Waiting W → Channel T W → Channel T W
  with_list Sends list channel = record channel { sends = list }
  with_list Receives list channel = record channel { receives = list }
  with_list Streams list channel = record channel { streams = list }
  with_list Closeds list channel = record channel { closeds = list }

  -- whether one of the group has to wait: a send on an open and full channel, a receive or a stream
  -- on an open and empty one, a closed operation while there is a receiver
  abbrev pub must_wait : Group → Channel T W → Bool
  must_wait Sends channel = is_channel_full channel && not channel.closed
  must_wait Receives channel = (length channel.messages == 0) && not channel.closed
  must_wait Streams channel = (length channel.messages == 0) && not channel.closed
  must_wait Closeds channel = not (channel.receivers == 0)

  -- what the law of notices looks at
  abbrev pub standing_of : Channel T W → Standing
  standing_of channel = record {
    capacity = channel.capacity;
    held = length channel.messages;
    closed = channel.closed;
    senders = channel.senders;
    receivers = channel.receivers;
    sends = waiters_of channel.sends;
    receives = waiters_of channel.receives;
    streams = waiters_of channel.streams;
    closeds = waiters_of channel.closeds;
  }

  -- ### The parts that steps are made of

  abbrev pub unchanged : Channel T W → Change T W
  unchanged channel = record { channel = channel; rung = [] }

  -- a message is accepted: it stands last, and one receive and all streams are told
  abbrev pub accepting : T → Channel T W → Change T W
  accepting message channel = record {
    channel = record channel {
      messages = channel.messages ++ message ∷ [];
      receives = told_one channel.receives;
      streams = told_all channel.streams;
    };
    rung = take 1 (payloads channel.receives) ++ payloads channel.streams;
  }

  -- the oldest message is received, and one send is told
  abbrev pub receiving : Channel T W → Change T W
  receiving channel = record {
    channel = record channel { messages = drop 1 channel.messages; sends = told_one channel.sends };
    rung = take 1 (payloads channel.sends);
  }

  -- an open channel closes, and all sends, receives and streams are told; a closed one stays as it
  -- is
  abbrev pub closing : Channel T W → Change T W
  closing channel =
      if channel.closed then unchanged channel
      else record {
        channel = record channel {
          closed = true;
          sends = told_all channel.sends;
          receives = told_all channel.receives;
          streams = told_all channel.streams;
        };
        rung = payloads channel.sends ++ payloads channel.receives ++ payloads channel.streams;
      }

  -- after that, all closed operations are told
  abbrev pub ending : Change T W → Change T W
  ending change = record {
    channel = record change.channel { closeds = told_all change.channel.closeds };
    rung = change.rung ++ payloads change.channel.closeds;
  }

  -- ### Steps

  -- closed: nothing changes; full: nothing changes; else the message is accepted
  abbrev pub sending : (closed full : Bool) → T → Channel T W → Change T W
  sending true full message channel = unchanged channel
  sending false true message channel = unchanged channel
  sending false false message channel = accepting message channel

  abbrev pub sent : T → Channel T W → Change T W
  sent message channel = sending channel.closed (is_channel_full channel) message channel

  -- closed: nothing changes; full: the oldest message leaves, which tells no send, and the message
  -- is accepted; else the message is accepted
  abbrev pub forcing : (closed full : Bool) → T → Channel T W → Change T W
  forcing true full message channel = unchanged channel
  forcing false true message channel =
      accepting message (record channel { messages = drop 1 channel.messages })
  forcing false false message channel = accepting message channel

  abbrev pub force_sent : T → Channel T W → Change T W
  force_sent message channel = forcing channel.closed (is_channel_full channel) message channel

  -- a message is held: it is received; else nothing changes
  abbrev pub taking : List T → Channel T W → Change T W
  taking [] channel = unchanged channel
  taking (message ∷ rest) channel = receiving channel

  abbrev pub received : Channel T W → Change T W
  received channel = taking channel.messages channel

  -- a sender is given up: the last one closes the channel
  abbrev pub sender_dropped : Channel T W → Change T W
  sender_dropped channel =
      if channel.senders == 1 then closing (record channel { senders = 0 })
      else unchanged (record channel { senders = channel.senders - 1 })

  -- a receiver is given up, without its stream: the last one closes the channel, and is the end
  -- that closed operations wait for, also on a channel that was closed before
  abbrev pub receiver_dropped : Channel T W → Change T W
  receiver_dropped channel =
      if channel.receivers == 1 then ending (closing (record channel { receivers = 0 }))
      else unchanged (record channel { receivers = channel.receivers - 1 })

  -- the receiver's stream leaves first
  abbrev pub receiver_dropped_by : Option ℕ → Channel T W → Change T W
  receiver_dropped_by ticket channel =
      receiver_dropped (record channel { streams = left ticket channel.streams })

  -- ### Polls

  -- a send's entry leaves, and its message is sent; one without a message is finished, and has
  -- nothing to do
  abbrev pub polled_send : Option T → Option ℕ → Channel T W → Change T W
  polled_send None ticket channel = unchanged channel
  polled_send (Some message) ticket channel =
      sent message (record channel { sends = left ticket channel.sends })

  -- a receive's entry leaves, and then a message, if there is one
  abbrev pub polled_receive : Option ℕ → Channel T W → Change T W
  polled_receive ticket channel =
      received (record channel { receives = left ticket channel.receives })

  -- a stream's entry leaves, and then a message, if there is one
  abbrev pub polled_stream : Option ℕ → Channel T W → Change T W
  polled_stream ticket channel = received (record channel { streams = left ticket channel.streams })

  -- One of the group gives up, and its entry leaves. A notice that a send or a receive had goes on to
  -- the next one. Streams are told together, as closed operations are, so none has to go on.
  abbrev pub given_up : Group → Option ℕ → Channel T W → Change T W
  given_up Sends ticket channel = record {
    channel = record channel { sends = handed_on ticket channel.sends };
    rung = rung_by_handing_on ticket channel.sends;
  }
  given_up Receives ticket channel = record {
    channel = record channel { receives = handed_on ticket channel.receives };
    rung = rung_by_handing_on ticket channel.receives;
  }
  given_up Streams ticket channel = unchanged (record channel { streams = left ticket channel.streams })
  given_up Closeds ticket channel = unchanged (record channel { closeds = left ticket channel.closeds })

  -- one of the group that can't go on waits, and nothing else changes
  abbrev pub WaitsIn : Group → Option ℕ → Channel T W → W → Option ℕ → Channel T W → Type 0
  WaitsIn group ticket channel payload ticket' channel' =
      (channel' ≡ with_list group (list_of group channel') channel)
      × Waits ticket (list_of group channel) payload ticket' (list_of group channel')

  -- a send does so; a finished one changes nothing
  abbrev pub SendWaits : Option T → Option ℕ → Channel T W → W → Option ℕ → Channel T W → Type 0
  SendWaits None ticket channel payload ticket' channel' = (channel' ≡ channel) × (ticket' ≡ ticket)
  SendWaits (Some message) ticket channel payload ticket' channel' =
      WaitsIn Sends ticket channel payload ticket' channel'

  -- so do a receive, a stream and a closed operation
  abbrev pub RecvWaits : Option ℕ → Channel T W → W → Option ℕ → Channel T W → Type 0
  RecvWaits ticket channel payload ticket' channel' =
      WaitsIn Receives ticket channel payload ticket' channel'

  abbrev pub NextWaits : Option ℕ → Channel T W → W → Option ℕ → Channel T W → Type 0
  NextWaits ticket channel payload ticket' channel' =
      WaitsIn Streams ticket channel payload ticket' channel'

  abbrev pub ClosedWaits : Option ℕ → Channel T W → W → Option ℕ → Channel T W → Type 0
  ClosedWaits ticket channel payload ticket' channel' =
      WaitsIn Closeds ticket channel payload ticket' channel'

  -- ### When memory may be wanted

  -- a send wants memory for its message, and when it begins to wait
  abbrev pub SendWants : Option T → Option ℕ → Channel T W → Type 0
  SendWants None ticket channel = ⊥
  SendWants (Some message) ticket channel =
      GrowsWithMessages channel
      ⊎ ((send_poll (Some message) channel.closed (is_channel_full channel) ≡ Pending)
      × (waits ticket channel.sends ≡ false))

  -- a receive, a stream and a closed operation want it when they begin to wait
  abbrev pub RecvWants : Option ℕ → Channel T W → Type 0
  RecvWants ticket channel = (recv_poll (oldest channel) channel.closed ≡ Pending)
      × (waits ticket channel.receives ≡ false)

  abbrev pub NextWants : Option ℕ → Channel T W → Type 0
  NextWants ticket channel = (next_poll (oldest channel) channel.closed ≡ Pending)
      × (waits ticket channel.streams ≡ false)

  abbrev pub ClosedWants : Option ℕ → Channel T W → Type 0
  ClosedWants ticket channel =
      (closed_poll (channel.receivers == 0) ≡ Pending) × (waits ticket channel.closeds ≡ false)
