-- What a run shows of itself, by what it keeps: a channel whose waiting lists hold keys, and
-- tickets by name.
use Rattle.std.specs.Prelude.{◌≡◌, ◌≢◌, ℕ, ◌==◌, List, MatchOption, if◌then◌else◌, filter, map, find, length, Option, Some, None, Bool, false, true, option_and_then, unwrap_or}
use Rattle.std.specs.Map.{lookup, keys_of}
use Rattle.std.specs.BTreeMap.{is_at}
use Rattle.std.specs.Ordering.{nat_cmp}
use Rattle.event_list.specs.Keys.{AreDifferent, is_among}
use Rattle.event_list.specs.Waiting.{Waiting, keys, told_flag, told_count}
use Rattle.channel_run.specs.declared.operations.Operation.{Operation as Started}
use Rattle.channel_run.specs.declared.operations.Operation.TheVariants.{Send, Recv, Closed}
use Rattle.channel_core.specs.declared.state.Group.{Group}
use Rattle.channel_core.specs.declared.state.Group.TheVariants.{Sends, Receives, Closeds}
use Rattle.channel_model.specs.declared.step.Notice.{Notice}
use Rattle.channel_model.specs.declared.step.Notice.TheVariants.{Absent, Told, Untold}
use Rattle.channel_core.specs.Channel.{Channel}
use Rattle.channel_model.specs.Operations.{Operation, awaiting_close, borrows_receiver, borrows_sender, receiving, sending}
use Rattle.channel_core.specs.Tickets.{handed_on, left}
use Rattle.channel_model.specs.Rosters.{Roster, Rosters}
use Rattle.channel_model.specs.View.{View}

-- ---- tickets by name, and names by ticket

-- whether a ticket has this key
abbrev pub has_key : ℕ → Option ℕ → Bool
has_key key None = false
has_key key (Some other) = other == key

-- the name among these whose ticket has the key
abbrev pub name_of : (ticket_of : ℕ → Option ℕ) (names : List ℕ) → ℕ → ℕ
name_of ticket_of names key = unwrap_or (find (λ name. has_key key (ticket_of name)) names) 0

-- a waiting list of keys as a roster of names
unfoldable pub roster_of : {W : Type 0} → (ticket_of : ℕ → Option ℕ) (names : List ℕ) → Waiting W
    → Roster
roster_of ticket_of names list = record {
  names = map (λ key. name_of ticket_of names key) (keys list);
  told = told_count list;
}

-- Those who wait, and those who hold tickets, are the same: one name a key.
pub record AreHeld {W : Type 0} (ticket_of : ℕ → Option ℕ) (names : List ℕ)
    (list : Waiting W) : Type 0 where
  -- each key in the list is on the ticket of its name
  pub held : map ticket_of (map (λ key. name_of ticket_of names key) (keys list))
      ≡ map (λ key. Some key) (keys list)
  -- each ticket is of an entry of the list
  pub waits : (name key : ℕ) → ticket_of name ≡ Some key → is_among key (keys list) ≡ true
  -- no key stands twice in the list, or on two tickets
  pub different : AreDifferent (keys list)
  pub once : (name other key : ℕ) → ticket_of name ≡ Some key → ticket_of other ≡ Some key
      → name ≡ other
  -- and whoever has a ticket is among the names
  pub listed : (name key : ℕ) → ticket_of name ≡ Some key → is_among name names ≡ true

-- ---- operations

module _ {T : Type 0} where
  -- an operation without its ticket
  abbrev pub operation_shown : Started T → Operation T
  operation_shown (Send sender message ticket) = sending sender message
  operation_shown (Recv receiver ticket) = receiving receiver
  operation_shown (Closed sender ticket) = awaiting_close sender

  -- the ticket by which an operation waits in a group
  abbrev pub ticket_in : Group → Started T → Option ℕ
  ticket_in Sends (Send sender message ticket) = ticket
  ticket_in Receives (Recv receiver ticket) = ticket
  ticket_in Closeds (Closed sender ticket) = ticket
  ticket_in group operation = None

  -- the ticket by which it waits
  abbrev pub own_ticket : Started T → Option ℕ
  own_ticket (Send sender message ticket) = ticket
  own_ticket (Recv receiver ticket) = ticket
  own_ticket (Closed sender ticket) = ticket

  abbrev pub send_ticket : Started T → Option ℕ
  send_ticket = ticket_in Sends

  abbrev pub recv_ticket : Started T → Option ℕ
  recv_ticket = ticket_in Receives

  abbrev pub closed_ticket : Started T → Option ℕ
  closed_ticket = ticket_in Closeds

-- what stands under a name
abbrev pub entry_at : {X : Type 0} → List (ℕ × X) → ℕ → Option X
entry_at entries name = lookup (is_at (nat_cmp name)) entries

-- What stands under one name is this now, and under every other name what stood there.
pub record Changed {X : Type 0} (name : ℕ) (entries entries' : List (ℕ × X))
    (now : Option X) : Type 0 where
  pub here : entry_at entries' name ≡ now
  pub elsewhere : (other : ℕ) → (name == other) ≡ false
      → entry_at entries' other ≡ entry_at entries other

-- the number under a name, 0 if none stands there
abbrev pub number_at : List (ℕ × ℕ) → ℕ → ℕ
number_at numbers name = unwrap_or (entry_at numbers name) 0

-- one if it is so, and none if it isn't
abbrev pub one_if : Bool → ℕ
one_if b = if b then 1 else 0

-- Under this name stands the number now, and under every other name what stood there.
abbrev pub IsSetAt : (name number : ℕ) → (numbers numbers' : List (ℕ × ℕ)) → Type 0
IsSetAt name number numbers numbers' =
    (other : ℕ) → number_at numbers' other
    ≡ (if name == other then number else number_at numbers other)

-- the ticket under a name, in the group that is read
abbrev pub ticket_at : {X : Type 0} → (X → Option ℕ) → List (ℕ × X) → ℕ → Option ℕ
ticket_at ticket entries name = option_and_then ticket (entry_at entries name)

-- the ticket of a receiver's stream
abbrev pub stream_ticket : Option ℕ → Option ℕ
stream_ticket ticket = ticket

-- The name whose ticket has the key, or nothing if none has it.
abbrev pub IsHolder : (ticket_of : ℕ → Option ℕ) → ℕ → Option ℕ → Type 0
IsHolder ticket_of key found =
    MatchOption found ((name : ℕ) → ticket_of name ≢ Some key) (λ name. ticket_of name ≡ Some key)

-- the core after an operation that was given up, by what stood under its name
abbrev pub dropped : {T W : Type 0} → Channel T W → Option (Started T) → Channel T W
dropped core found = record core {
  sends = handed_on (option_and_then send_ticket found) core.sends;
  receives = handed_on (option_and_then recv_ticket found) core.receives;
  closeds = left (option_and_then closed_ticket found) core.closeds;
}

module _ {T : Type 0} where
  -- how many of these operations pass a test
  abbrev pub count_of : (Operation T → Bool) → List (ℕ × Started T) → ℕ
  count_of test operations = length (filter (λ entry. test (operation_shown entry.1)) operations)

  -- Under the name of each handle stands how many of these operations borrow it.
  pub record AreCounted (by_sender by_receiver : List (ℕ × ℕ))
      (operations : List (ℕ × Started T)) : Type 0 where
    pub each_sender : (name : ℕ)
        → number_at by_sender name ≡ count_of (borrows_sender name) operations
    pub each_receiver : (name : ℕ)
        → number_at by_receiver name ≡ count_of (borrows_receiver name) operations

-- whether the entry of a ticket waits, and was told
abbrev pub notice_by_flag : Option Bool → Notice
notice_by_flag (Some true) = Told
notice_by_flag (Some false) = Untold
notice_by_flag None = Absent

abbrev pub notice_at : {W : Type 0} → Option ℕ → Waiting W → Notice
notice_at None list = Absent
notice_at (Some key) list = notice_by_flag (told_flag list key)

-- ---- the run

module _ {T : Type 0} where
  -- who waits, by name
  abbrev pub rosters_shown : {W : Type 0} → Channel T W
      → (receivers : List (ℕ × Option ℕ)) (operations : List (ℕ × Started T)) → Rosters
  rosters_shown core receivers started = record {
    sends = roster_of (ticket_at (ticket_in Sends) started) (keys_of started) core.sends;
    receives = roster_of (ticket_at (ticket_in Receives) started) (keys_of started) core.receives;
    streams = roster_of (ticket_at (λ ticket. ticket) receivers) (keys_of receivers) core.streams;
    closeds = roster_of (ticket_at (ticket_in Closeds) started) (keys_of started) core.closeds;
  }

  abbrev pub shown : {W : Type 0} → Channel T W
      → (senders : List ℕ) (receivers : List (ℕ × Option ℕ)) (weak_senders weak_receivers : List ℕ)
      (operations : List (ℕ × Started T)) → View T
  shown core senders receivers weak_senders weak_receivers operations = record {
    capacity = core.capacity;
    messages = core.messages;
    closed = core.closed;
    senders = senders;
    receivers = keys_of receivers;
    weak_senders = weak_senders;
    weak_receivers = weak_receivers;
    operations = map (λ entry. (entry.0, operation_shown entry.1)) operations;
    rosters = rosters_shown core receivers operations;
  }

  -- What a run keeps fits together: the core counts the handles that have names, and each who waits
  -- holds a ticket.
  pub record IsWhole {W : Type 0} (core : Channel T W) (senders : List ℕ)
      (receivers : List (ℕ × Option ℕ))
      (operations : List (ℕ × Started T)) : Type 0 where
    pub count_senders : core.senders ≡ length senders
    pub count_receivers : core.receivers ≡ length receivers
    pub each_send : AreHeld (ticket_at send_ticket operations) (keys_of operations) core.sends
    pub each_receive : AreHeld (ticket_at recv_ticket operations) (keys_of operations) core.receives
    pub each_stream : AreHeld (ticket_at stream_ticket receivers) (keys_of receivers) core.streams
    pub each_closed : AreHeld (ticket_at closed_ticket operations) (keys_of operations) core.closeds
