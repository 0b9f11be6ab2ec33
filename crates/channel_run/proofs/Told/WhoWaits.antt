-- Who waits in a run, by its tickets: each once, of its own kind, and no more than have names.
use Rattle.std.proofs.Common.{◌≡◌, ℕ, ◌+◌, ◌<◌, ◌≤◌, ◌^◌, ◌⊎◌, inl, inr, List, [], ◌∷◌, ◌++◌, Bool, true, false, ◌||◌, ◌==◌, Some, None, Option, refl, sym, ◌∙◌, ap, length, length-append, map, arith}
use Rattle.std.specs.Prelude.{option_and_then, option_map}
use Rattle.std.specs.Map.{keys_of}
use Rattle.std.proofs.lemmas.Bool.{eq-eqb, or_right}
use Rattle.std.proofs.lemmas.List.{length-map}
use Rattle.event_list.specs.Keys.{AreDifferent, is_among}
use Rattle.event_list.specs.Waiting.{Waiting, keys, untold_keys}
use Rattle.event_list.proofs.Splits.{is_among-append, absent_both}
use Rattle.channel_run.specs.declared.operations.Operation.{Operation as Started}
use Rattle.channel_run.specs.declared.operations.Operation.TheVariants.{Send, Recv, Closed}
use Rattle.channel_model.specs.Operations.{awaiting_close, operation_in, receiving, sending}
use Rattle.channel_model.specs.Polling.{waiting_in}
use Rattle.channel_model.specs.Rosters.{AreSound, IsSound, Roster, Rosters}
use Rattle.channel_run.specs.RunShown.{AreHeld, closed_ticket, entry_at, operation_shown, recv_ticket, roster_of, send_ticket, stream_ticket, ticket_at}
use Rattle.channel_run.proofs.Tables.Entries.{operation_in-entry_at}
use Rattle.channel_run.proofs.Waiting.HeldLists.{holds-refl, keyed}
use Rattle.channel_run.proofs.Waiting.KeyLists.{key_roster}
use Rattle.channel_run.proofs.Waiting.KeyedRosters.{AreKeyed, IsKeyed, is_among-keyed, is_among-no_key}
use Rattle.channel_run.proofs.Alike.SameNames.{length-within}
use Rattle.channel_run.proofs.Tables.Kept.{Kept, Whole, rosters_by}

-- ---- who waits in one list

module _ {W : Type 0} (ticket_of : ℕ → Option ℕ) (names : List ℕ) (list : Waiting W)
    (each : AreHeld ticket_of names list) where
  abbrev roster : Roster
  roster = roster_of ticket_of names list

  over_keys : IsKeyed ticket_of roster (key_roster list)
  over_keys = keyed ticket_of names list roster (holds-refl ticket_of names list each)

  different : (ns ks : List ℕ) → AreKeyed ticket_of ns ks → AreDifferent ks → AreDifferent ns
  different [] ks e once = tt
  different (n ∷ ns) [] e once = cc
  different (n ∷ ns) (k ∷ ks) e once =
      let has : ticket_of n ≡ Some k = cc in
      let rest : AreKeyed ticket_of ns ks = cc in
      (is_among-keyed ticket_of each.once n k has ns ks rest ∙ once.0, different ns ks rest once.1)

  as_many : length roster.names ≡ length (keys list)
  as_many =
      sym (length-map roster.names ticket_of) ∙ ap (λ (xs : List (Option ℕ)). length xs) over_keys.keyed
      ∙ length-map (keys list) (λ key. Some key)

  pub IsSound-AreHeld : IsSound roster
  IsSound-AreHeld = record {
    once = different roster.names (keys list) over_keys.keyed each.different;
    within = let told = over_keys.told in let count = as_many in
        let both = length-append list.told (untold_keys list) in omega arith;
  }

  -- whoever waits has a ticket
  pub has_ticket : (name : ℕ) → is_among name roster.names ≡ true
      → (key : ℕ) × (ticket_of name ≡ Some key)
  has_ticket name among = go (ticket_of name) refl
    where
      go : (ticket : Option ℕ) → ticket_of name ≡ ticket → (key : ℕ) × (ticket_of name ≡ Some key)
      go (Some key) e = (key, e)
      go None e = let absent : is_among name roster.names ≡ false =
          is_among-no_key ticket_of name roster.names (keys list) over_keys.keyed e in cc

-- ---- who waits at all

different-append : (xs ys : List ℕ) → AreDifferent xs → AreDifferent ys
    → ((name : ℕ) → is_among name xs ≡ true → is_among name ys ≡ false) → AreDifferent (xs ++ ys)
different-append [] ys once more apart = more
different-append (x ∷ xs) ys once more apart = (
  absent_both x xs ys once.0 (apart x (ap (λ same. same || is_among x xs) (eq-eqb x x refl))),
  different-append xs ys once.1 more (λ name among. apart name (or_right (x == name) (is_among name xs) among)),
)

among_either : (name : ℕ) (xs ys : List ℕ) (test : Bool) → (is_among name xs ≡ true → test ≡ true)
    → (is_among name ys ≡ true → test ≡ true) → is_among name (xs ++ ys) ≡ true → test ≡ true
among_either name xs ys test left right among = go (is_among name xs) refl (sym (is_among-append name xs ys) ∙ among)
  where
    go : (here : Bool) → is_among name xs ≡ here → (is_among name xs || is_among name ys) ≡ true
        → test ≡ true
    go true e both = left e
    go false e both = right (sym (ap (λ here. here || is_among name ys) e) ∙ both)

not_true : (test : Bool) → (test ≡ true → ⊥) → test ≡ false
not_true true no_more = absurd (no_more refl)
not_true false no_more = refl

module _ {T W : Type 0} (kept : Kept T W) (whole : Whole kept) where
  abbrev all : Rosters
  all = rosters_by kept

  pub AreSound-IsWhole : AreSound all
  AreSound-IsWhole = record {
    sends = IsSound-AreHeld (ticket_at send_ticket kept.operations)
        (keys_of kept.operations) kept.core.sends whole.each_send;
    receives = IsSound-AreHeld (ticket_at recv_ticket kept.operations)
        (keys_of kept.operations) kept.core.receives whole.each_receive;
    streams = IsSound-AreHeld (ticket_at stream_ticket kept.receivers)
        (keys_of kept.receivers) kept.core.streams whole.each_stream;
    closeds = IsSound-AreHeld (ticket_at closed_ticket kept.operations)
        (keys_of kept.operations) kept.core.closeds whole.each_closed;
  }

  -- each is of its own kind
  pub send_waits : (name : ℕ) → is_among name all.sends.names ≡ true
      → (key : ℕ) × (ticket_at send_ticket kept.operations name ≡ Some key)
  send_waits = has_ticket (ticket_at send_ticket kept.operations)
      (keys_of kept.operations) kept.core.sends whole.each_send

  pub receive_waits : (name : ℕ) → is_among name all.receives.names ≡ true
      → (key : ℕ) × (ticket_at recv_ticket kept.operations name ≡ Some key)
  receive_waits = has_ticket (ticket_at recv_ticket kept.operations)
      (keys_of kept.operations) kept.core.receives whole.each_receive

  pub closed_waits : (name : ℕ) → is_among name all.closeds.names ≡ true
      → (key : ℕ) × (ticket_at closed_ticket kept.operations name ≡ Some key)
  closed_waits = has_ticket (ticket_at closed_ticket kept.operations)
      (keys_of kept.operations) kept.core.closeds whole.each_closed

  pub stream_waits : (name : ℕ) → is_among name all.streams.names ≡ true
      → is_among name (keys_of kept.receivers) ≡ true
  stream_waits name among =
      let has = has_ticket (ticket_at stream_ticket kept.receivers)
      (keys_of kept.receivers) kept.core.streams whole.each_stream name among in whole.each_stream.listed name
      has.0 has.1

  no_two : (name : ℕ) (found : Option (Started T)) → entry_at kept.operations name ≡ found
      → (key other : ℕ)
      → ((option_and_then send_ticket found ≡ Some key) × (option_and_then recv_ticket found ≡ Some other))
      ⊎ (((option_and_then send_ticket found ≡ Some key) × (option_and_then closed_ticket found ≡ Some other))
      ⊎ ((option_and_then recv_ticket found ≡ Some key) × (option_and_then closed_ticket found ≡ Some other))) → ⊥
  no_two name None e key other (inl both) = let one = both.0 in cc
  no_two name None e key other (inr (inl both)) = let one = both.0 in cc
  no_two name None e key other (inr (inr both)) = let one = both.0 in cc
  no_two name (Some (Send sender message ticket)) e key other (inl both) = let one = both.1 in cc
  no_two name (Some (Send sender message ticket)) e key other (inr (inl both)) = let one = both.1 in cc
  no_two name (Some (Send sender message ticket)) e key other (inr (inr both)) = let one = both.1 in cc
  no_two name (Some (Recv receiver ticket)) e key other (inl both) = let one = both.0 in cc
  no_two name (Some (Recv receiver ticket)) e key other (inr (inl both)) = let one = both.0 in cc
  no_two name (Some (Recv receiver ticket)) e key other (inr (inr both)) = let one = both.1 in cc
  no_two name (Some (Closed sender ticket)) e key other (inl both) = let one = both.0 in cc
  no_two name (Some (Closed sender ticket)) e key other (inr (inl both)) = let one = both.0 in cc
  no_two name (Some (Closed sender ticket)) e key other (inr (inr both)) = let one = both.0 in cc

  once_each : AreDifferent (all.sends.names ++ (all.receives.names ++ all.closeds.names))
  once_each =
      let sound = AreSound-IsWhole in
      different-append all.sends.names (all.receives.names ++ all.closeds.names) sound.sends.once
      (different-append all.receives.names all.closeds.names sound.receives.once sound.closeds.once
      (λ name among. not_true (is_among name all.closeds.names) (λ closed.
      let a = receive_waits name among in let b = closed_waits name closed in
      no_two name (entry_at kept.operations name) refl a.0 b.0 (inr (inr (a.1, b.1))))))
      (λ name among. absent_both name all.receives.names all.closeds.names
      (not_true (is_among name all.receives.names) (λ receive.
      let a = send_waits name among in let b = receive_waits name receive in
      no_two name (entry_at kept.operations name) refl a.0 b.0 (inl (a.1, b.1))))
      (not_true (is_among name all.closeds.names) (λ closed.
      let a = send_waits name among in let b = closed_waits name closed in
      no_two name (entry_at kept.operations name) refl a.0 b.0 (inr (inl (a.1, b.1))))))

  -- no more operations and streams wait than have names
  pub few_operations : length all.sends.names + length all.receives.names + length all.closeds.names
      ≤ length kept.operations
  few_operations =
      let most = length-within (all.sends.names ++ (all.receives.names ++ all.closeds.names))
      (keys_of kept.operations) once_each
      (λ name. among_either name all.sends.names (all.receives.names ++ all.closeds.names)
      (is_among name (keys_of kept.operations))
      (λ send. let a = send_waits name send in whole.each_send.listed name a.0 a.1)
      (among_either name all.receives.names all.closeds.names (is_among name (keys_of kept.operations))
      (λ receive. let a = receive_waits name receive in whole.each_receive.listed name a.0 a.1)
      (λ closed. let a = closed_waits name closed in whole.each_closed.listed name a.0 a.1))) in
      let count = length-map kept.operations (λ (entry : ℕ × Started T). entry.0) in
      let one = length-append all.sends.names (all.receives.names ++ all.closeds.names) in
      let two = length-append all.receives.names all.closeds.names in
      omega arith

  pub few_streams : length all.streams.names ≤ length kept.receivers
  few_streams =
      let most = length-within all.streams.names (keys_of kept.receivers)
      (AreSound-IsWhole).streams.once stream_waits in
      let count = length-map kept.receivers (λ (entry : ℕ × Option ℕ). entry.0) in
      omega arith

  -- as many wait as there are keys
  pub count_waiting : waiting_in all
      ≡ length (keys kept.core.sends) + length (keys kept.core.receives) + length
      (keys kept.core.streams) + length (keys kept.core.closeds)
  count_waiting =
      let a = as_many (ticket_at send_ticket kept.operations)
      (keys_of kept.operations) kept.core.sends whole.each_send in
      let b = as_many (ticket_at recv_ticket kept.operations)
      (keys_of kept.operations) kept.core.receives whole.each_receive in
      let c = as_many (ticket_at stream_ticket kept.receivers)
      (keys_of kept.receivers) kept.core.streams whole.each_stream in
      let d = as_many (ticket_at closed_ticket kept.operations)
      (keys_of kept.operations) kept.core.closeds whole.each_closed in
      omega arith

  -- so their number fits
  pub few_waiting : length kept.operations < 2 ^ 63 → length kept.receivers < 2 ^ 63
      → waiting_in all < 2 ^ 64
  few_waiting few others = let a = few_operations in let b = few_streams in omega arith

  -- what is started under a name
  started : (name : ℕ) (operation : Started T) → entry_at kept.operations name ≡ Some operation
      → operation_in (map (λ entry. (entry.0, operation_shown entry.1)) kept.operations) name
      ≡ Some (operation_shown operation)
  started name operation e = operation_in-entry_at kept.operations name
      ∙ ap (λ (found : Option (Started T)). option_map operation_shown found) e

  pub is_send : (name key : ℕ) → ticket_at send_ticket kept.operations name ≡ Some key
      → (sender : ℕ) × (message : Option T) × (operation_in
      (map (λ entry. (entry.0, operation_shown entry.1)) kept.operations) name ≡ Some (sending sender message))
  is_send name key has = go (entry_at kept.operations name) refl has
    where
      go : (found : Option (Started T)) → entry_at kept.operations name ≡ found
          → option_and_then send_ticket found ≡ Some key
          → (sender : ℕ) × (message : Option T) × (operation_in
          (map (λ entry. (entry.0, operation_shown entry.1)) kept.operations) name ≡ Some (sending sender message))
      go None e h = cc
      go (Some (Send sender message ticket)) e h = (sender, message, started name (Send sender message ticket) e)
      go (Some (Recv receiver ticket)) e h = cc
      go (Some (Closed sender ticket)) e h = cc

  pub is_receive : (name key : ℕ) → ticket_at recv_ticket kept.operations name ≡ Some key
      → (receiver : ℕ) × (operation_in (map (λ entry. (entry.0, operation_shown entry.1)) kept.operations) name
      ≡ Some (receiving receiver))
  is_receive name key has = go (entry_at kept.operations name) refl has
    where
      go : (found : Option (Started T)) → entry_at kept.operations name ≡ found
          → option_and_then recv_ticket found ≡ Some key
          → (receiver : ℕ) × (operation_in (map (λ entry. (entry.0, operation_shown entry.1)) kept.operations) name
          ≡ Some (receiving receiver))
      go None e h = cc
      go (Some (Send sender message ticket)) e h = cc
      go (Some (Recv receiver ticket)) e h = (receiver, started name (Recv receiver ticket) e)
      go (Some (Closed sender ticket)) e h = cc

  pub is_awaiting : (name key : ℕ) → ticket_at closed_ticket kept.operations name ≡ Some key
      → (sender : ℕ) × (operation_in (map (λ entry. (entry.0, operation_shown entry.1)) kept.operations) name
      ≡ Some (awaiting_close sender))
  is_awaiting name key has = go (entry_at kept.operations name) refl has
    where
      go : (found : Option (Started T)) → entry_at kept.operations name ≡ found
          → option_and_then closed_ticket found ≡ Some key
          → (sender : ℕ) × (operation_in (map (λ entry. (entry.0, operation_shown entry.1)) kept.operations) name
          ≡ Some (awaiting_close sender))
      go None e h = cc
      go (Some (Send sender message ticket)) e h = cc
      go (Some (Recv receiver ticket)) e h = cc
      go (Some (Closed sender ticket)) e h = (sender, started name (Closed sender ticket) e)
