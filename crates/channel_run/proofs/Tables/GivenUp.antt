-- The steps that give a receiver or an operation up.
use Rattle.std.proofs.Common.{◌≡◌, ℕ, suc, ◌+◌, ◌-◌, ◌<◌, List, [], ◌∷◌, Bool, true, false, ◌==◌, cond, None, Option, refl, sym, ◌∙◌, ap, subst, length, arith}
use Rattle.std.specs.Prelude.{is_some}
use Rattle.std.specs.Map.{keys_of}
use Rattle.std.proofs.lemmas.Bool.{eq-eqb, eqb-true, false≢true, ne_eqb}
use Rattle.std.proofs.lemmas.List.{length-map}
use Rattle.event_list.specs.Keys.{AreDifferent, is_among}
use Rattle.channel_run.specs.declared.operations.Operation.{Operation as Started}
use Rattle.channel_core.specs.Channel.{Channel, ending, receiver_dropped_by, unchanged}
use Rattle.channel_core.specs.Tickets.{left}
use Rattle.channel_model.specs.Closing.{has_none}
use Rattle.event_list.specs.Waiting.{told_all}
use Rattle.channel_model.specs.declared.step.Step.TheVariants.{DropOp, DropReceiver}
use Rattle.channel_run.proofs.Alike.SameNames.{has_none-length, has_none-same}
use Rattle.channel_run.proofs.Outcomes.Tellings.{closed_told, ended_told, own_left}
use Rattle.channel_run.proofs.Outcomes.Handles.{made-drop_last_receiver, made-drop_last_receiver_closed, made-drop_receiver}
use Rattle.channel_run.proofs.Outcomes.Operations.{made-drop_op}
use Rattle.channel_model.specs.Handles.{without}
use Rattle.channel_model.specs.Operations.{without_operation}
use Rattle.channel_model.specs.Rosters.{Rosters, hand_on, leave}
use Rattle.channel_model.specs.declared.step.Reply.{Reply}
use Rattle.channel_model.specs.declared.step.Reply.TheVariants.{Done}
use Rattle.channel_model.specs.View.{AreSameNames, AreSameOperations, View}
use Rattle.channel_run.specs.RunSteps.{IsMade}
use Rattle.channel_run.specs.RunShown.{Changed, closed_ticket, entry_at, recv_ticket, send_ticket, stream_ticket, ticket_at}
use Rattle.channel_run.proofs.Tables.Entries.{is_some-shown}
use Rattle.channel_run.proofs.Waiting.HeldLists.{holds-told_all}
use Rattle.channel_run.proofs.Tables.Fits.{Fits, Stepped, closed_now, fits-closed, fits-whole, stepped}
use Rattle.channel_run.proofs.Alike.SameViews.{IsMade-AreAlike, alike-operations, alike-receivers}
use Rattle.channel_run.proofs.Alike.ChangedLists.{AreSameOperations-removed}
use Rattle.channel_run.proofs.Tables.ShownNames.{names-removed}
use Rattle.channel_run.proofs.Tables.ShownOperations.{operations_shown, shown-here, shown-elsewhere}
use Rattle.channel_run.proofs.Tables.Kept.{Kept, Whole, rosters_by, shown_by}
use Rattle.channel_run.specs.RunShown.{dropped}
use Rattle.channel_run.proofs.Tables.OneTicket.{held-handed_on, held-left}
use Rattle.channel_run.proofs.Alike.LiveNames.{names_of}

-- ---- a receiver is given up

module _ {T W : Type 0} (kept : Kept T W) (receivers' : List (ℕ × Option ℕ)) (whole : Whole kept)
    (name : ℕ) (once : AreDifferent (keys_of kept.receivers))
    (there : is_among name (keys_of kept.receivers) ≡ true)
    (change : Changed name kept.receivers receivers' None)
    (fewer : length kept.receivers ≡ suc (length receivers'))
    (other : kept.core.closed ≡ false → 0 < kept.core.senders) where
  abbrev before : View T
  before = shown_by kept

  left_names : AreSameNames (keys_of receivers') (without name (keys_of kept.receivers))
  left_names = names-removed name kept.receivers receivers' once there change
      (by_one (length kept.receivers) (length receivers') fewer)
    where
      by_one : (a b : ℕ) → a ≡ suc b → b + 1 ≡ a
      by_one a b e = omega arith

  -- the stream is gone, and the others are counted
  abbrev remaining : ℕ → Channel T W
  remaining count = record kept.core {
    streams = left (ticket_at stream_ticket kept.receivers name) kept.core.streams;
    receivers = count;
  }

  -- the run without the receiver, and with this core
  abbrev left_with : Channel T W → Kept T W
  left_with core = record kept { core = core; receivers = receivers' }

  fits-left : (count : ℕ) → count ≡ length receivers'
      → Fits (left_with (remaining count)) (own_left name (rosters_by kept))
  fits-left count e =
      let is = fits-whole kept whole in
      record {
        counts_senders = is.counts_senders;
        counts_receivers = e;
        fits_sends = is.fits_sends;
        fits_receives = is.fits_receives;
        fits_streams = held-left stream_ticket name kept.receivers receivers' None change _ refl
            kept.core.streams (rosters_by kept).streams is.fits_streams refl;
        fits_closeds = is.fits_closeds;
      }

  fits-ended : (channel : Channel T W) (all : Rosters) → Fits (left_with channel) all
      → Fits (left_with (record channel { closeds = told_all channel.closeds })) (ended_told all)
  fits-ended channel all fits = record {
    counts_senders = fits.counts_senders;
    counts_receivers = fits.counts_receivers;
    fits_sends = fits.fits_sends;
    fits_receives = fits.fits_receives;
    fits_streams = fits.fits_streams;
    fits_closeds = holds-told_all _ _ channel.closeds all.closeds fits.fits_closeds;
  }

  last : (kept.core.receivers == 1) ≡ true → length receivers' ≡ 0
  last e = let one = eqb-true kept.core.receivers 1 e in let counts = whole.count_receivers in omega arith

  none_left : (kept.core.receivers == 1) ≡ true
      → has_none (without name (keys_of kept.receivers)) ≡ true
  none_left e = sym (has_none-same (keys_of receivers') (without name (keys_of kept.receivers)) left_names)
      ∙ has_none-length (keys_of receivers') ∙ ap (λ count. count == 0)
      (length-map receivers' (λ entry. entry.0) ∙ last e)

  some_left : (kept.core.receivers == 1) ≡ false
      → has_none (without name (keys_of kept.receivers)) ≡ false
  some_left e =
      sym (has_none-same (keys_of receivers') (without name (keys_of kept.receivers)) left_names)
      ∙ has_none-length (keys_of receivers')
      ∙ ne_eqb (length (keys_of receivers')) 0
      (λ none. false≢true (sym e ∙ eq-eqb kept.core.receivers 1
      (whole.count_receivers ∙ fewer ∙ ap suc (sym (length-map receivers' (λ entry. entry.0)) ∙ none))))

  -- if an open core counts a sender, one has a name
  has_sender : kept.core.closed ≡ false → has_none kept.senders ≡ false
  has_sender c = has_none-length kept.senders ∙ ne_eqb (length kept.senders) 0
      (λ none. absurd (by_count kept.core.senders (length kept.senders) (other c) whole.count_senders none))
    where
      by_count : (count names : ℕ) → 0 < count → count ≡ names → names ≡ 0 → ⊥
      by_count count names some e none = omega arith

  some_before : has_none (keys_of kept.receivers) ≡ false
  some_before = has_none-length (keys_of kept.receivers)
      ∙ ne_eqb (length (keys_of kept.receivers)) 0 (λ none. absurd
      (by_none (length (keys_of kept.receivers)) (length receivers')
      (length-map kept.receivers (λ entry. entry.0) ∙ fewer) none))
    where
      by_none : (a b : ℕ) → a ≡ suc b → a ≡ 0 → ⊥
      by_none a b e f = omega arith

  -- the names stand in any order
  made-left : (reply : Reply T) (closed : Bool) (all : Rosters)
      → IsMade before (DropReceiver name) reply
      (record before { receivers = without name (keys_of kept.receivers); closed = closed; rosters = all })
      → IsMade before (DropReceiver name) reply
      (record before { receivers = keys_of receivers'; closed = closed; rosters = all })
  made-left reply closed all made =
      IsMade-AreAlike before (record before {
        receivers = without name (keys_of kept.receivers);
        closed = closed;
        rosters = all;
      }) (record before { receivers = keys_of receivers'; closed = closed; rosters = all })
      (DropReceiver name) reply made
      (alike-receivers (record before { closed = closed; rosters = all }) (keys_of receivers')
      (without name (keys_of kept.receivers)) left_names)

  pub stepped-drop_receiver : Stepped before (DropReceiver name) Done
      (left_with (receiver_dropped_by (ticket_at stream_ticket kept.receivers name) kept.core).channel)
  stepped-drop_receiver = go (kept.core.receivers == 1) refl kept.core.closed refl
    where
      go : (one : Bool) → (kept.core.receivers == 1) ≡ one → (closed : Bool)
          → kept.core.closed ≡ closed
          → Stepped before (DropReceiver name) Done
          (left_with (cond one (ending (cond closed (unchanged (remaining 0)) (closed_now (remaining 0))))
          (unchanged (remaining (kept.core.receivers - 1)))).channel)
      go true e true f =
          stepped before (DropReceiver name) Done (left_with (ending (unchanged (remaining 0))).channel) (ended_told
          (own_left name (rosters_by kept)))
          (fits-ended (remaining 0) (own_left name (rosters_by kept))
          (fits-left 0 (sym (last e))))
          (made-left Done kept.core.closed (ended_told (own_left name (rosters_by kept)))
          (made-drop_last_receiver_closed before name has_sender f some_before (none_left e)))
      go true e false f =
          stepped before (DropReceiver name) Done (left_with (ending (closed_now (remaining 0))).channel) (ended_told
          (closed_told (own_left name (rosters_by kept))))
          (fits-ended (closed_now (remaining 0)).channel
          (closed_told (own_left name (rosters_by kept)))
          (fits-closed (left_with (remaining 0))
          (own_left name (rosters_by kept)) (fits-left 0 (sym (last e)))))
          (made-left Done true (ended_told (closed_told (own_left name (rosters_by kept))))
          (made-drop_last_receiver before name has_sender f some_before (none_left e)))
      go false e closed f =
          stepped before (DropReceiver name) Done (left_with (remaining (kept.core.receivers - 1)))
          (own_left name (rosters_by kept))
          (fits-left (kept.core.receivers - 1) (let counts = whole.count_receivers in omega arith))
          (made-left Done kept.core.closed (own_left name (rosters_by kept))
          (made-drop_receiver before name has_sender (some_left e)))

-- ---- an operation is given up

module _ {T W : Type 0} (kept : Kept T W) (operations' : List (ℕ × Started T)) (whole : Whole kept)
    (op : ℕ) (once : AreDifferent (keys_of kept.operations))
    (there : is_some (entry_at kept.operations op) ≡ true)
    (change : Changed op kept.operations operations' None)
    (fewer : length kept.operations ≡ suc (length operations')) where
  abbrev earlier : View T
  earlier = shown_by kept

  pub stepped-drop_op : Stepped earlier (DropOp op) Done
      (record kept { core = dropped kept.core (entry_at kept.operations op); operations = operations' })
  stepped-drop_op =
      let is = fits-whole kept whole in
      let all = rosters_by kept in
      let told = record all {
        sends = hand_on op all.sends;
        receives = hand_on op all.receives;
        closeds = leave op all.closeds;
      } in
      stepped earlier (DropOp op) Done (record kept {
        core = dropped kept.core (entry_at kept.operations op);
        operations = operations';
      }) told
      (record {
        counts_senders = is.counts_senders;
        counts_receivers = is.counts_receivers;
        fits_sends = held-handed_on send_ticket op kept.operations operations' None change _ refl
            kept.core.sends all.sends is.fits_sends refl;
        fits_receives = held-handed_on recv_ticket op kept.operations operations' None change _ refl
            kept.core.receives all.receives is.fits_receives refl;
        fits_streams = is.fits_streams;
        fits_closeds = held-left closed_ticket op kept.operations operations' None change _ refl
            kept.core.closeds all.closeds is.fits_closeds refl;
      })
      (IsMade-AreAlike earlier (record earlier
      { operations = without_operation op (operations_shown kept.operations); rosters = told })
      (record earlier { operations = operations_shown operations'; rosters = told }) (DropOp op) Done
      (made-drop_op earlier op)
      (alike-operations (record earlier { rosters = told }) (operations_shown operations')
      (without_operation op (operations_shown kept.operations)) same))
    where
      same_keys : (entries : List (ℕ × Started T))
          → names_of (operations_shown entries) ≡ keys_of entries
      same_keys [] = refl
      same_keys (entry ∷ entries) = ap (λ rest. entry.0 ∷ rest) (same_keys entries)

      same : AreSameOperations (operations_shown operations') (without_operation op (operations_shown kept.operations))
      same =
          AreSameOperations-removed (operations_shown kept.operations) (operations_shown operations') op
          (subst (λ names. AreDifferent names) (sym (same_keys kept.operations)) once)
          (is_some-shown kept.operations op ∙ there)
          (length-map kept.operations _ ∙ fewer ∙ ap suc (sym (length-map operations' _)))
          (shown-here op kept.operations operations' None change)
          (shown-elsewhere op kept.operations operations' None change)
