-- What a handle that is made or given up leaves of a view, outcome by outcome.
use Rattle.std.proofs.Common.{◌≡◌, ℕ, List, [], ◌∷◌, ◌++◌, Bool, true, false, not, ◌||◌, refl, sym, ◌∙◌, ap}
use Rattle.channel_model.specs.declared.step.Step.TheVariants.{CloneReceiver, UpgradeReceiver, DropSender, DropReceiver}
use Rattle.channel_model.specs.declared.step.Reply.TheVariants.{Done, Upgraded}
use Rattle.channel_model.specs.Handles.{without}
use Rattle.channel_model.specs.Closing.{closed_after, has_none}
use Rattle.channel_model.specs.Rosters.{Rosters}
use Rattle.channel_model.specs.Notices.{after_closing, after_last_receiver}
use Rattle.channel_model.specs.View.{View}
use Rattle.channel_run.specs.RunSteps.{IsMade, closed_in, ending_in}
use Rattle.channel_model.proofs.Unchanged.{after_last_receiver-kept}
use Rattle.channel_run.proofs.Alike.SameNames.{AreSameNames-pushed}
use Rattle.channel_run.proofs.Alike.SameViews.{alike-receivers, told}
use Rattle.channel_run.proofs.Outcomes.Tellings.{is_made, closed_told, ended_told, own_left}

-- ---- handles that are made

pub made-clone_receiver : {T : Type 0} (run : View T) (of new : ℕ)
    → IsMade run (CloneReceiver of new) Done (record run { receivers = run.receivers ++ new ∷ [] })
made-clone_receiver run of new = is_made run (CloneReceiver of new) Done
    (record run { receivers = run.receivers ++ new ∷ [] }) refl
    (alike-receivers run (run.receivers ++ new ∷ []) (new ∷ run.receivers) (AreSameNames-pushed run.receivers new))

pub made-upgrade_receiver : {T : Type 0} (run : View T) (of new : ℕ) → run.closed ≡ false
    → IsMade run (UpgradeReceiver of new) (Upgraded true) (record run { receivers = run.receivers ++ new ∷ [] })
made-upgrade_receiver run of new c = is_made run (UpgradeReceiver of new) (Upgraded true)
    (record run { receivers = run.receivers ++ new ∷ [] }) (sym (ap (λ closed. Upgraded (not closed)) c))
    (alike-receivers run (run.receivers ++ new ∷ []) (new ∷ run.receivers) (AreSameNames-pushed run.receivers new))

-- ---- handles that are given up

or_false : (closed : Bool) → closed ≡ (closed || false)
or_false true = refl
or_false false = refl

closing_none : (closed : Bool) (all : Rosters) → all ≡ after_closing closed (closed || false) all
closing_none true all = refl
closing_none false all = refl

ending_none : (none : Bool) (all : Rosters) → all ≡ after_last_receiver none false all
ending_none true all = refl
ending_none false all = refl

-- A receiver is there on an open channel: whether a sender is left decides whether it is closed.
closed-by_senders : (T : Type 0) (before : Bool) (name : ℕ) (senders receivers : List ℕ)
    → (before ≡ false → has_none receivers ≡ false)
    → (before || has_none senders) ≡ closed_after {T = T} before (DropSender name) senders receivers
closed-by_senders T true name senders receivers some = refl
closed-by_senders T false name [] receivers some = refl
closed-by_senders T false name (first ∷ rest) receivers some = sym (some refl)

-- And if a sender is there, whether a receiver is.
closed-by_receivers : (T : Type 0) (before : Bool) (name : ℕ) (senders receivers : List ℕ)
    → (before ≡ false → has_none senders ≡ false)
    → (before || has_none receivers) ≡ closed_after {T = T} before (DropReceiver name) senders receivers
closed-by_receivers T true name senders receivers some = refl
closed-by_receivers T false name senders receivers some = ap (λ none. none || has_none receivers) (sym (some refl))

module _ {T : Type 0} (run : View T) (name : ℕ)
    (some : run.closed ≡ false → has_none run.receivers ≡ false) where
  -- whether no sender is left then
  abbrev no_sender : Bool
  no_sender = has_none (without name run.senders)

  sender_dropped : (closed : Bool) (all : Rosters) → closed ≡ (run.closed || no_sender)
      → all ≡ after_closing run.closed (run.closed || no_sender) run.rosters
      → IsMade run (DropSender name) Done (record run
      { senders = without name run.senders; closed = closed; rosters = all })
  sender_dropped closed all c r =
      let now = closed-by_senders T run.closed name (without name run.senders) run.receivers some in
      is_made run (DropSender name) Done
      (record run { senders = without name run.senders; closed = closed; rosters = all }) refl
      (told (record run { senders = without name run.senders }) closed
      (closed_in run (DropSender name) Done) all (ending_in run (DropSender name) Done run.rosters)
      (c ∙ now)
      (r ∙ ap (λ closed. after_closing run.closed closed run.rosters) now
      ∙ sym (after_last_receiver-kept (has_none run.receivers) (has_none run.receivers) _ refl)))

  pub made-drop_sender : has_none (without name run.senders) ≡ false
      → IsMade run (DropSender name) Done (record run { senders = without name run.senders })
  made-drop_sender left = sender_dropped run.closed run.rosters
      (or_false run.closed ∙ ap (λ none. run.closed || none) (sym left))
      (closing_none run.closed run.rosters
      ∙ ap (λ none. after_closing run.closed (run.closed || none) run.rosters) (sym left))

  pub made-drop_sender_closed : run.closed ≡ true
      → IsMade run (DropSender name) Done (record run { senders = without name run.senders })
  made-drop_sender_closed c = sender_dropped run.closed run.rosters
      (c ∙ ap (λ closed. closed || no_sender) (sym c))
      (ap (λ closed. after_closing closed (closed || no_sender) run.rosters) (sym c))

  pub made-drop_last_sender : run.closed ≡ false → has_none (without name run.senders) ≡ true
      → IsMade run (DropSender name) Done (record run
      { senders = without name run.senders; closed = true; rosters = closed_told run.rosters })
  made-drop_last_sender c last = sender_dropped true (closed_told run.rosters)
      (sym (ap (λ closed. closed || no_sender) c ∙ last))
      (sym (ap (λ closed. after_closing closed (closed || no_sender) run.rosters) c
      ∙ ap (λ none. after_closing false none run.rosters) last))

module _ {T : Type 0} (run : View T) (name : ℕ)
    (some : run.closed ≡ false → has_none run.senders ≡ false) where
  -- whether no receiver is left then
  abbrev no_receiver : Bool
  no_receiver = has_none (without name run.receivers)

  -- whom that tells, if the channel is closed or not
  abbrev told_by_end : (none_before none_now closed : Bool) → Rosters
  told_by_end none_before none_now closed =
      after_last_receiver none_before none_now
      (after_closing closed (closed || none_now) (own_left name run.rosters))

  receiver_dropped : (closed : Bool) (all : Rosters) → closed ≡ (run.closed || no_receiver)
      → all ≡ told_by_end (has_none run.receivers) no_receiver run.closed
      → IsMade run (DropReceiver name) Done (record run
      { receivers = without name run.receivers; closed = closed; rosters = all })
  receiver_dropped closed all c r =
      let now = closed-by_receivers T run.closed name run.senders (without name run.receivers) some in
      is_made run (DropReceiver name) Done
      (record run { receivers = without name run.receivers; closed = closed; rosters = all }) refl
      (told (record run { receivers = without name run.receivers }) closed
      (closed_in run (DropReceiver name) Done) all
      (ending_in run (DropReceiver name) Done (own_left name run.rosters))
      (c ∙ now)
      (r ∙ ap (λ closed. after_last_receiver (has_none run.receivers) no_receiver
      (after_closing run.closed closed (own_left name run.rosters))) now))

  pub made-drop_receiver : has_none (without name run.receivers) ≡ false
      → IsMade run (DropReceiver name) Done (record run
      { receivers = without name run.receivers; rosters = own_left name run.rosters })
  made-drop_receiver left = receiver_dropped run.closed (own_left name run.rosters)
      (or_false run.closed ∙ ap (λ none. run.closed || none) (sym left))
      (closing_none run.closed (own_left name run.rosters)
      ∙ ending_none (has_none run.receivers)
      (after_closing run.closed (run.closed || false) (own_left name run.rosters))
      ∙ ap (λ none. told_by_end (has_none run.receivers) none run.closed) (sym left))

  pub made-drop_last_receiver : run.closed ≡ false → has_none run.receivers ≡ false
      → has_none (without name run.receivers) ≡ true
      → IsMade run (DropReceiver name) Done (record run {
        receivers = without name run.receivers;
        closed = true;
        rosters = ended_told (closed_told (own_left name run.rosters));
      })
  made-drop_last_receiver c had last =
      receiver_dropped true (ended_told (closed_told (own_left name run.rosters)))
      (sym (ap (λ closed. closed || no_receiver) c ∙ last))
      (sym (ap (λ closed. told_by_end (has_none run.receivers) no_receiver closed) c
      ∙ ap (λ none. told_by_end none no_receiver false) had
      ∙ ap (λ none. told_by_end false none false) last))

  pub made-drop_last_receiver_closed : run.closed ≡ true → has_none run.receivers ≡ false
      → has_none (without name run.receivers) ≡ true
      → IsMade run (DropReceiver name) Done (record run
      { receivers = without name run.receivers; rosters = ended_told (own_left name run.rosters) })
  made-drop_last_receiver_closed c had last =
      receiver_dropped run.closed (ended_told (own_left name run.rosters))
      (c ∙ ap (λ closed. closed || no_receiver) (sym c))
      (sym (ap (λ closed. told_by_end (has_none run.receivers) no_receiver closed) c
      ∙ ap (λ none. told_by_end none no_receiver true) had
      ∙ ap (λ none. told_by_end false none true) last))
