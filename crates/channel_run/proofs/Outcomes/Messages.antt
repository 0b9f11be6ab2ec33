-- What a send or a receive at once, and a closing, leave of a view, outcome by outcome.
use Rattle.std.proofs.Common.{◌≡◌, ℕ, List, [], ◌∷◌, ◌++◌, Bool, true, false, not, Some, None, Ok, Err, Option, refl, sym, ◌∙◌, ap, drop}
use Rattle.std.specs.Prelude.{slice_get}
use Rattle.channel_core.specs.declared.errors.TrySendError.TheVariants.{Full, Closed}
use Rattle.channel_core.specs.declared.errors.TryRecvError.TheVariants.{Empty, Closed}
use Rattle.channel_model.specs.declared.step.Side.{Side}
use Rattle.channel_model.specs.declared.step.Step.TheVariants.{TrySend, ForceSend, TryRecv, Close}
use Rattle.channel_model.specs.declared.step.Reply.TheVariants.{TrySent, Forced, Received, Flag}
use Rattle.channel_core.specs.Tables.{send_error}
use Rattle.channel_model.specs.Closing.{closed_after, has_none}
use Rattle.channel_model.specs.Replies.{is_full_in, reply_in}
use Rattle.channel_model.specs.Rosters.{Rosters}
use Rattle.channel_model.specs.Notices.{after_closing}
use Rattle.channel_model.specs.View.{View}
use Rattle.channel_run.specs.RunSteps.{IsMade, closed_in, ending_in}
use Rattle.channel_model.proofs.Unchanged.{after_last_receiver-kept}
use Rattle.channel_model.proofs.ReplyForms.{force_send_reply, try_recv_reply, try_send_reply}
use Rattle.channel_run.proofs.Alike.SameViews.{AreAlike-refl, told}
use Rattle.channel_run.proofs.Outcomes.Tellings.{is_made, accepted_told, received_told, closed_told}

-- ---- sending at once

pub made-try_send_closed : {T : Type 0} (run : View T) (sender : ℕ) (message : T)
    → run.closed ≡ true
    → IsMade run (TrySend sender message) (TrySent (Err (Closed message))) run
made-try_send_closed run sender message c =
    is_made run (TrySend sender message) (TrySent (Err (Closed message))) run
    (sym (ap (λ closed. try_send_reply closed (is_full_in run) message) c)) (AreAlike-refl run)

pub made-try_send_full : {T : Type 0} (run : View T) (sender : ℕ) (message : T) → run.closed ≡ false
    → is_full_in run ≡ true → IsMade run (TrySend sender message) (TrySent (Err (Full message))) run
made-try_send_full run sender message c f =
    is_made run (TrySend sender message) (TrySent (Err (Full message))) run
    (sym (ap (λ closed. try_send_reply closed (is_full_in run) message) c
    ∙ ap (λ full. try_send_reply false full message) f)) (AreAlike-refl run)

pub made-try_send_accepted : {T : Type 0} (run : View T) (sender : ℕ) (message : T)
    → run.closed ≡ false
    → is_full_in run ≡ false → IsMade run (TrySend sender message) (TrySent (Ok tt))
    (record run { messages = run.messages ++ message ∷ []; rosters = accepted_told run.rosters })
made-try_send_accepted run sender message c f =
    is_made run (TrySend sender message) (TrySent (Ok tt))
    (record run { messages = run.messages ++ message ∷ []; rosters = accepted_told run.rosters })
    (sym (ap (λ closed. try_send_reply closed (is_full_in run) message) c
    ∙ ap (λ full. try_send_reply false full message) f))
    (AreAlike-refl (record run { messages = run.messages ++ message ∷ []; rosters = accepted_told run.rosters }))

pub made-force_send_closed : {T : Type 0} (run : View T) (sender : ℕ) (message : T)
    → run.closed ≡ true
    → IsMade run (ForceSend sender message) (Forced (Err (send_error message))) run
made-force_send_closed run sender message c =
    is_made run (ForceSend sender message) (Forced (Err (send_error message))) run
    (sym (ap (λ closed. force_send_reply closed (is_full_in run) (slice_get run.messages 0) message) c))
    (AreAlike-refl run)

pub made-force_send_displacing : {T : Type 0} (run : View T) (sender : ℕ) (message : T) (oldest : T)
    → run.closed ≡ false → is_full_in run ≡ true → slice_get run.messages 0 ≡ Some oldest
    → IsMade run (ForceSend sender message) (Forced (Ok (Some oldest)))
    (record run { messages = drop 1 (run.messages ++ message ∷ []); rosters = accepted_told run.rosters })
made-force_send_displacing {T} run sender message oldest c f o =
    is_made run (ForceSend sender message) (Forced (Ok (Some oldest)))
    (record run { messages = drop 1 (run.messages ++ message ∷ []); rosters = accepted_told run.rosters })
    (sym (ap (λ closed. force_send_reply closed (is_full_in run) (slice_get run.messages 0) message) c
    ∙ ap (λ full. force_send_reply false full (slice_get run.messages 0) message) f
    ∙ ap (λ (first : Option T). force_send_reply false true first message) o))
    (AreAlike-refl (record run {
      messages = drop 1 (run.messages ++ message ∷ []);
      rosters = accepted_told run.rosters;
    }))

pub made-force_send_accepted : {T : Type 0} (run : View T) (sender : ℕ) (message : T)
    → run.closed ≡ false
    → is_full_in run ≡ false → IsMade run (ForceSend sender message) (Forced (Ok None))
    (record run { messages = run.messages ++ message ∷ []; rosters = accepted_told run.rosters })
made-force_send_accepted run sender message c f =
    is_made run (ForceSend sender message) (Forced (Ok None))
    (record run { messages = run.messages ++ message ∷ []; rosters = accepted_told run.rosters })
    (sym (ap (λ closed. force_send_reply closed (is_full_in run) (slice_get run.messages 0) message) c
    ∙ ap (λ full. force_send_reply false full (slice_get run.messages 0) message) f))
    (AreAlike-refl (record run { messages = run.messages ++ message ∷ []; rosters = accepted_told run.rosters }))

-- ---- receiving at once, and closing

pub made-try_recv_taken : {T : Type 0} (run : View T) (receiver : ℕ) (oldest : T)
    → slice_get run.messages 0 ≡ Some oldest
    → IsMade run (TryRecv receiver) (Received (Ok oldest))
    (record run { messages = drop 1 run.messages; rosters = received_told run.rosters })
made-try_recv_taken {T} run receiver oldest o =
    is_made run (TryRecv receiver) (Received (Ok oldest))
    (record run { messages = drop 1 run.messages; rosters = received_told run.rosters })
    (sym (ap (λ (first : Option T). try_recv_reply first run.closed) o))
    (AreAlike-refl (record run { messages = drop 1 run.messages; rosters = received_told run.rosters }))

pub made-try_recv_empty : {T : Type 0} (run : View T) (receiver : ℕ) → run.closed ≡ false
    → slice_get run.messages 0 ≡ None → IsMade run (TryRecv receiver) (Received (Err Empty)) run
made-try_recv_empty {T} run receiver c o =
    is_made run (TryRecv receiver) (Received (Err Empty)) run
    (sym (ap (λ (first : Option T). try_recv_reply first run.closed) o ∙ ap (λ closed. try_recv_reply None closed) c))
    (AreAlike-refl run)

pub made-try_recv_closed : {T : Type 0} (run : View T) (receiver : ℕ) → run.closed ≡ true
    → slice_get run.messages 0 ≡ None → IsMade run (TryRecv receiver) (Received (Err Closed)) run
made-try_recv_closed {T} run receiver c o =
    is_made run (TryRecv receiver) (Received (Err Closed)) run
    (sym (ap (λ (first : Option T). try_recv_reply first run.closed) o ∙ ap (λ closed. try_recv_reply None closed) c))
    (AreAlike-refl run)

-- a closing by hand
by_hand : (T : Type 0) (before : Bool) (side : Side) (senders receivers : List ℕ)
    → closed_after {T = T} before (Close side) senders receivers ≡ true
by_hand T true side senders receivers = refl
by_hand T false side senders receivers = refl

closed_by_hand : {T : Type 0} (run : View T) (side : Side) (flag closed : Bool) (all : Rosters)
    → Flag flag ≡ reply_in run (Close side) → closed ≡ true → all ≡ after_closing run.closed true run.rosters
    → IsMade run (Close side) (Flag flag) (record run { closed = closed; rosters = all })
closed_by_hand {T} run side flag closed all replied c r =
    let now = sym (by_hand T run.closed side run.senders run.receivers) in
    is_made run (Close side) (Flag flag) (record run { closed = closed; rosters = all }) replied
    (told run closed (closed_in run (Close side) (Flag flag)) all (ending_in run (Close side) (Flag flag) run.rosters)
    (c ∙ now)
    (r ∙ ap (λ closed. after_closing run.closed closed run.rosters) now
    ∙ sym (after_last_receiver-kept (has_none run.receivers) (has_none run.receivers) _ refl)))

pub made-close : {T : Type 0} (run : View T) (side : Side) → run.closed ≡ false
    → IsMade run (Close side) (Flag true) (record run { closed = true; rosters = closed_told run.rosters })
made-close run side c = closed_by_hand run side true true (closed_told run.rosters)
    (sym (ap (λ closed. Flag (not closed)) c)) refl
    (sym (ap (λ closed. after_closing closed true run.rosters) c))

pub made-close_again : {T : Type 0} (run : View T) (side : Side) → run.closed ≡ true
    → IsMade run (Close side) (Flag false) run
made-close_again run side c = closed_by_hand run side false run.closed run.rosters
    (sym (ap (λ closed. Flag (not closed)) c)) c
    (sym (ap (λ closed. after_closing closed true run.rosters) c))
