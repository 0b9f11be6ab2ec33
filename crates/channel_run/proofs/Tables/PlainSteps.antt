-- The steps that need no ticket: what the run keeps fits together after each, and the step was made.
use Rattle.std.proofs.Common.{◌≡◌, ℕ, zero, suc, ◌-◌, ◌<◌, ◌==◌, List, [], ◌∷◌, ◌++◌, Bool, true, false, not, cond, Some, None, Ok, Option, refl, sym, ◌∙◌, ap, subst, length, drop, arith}
use Rattle.std.proofs.lemmas.Bool.{eqb-true, eq-eqb, ne_eqb}
use Rattle.std.proofs.lemmas.List.{length-map}
use Rattle.std.specs.Map.{keys_of}
use Rattle.std.specs.Prelude.{slice_get}
use Rattle.channel_model.specs.declared.step.Side.{Side}
use Rattle.channel_model.specs.declared.step.Step.TheVariants.{TrySend, ForceSend, TryRecv, Close, DropSender}
use Rattle.channel_model.specs.declared.step.Reply.TheVariants.{TrySent, Forced, Received, Flag, Done}
use Rattle.channel_core.specs.Channel.{accepting, closing, force_sent, forcing, is_channel_full, oldest, received, receiving, sender_dropped, sending, sent, taking, unchanged}
use Rattle.channel_model.specs.Closing.{has_none}
use Rattle.channel_model.specs.Handles.{without}
use Rattle.channel_core.specs.Queue.{is_full}
use Rattle.channel_model.specs.Replies.{is_full_in}
use Rattle.channel_core.specs.Tables.{force_send_answer, try_recv_answer, try_send_answer}
use Rattle.channel_model.specs.Rosters.{Rosters}
use Rattle.channel_model.specs.View.{View}
use Rattle.channel_model.specs.Capacity.{full_at}
use Rattle.channel_run.specs.RunSteps.{IsMade}
use Rattle.channel_model.proofs.ReplyForms.{force_send_reply}
use Rattle.channel_run.proofs.Alike.SameNames.{has_none-length}
use Rattle.channel_run.proofs.Alike.SameViews.{AreAlike-refl}
use Rattle.channel_run.proofs.Outcomes.Tellings.{is_made, accepted_told, closed_told, received_told}
use Rattle.channel_run.proofs.Outcomes.Messages.{made-try_send_closed, made-try_send_full, made-try_send_accepted, made-force_send_closed, made-force_send_displacing, made-force_send_accepted, made-try_recv_taken, made-try_recv_empty, made-try_recv_closed, made-close, made-close_again}
use Rattle.channel_run.proofs.Outcomes.Handles.{made-drop_sender, made-drop_sender_closed, made-drop_last_sender}
use Rattle.channel_run.proofs.Tables.Fits.{Fits, fits-whole, Stepped, stepped, fits-accepting, fits-messages, fits-receiving, fits-closed, closed_now}
use Rattle.channel_run.proofs.Tables.Kept.{Kept, Whole, rosters_by, shown_by, with_core}

module _ {T W : Type 0} where
  -- the one test of both
  pub full_shown : (kept : Kept T W) → is_full_in (shown_by kept) ≡ is_channel_full kept.core
  full_shown kept = by_capacity kept.core.capacity kept.core.messages
    where
      by_capacity : (capacity : Option ℕ) (messages : List T)
          → full_at capacity (length messages) ≡ is_full capacity messages
      by_capacity None messages = refl
      by_capacity (Some capacity) messages = refl

  module _ (kept : Kept T W) (whole : Whole kept) where
    abbrev pub run : View T
    run = shown_by kept

    abbrev all : Rosters
    all = rosters_by kept

    fits : Fits kept all
    fits = fits-whole kept whole

    pub stepped-try_recv : (receiver : ℕ) → Stepped run (TryRecv receiver)
        (Received (try_recv_answer (oldest kept.core) kept.core.closed))
        (with_core kept (received kept.core).channel)
    stepped-try_recv receiver = go kept.core.messages refl kept.core.closed refl
      where
        go : (messages : List T) → kept.core.messages ≡ messages → (closed : Bool)
            → kept.core.closed ≡ closed
            → Stepped run (TryRecv receiver) (Received (try_recv_answer (slice_get messages 0) closed))
            (with_core kept (taking messages kept.core).channel)
        go [] e true f = record {
          whole = whole;
          made = made-try_recv_closed run receiver f (ap (λ (ms : List T). slice_get ms 0) e);
        }
        go [] e false f = record {
          whole = whole;
          made = made-try_recv_empty run receiver f (ap (λ (ms : List T). slice_get ms 0) e);
        }
        go (message ∷ rest) e closed f =
            stepped run (TryRecv receiver) (Received (Ok message))
            (with_core kept (receiving kept.core).channel) (received_told all)
            (fits-receiving kept all fits)
            (made-try_recv_taken run receiver message (ap (λ (ms : List T). slice_get ms 0) e))

    pub stepped-try_send : (sender : ℕ) (message : T)
        → Stepped run (TrySend sender message)
        (TrySent (try_send_answer kept.core.closed (is_channel_full kept.core) message))
        (with_core kept (sent message kept.core).channel)
    stepped-try_send sender message = go kept.core.closed refl (is_channel_full kept.core) refl
      where
        go : (closed : Bool) → kept.core.closed ≡ closed → (full : Bool)
            → is_channel_full kept.core ≡ full
            → Stepped run (TrySend sender message) (TrySent (try_send_answer closed full message))
            (with_core kept (sending closed full message kept.core).channel)
        go true e full f = record { whole = whole; made = made-try_send_closed run sender message e }
        go false e true f = record { whole = whole; made = made-try_send_full run sender message e (full_shown kept ∙ f) }
        go false e false f =
            stepped run (TrySend sender message) (TrySent (Ok tt))
            (with_core kept (accepting message kept.core).channel)
            (accepted_told all)
            (fits-accepting kept all fits message)
            (made-try_send_accepted run sender message e (full_shown kept ∙ f))

    pub stepped-force_send : (sender : ℕ) (message : T)
        → Stepped run (ForceSend sender message)
        (Forced (force_send_answer kept.core.closed (is_channel_full kept.core) (oldest kept.core) message))
        (with_core kept (force_sent message kept.core).channel)
    stepped-force_send sender message = go kept.core.closed refl (is_channel_full kept.core) refl
      where
        -- a full one holds a message, or has no room for any
        made : (messages : List T) → kept.core.messages ≡ messages → kept.core.closed ≡ false
            → is_channel_full kept.core ≡ true
            → IsMade run (ForceSend sender message) (Forced (Ok (slice_get messages 0)))
            (record run { messages = drop 1 kept.core.messages ++ message ∷ []; rosters = accepted_told all })
        made [] e c f =
            subst (λ (ms : List T). IsMade run (ForceSend sender message) (Forced (Ok None))
            (record run { messages = ms; rosters = accepted_told all }))
            (ap (λ (ms : List T). ms ++ message ∷ []) e ∙ sym (ap (λ (ms : List T). drop 1 ms ++ message ∷ []) e))
            (is_made run (ForceSend sender message) (Forced (Ok None))
            (record run { messages = kept.core.messages ++ message ∷ []; rosters = accepted_told all })
            (sym (ap (λ closed. force_send_reply closed (is_full_in run) (slice_get kept.core.messages 0) message) c
            ∙ ap (λ full. force_send_reply false full (slice_get kept.core.messages 0) message) (full_shown kept ∙ f)
            ∙ ap (λ (ms : List T). force_send_reply false true (slice_get ms 0) message) e))
            (AreAlike-refl (record run { messages = kept.core.messages ++ message ∷ []; rosters = accepted_told all })))
        made (first ∷ rest) e c f =
            subst (λ (ms : List T). IsMade run (ForceSend sender message) (Forced (Ok (Some first)))
            (record run { messages = ms; rosters = accepted_told all }))
            (ap (λ (ms : List T). drop 1 (ms ++ message ∷ [])) e
            ∙ sym (ap (λ (ms : List T). drop 1 ms ++ message ∷ []) e))
            (made-force_send_displacing run sender message first c (full_shown kept ∙ f)
            (ap (λ (ms : List T). slice_get ms 0) e))

        displaced : kept.core.closed ≡ false → is_channel_full kept.core ≡ true
            → Stepped run (ForceSend sender message) (Forced (Ok (oldest kept.core)))
            (with_core kept (forcing false true message kept.core).channel)
        displaced c f =
            let dropped = record kept.core { messages = drop 1 kept.core.messages } in
            stepped run (ForceSend sender message) (Forced (Ok (oldest kept.core)))
            (with_core kept (accepting message dropped).channel)
            (accepted_told all)
            (fits-accepting (with_core kept dropped) all
            (fits-messages kept all fits (drop 1 kept.core.messages)) message)
            (made kept.core.messages refl c f)

        go : (closed : Bool) → kept.core.closed ≡ closed → (full : Bool)
            → is_channel_full kept.core ≡ full
            → Stepped run (ForceSend sender message) (Forced (force_send_answer closed full (oldest kept.core) message))
            (with_core kept (forcing closed full message kept.core).channel)
        go true e full f = record { whole = whole; made = made-force_send_closed run sender message e }
        go false e true f = displaced e f
        go false e false f =
            stepped run (ForceSend sender message) (Forced (Ok None))
            (with_core kept (accepting message kept.core).channel)
            (accepted_told all)
            (fits-accepting kept all fits message)
            (made-force_send_accepted run sender message e (full_shown kept ∙ f))

    pub stepped-close : (side : Side) → Stepped run (Close side) (Flag (not kept.core.closed))
        (with_core kept (closing kept.core).channel)
    stepped-close side = go kept.core.closed refl
      where
        go : (closed : Bool) → kept.core.closed ≡ closed
            → Stepped run (Close side) (Flag (not closed))
            (with_core kept (cond closed (unchanged kept.core) (closed_now kept.core)).channel)
        go true e = record { whole = whole; made = made-close_again run side e }
        go false e =
            stepped run (Close side) (Flag true) (with_core kept (closed_now kept.core).channel) (closed_told all)
            (fits-closed kept all fits)
            (made-close run side e)

    -- if an open core counts a receiver, one has a name
    some_receiver : (kept.core.closed ≡ false → 0 < kept.core.receivers)
        → kept.core.closed ≡ false → has_none (keys_of kept.receivers) ≡ false
    some_receiver other c = has_none-length (keys_of kept.receivers)
        ∙ ne_eqb (length (keys_of kept.receivers)) 0 (λ none. absurd
        (by_count kept.core.receivers (length kept.receivers) (length (keys_of kept.receivers))
        (other c) whole.count_receivers (length-map kept.receivers (λ entry. entry.0)) none))
      where
        by_count : (count entries names : ℕ) → 0 < count → count ≡ entries → names ≡ entries
            → names ≡ 0 → ⊥
        by_count count entries names some e f none = omega arith

    pub stepped-drop_sender : (name : ℕ)
        → length kept.senders ≡ suc (length (without name kept.senders))
        → (kept.core.closed ≡ false → 0 < kept.core.receivers)
        → Stepped run (DropSender name) Done
        (record kept { core = (sender_dropped kept.core).channel; senders = without name kept.senders })
    stepped-drop_sender name fewer other = go (kept.core.senders == 1) refl kept.core.closed refl
      where
        has_receiver : kept.core.closed ≡ false → has_none (keys_of kept.receivers) ≡ false
        has_receiver = some_receiver other

        last : (kept.core.senders == 1) ≡ true → length (without name kept.senders) ≡ 0
        last e = let one = eqb-true kept.core.senders 1 e in let counts = whole.count_senders in omega arith

        not_last : (kept.core.senders == 1) ≡ false → has_none (without name kept.senders) ≡ false
        not_last e = has_none-length (without name kept.senders) ∙ some (length (without name kept.senders)) refl
          where
            some : (count : ℕ) → length (without name kept.senders) ≡ count
                → (length (without name kept.senders) == 0) ≡ false
            some zero f =
                let one : kept.core.senders ≡ 1 = whole.count_senders ∙ fewer ∙ ap suc f in
                let is : (kept.core.senders == 1) ≡ true = eq-eqb kept.core.senders 1 one in
                cc
            some (suc n) f = ne_eqb (length (without name kept.senders)) 0 (λ e. absurd (omega (arith, e, f)))

        -- the core, and what it counts
        counted : (count : ℕ) → count ≡ length (without name kept.senders)
            → Fits (record kept { core = record kept.core { senders = count }; senders = without name kept.senders }) all
        counted count e = record {
          counts_senders = e;
          counts_receivers = fits.counts_receivers;
          fits_sends = fits.fits_sends;
          fits_receives = fits.fits_receives;
          fits_streams = fits.fits_streams;
          fits_closeds = fits.fits_closeds;
        }

        go : (one : Bool) → (kept.core.senders == 1) ≡ one → (closed : Bool)
            → kept.core.closed ≡ closed
            → Stepped run (DropSender name) Done (record kept {
              core = (cond one
                  (cond closed (unchanged (record kept.core { senders = 0 }))
                  (closed_now (record kept.core { senders = 0 })))
                  (unchanged (record kept.core { senders = kept.core.senders - 1 }))).channel;
              senders = without name kept.senders;
            })
        go true e true f =
            stepped run (DropSender name) Done (record kept
            { core = record kept.core { senders = 0 }; senders = without name kept.senders }) all (counted 0
            (sym (last e)))
            (made-drop_sender_closed run name has_receiver f)
        go true e false f =
            stepped run (DropSender name) Done (record kept {
              core = (closed_now (record kept.core { senders = 0 })).channel;
              senders = without name
                  kept.senders;
            }) (closed_told all)
            (fits-closed (record kept { core = record kept.core { senders = 0 }; senders = without name kept.senders }) all
            (counted 0 (sym (last e))))
            (made-drop_last_sender run name has_receiver f (has_none-length (without name kept.senders)
            ∙ ap (λ count. count == 0) (last e)))
        go false e closed f =
            stepped run (DropSender name) Done (record kept {
              core = record kept.core { senders = kept.core.senders - 1 };
              senders = without name
                  kept.senders;
            }) all
            (counted (kept.core.senders - 1) (let counts = whole.count_senders in omega arith))
            (made-drop_sender run name has_receiver (not_last e))
