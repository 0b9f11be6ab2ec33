-- The steps that make a receiver or an operation.
use Rattle.std.proofs.Common.{◌≡◌, ℕ, ◌+◌, List, [], ◌∷◌, ◌++◌, Some, None, Option, sym, ◌∙◌, ap, length, refl}
use Rattle.std.specs.Prelude.{is_some, option_and_then}
use Rattle.std.specs.Map.{keys_of}
use Rattle.channel_run.specs.declared.operations.Operation.{Operation as Started}
use Rattle.channel_model.specs.Rosters.{Rosters}
use Rattle.channel_model.specs.declared.step.Step.{Step}
use Rattle.channel_model.specs.declared.step.Reply.{Reply}
use Rattle.channel_model.specs.declared.step.Reply.TheVariants.{Done}
use Rattle.channel_model.specs.View.{View}
use Rattle.channel_run.specs.RunSteps.{IsMade}
use Rattle.channel_run.specs.RunShown.{Changed, closed_ticket, entry_at, operation_shown, recv_ticket, send_ticket}
use Rattle.channel_run.proofs.Tables.Fits.{Stepped, fits-whole, stepped}
use Rattle.channel_run.proofs.Alike.SameViews.{IsMade-AreAlike, alike-operations, alike-receivers}
use Rattle.channel_run.proofs.Tables.ShownNames.{names-inserted}
use Rattle.channel_run.proofs.Tables.ShownOperations.{operations_shown, operations-inserted}
use Rattle.channel_run.proofs.Tables.Kept.{Kept, Whole, rosters_by, shown_by}
use Rattle.event_list.specs.Waiting.{Waiting}
use Rattle.channel_model.specs.Rosters.{Roster}
use Rattle.channel_run.specs.RunShown.{stream_ticket}
use Rattle.channel_run.proofs.Tables.Fits.{Fits}
use Rattle.channel_run.proofs.Tables.OneTicket.{HoldsAt, held-same}

module _ {T W : Type 0} (kept : Kept T W) (whole : Whole kept) where
  abbrev here : View T
  here = shown_by kept

  abbrev waiting : Rosters
  waiting = rosters_by kept

  is : Fits kept waiting
  is = fits-whole kept whole

  -- an operation that holds no ticket is started
  pub stepped-started : (step : Step T) (op : ℕ) (operation : Started T) (operations' : List (ℕ × Started T))
      → entry_at kept.operations op ≡ None → send_ticket operation ≡ None → recv_ticket operation ≡ None
      → closed_ticket operation ≡ None
      → Changed op kept.operations operations' (Some operation) → length operations' ≡ length kept.operations + 1
      → IsMade here step Done (record here { operations = here.operations ++ (op, operation_shown operation) ∷ [] })
      → Stepped here step Done (record kept { operations = operations' })
  stepped-started step op operation operations' absent a b c change more made =
      stepped here step Done (record kept { operations = operations' }) waiting
      (record {
        counts_senders = is.counts_senders;
        counts_receivers = is.counts_receivers;
        fits_sends = none_more send_ticket a kept.core.sends waiting.sends is.fits_sends;
        fits_receives = none_more recv_ticket b kept.core.receives waiting.receives is.fits_receives;
        fits_streams = is.fits_streams;
        fits_closeds = none_more closed_ticket c kept.core.closeds waiting.closeds is.fits_closeds;
      })
      (IsMade-AreAlike here (record here { operations = here.operations ++ (op, operation_shown operation) ∷ [] })
      (record here { operations = operations_shown operations' }) step Done made
      (alike-operations here (operations_shown operations') (here.operations ++ (op, operation_shown operation) ∷ [])
      (operations-inserted op kept.operations operations' operation change
      (ap (λ (found : Option (Started T)). is_some found) absent) more)))
    where
      none_more : (ticket : Started T → Option ℕ) → ticket operation ≡ None
          → (list : Waiting W) (roster : Roster)
          → HoldsAt ticket kept.operations list roster → HoldsAt ticket operations' list roster
      none_more ticket none list roster holds =
          held-same ticket op kept.operations operations' (Some operation) change None
          (ap (λ (found : Option (Started T)). option_and_then ticket found) absent) list roster holds none

  -- one receiver more
  abbrev pub with_receiver : List (ℕ × Option ℕ) → Kept T W
  with_receiver receivers' = record kept {
    core = record kept.core { receivers = kept.core.receivers + 1 };
    receivers = receivers';
  }

  -- a receiver is made
  pub stepped-receiver : (step : Step T) (reply : Reply T) (name : ℕ) (receivers' : List (ℕ × Option ℕ))
      → entry_at kept.receivers name ≡ None
      → Changed name kept.receivers receivers' (Some None) → length receivers' ≡ length kept.receivers + 1
      → IsMade here step reply (record here { receivers = here.receivers ++ name ∷ [] })
      → Stepped here step reply (with_receiver receivers')
  stepped-receiver step reply name receivers' absent change more made =
      stepped here step reply (with_receiver receivers') waiting
      (record {
        counts_senders = is.counts_senders;
        counts_receivers = ap (λ count. count + 1) is.counts_receivers ∙ sym more;
        fits_sends = is.fits_sends;
        fits_receives = is.fits_receives;
        fits_streams = held-same stream_ticket name kept.receivers receivers' (Some None) change None
            (ap (λ (found : Option (Option ℕ)). option_and_then stream_ticket found) absent)
            kept.core.streams waiting.streams is.fits_streams refl;
        fits_closeds = is.fits_closeds;
      })
      (IsMade-AreAlike here (record here { receivers = here.receivers ++ name ∷ [] })
      (record here { receivers = keys_of receivers' }) step reply made
      (alike-receivers here (keys_of receivers') (here.receivers ++ name ∷ [])
      (names-inserted name kept.receivers receivers' None change more)))
