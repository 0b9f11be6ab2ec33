-- What a run keeps fits together: its core counts the names, and each list shows its roster.
use Rattle.std.proofs.Common.{◌≡◌, List, ◌++◌, true, sym, ◌∙◌, ap, subst, length}
use Rattle.event_list.specs.Waiting.{payloads, told_all}
use Rattle.channel_model.specs.declared.step.Step.{Step}
use Rattle.channel_model.specs.declared.step.Reply.{Reply}
use Rattle.channel_core.specs.Channel.{Change, Channel, accepting, receiving}
use Rattle.channel_model.specs.Rosters.{Roster, Rosters}
use Rattle.channel_model.specs.View.{View}
use Rattle.channel_run.specs.RunSteps.{IsMade}
use Rattle.channel_run.specs.RunShown.{closed_ticket, recv_ticket, send_ticket, stream_ticket}
use Rattle.channel_run.proofs.Waiting.HeldLists.{holds-refl, holds-told_all, holds-told_one}
use Rattle.channel_run.proofs.Outcomes.Tellings.{accepted_told, closed_told, received_told}
use Rattle.channel_run.proofs.Tables.Kept.{Kept, Whole, rosters_by, shown_by, with_core}
use Rattle.channel_run.proofs.Tables.OneTicket.{HoldsAt}

module _ {T W : Type 0} where
  -- The core counts the names, and its lists are held and show these rosters.
  pub record Fits (kept : Kept T W) (all : Rosters) : Type 0 where
    pub counts_senders : kept.core.senders ≡ length kept.senders
    pub counts_receivers : kept.core.receivers ≡ length kept.receivers
    pub fits_sends : HoldsAt send_ticket kept.operations kept.core.sends all.sends
    pub fits_receives : HoldsAt recv_ticket kept.operations kept.core.receives all.receives
    pub fits_streams : HoldsAt stream_ticket kept.receivers kept.core.streams all.streams
    pub fits_closeds : HoldsAt closed_ticket kept.operations kept.core.closeds all.closeds

  pub fits-whole : (kept : Kept T W) → Whole kept → Fits kept (rosters_by kept)
  fits-whole kept whole = record {
    counts_senders = whole.count_senders;
    counts_receivers = whole.count_receivers;
    fits_sends = holds-refl _ _ kept.core.sends whole.each_send;
    fits_receives = holds-refl _ _ kept.core.receives whole.each_receive;
    fits_streams = holds-refl _ _ kept.core.streams whole.each_stream;
    fits_closeds = holds-refl _ _ kept.core.closeds whole.each_closed;
  }

  pub whole-Fits : (kept : Kept T W) (all : Rosters) → Fits kept all → Whole kept
  whole-Fits kept all fits = record {
    count_senders = fits.counts_senders;
    count_receivers = fits.counts_receivers;
    each_send = fits.fits_sends.each;
    each_receive = fits.fits_receives.each;
    each_stream = fits.fits_streams.each;
    each_closed = fits.fits_closeds.each;
  }

  pub shows-Fits : (kept : Kept T W) (all : Rosters) → Fits kept all → rosters_by kept ≡ all
  shows-Fits kept all fits =
      let now = rosters_by kept in
      ap (λ (r : Roster). record { sends = r; receives = now.receives; streams = now.streams; closeds = now.closeds })
      fits.fits_sends.shows
      ∙ ap (λ (r : Roster). record { sends = all.sends; receives = r; streams = now.streams; closeds = now.closeds })
      fits.fits_receives.shows
      ∙ ap (λ (r : Roster). record { sends = all.sends; receives = all.receives; streams = r; closeds = now.closeds })
      fits.fits_streams.shows
      ∙ ap (λ (r : Roster). record { sends = all.sends; receives = all.receives; streams = all.streams; closeds = r })
      fits.fits_closeds.shows

  -- The step was made, and what the run keeps now fits together.
  pub record Stepped (run : View T) (step : Step T) (reply : Reply T)
      (kept : Kept T W) : Type 0 where
    pub whole : Whole kept
    pub made : IsMade run step reply (shown_by kept)

  pub stepped : (run : View T) (step : Step T) (reply : Reply T) (kept : Kept T W) (all : Rosters)
      → Fits kept all
      → IsMade run step reply (record (shown_by kept) { rosters = all }) → Stepped run step reply kept
  stepped run step reply kept all fits made = record {
    whole = whole-Fits kept all fits;
    made = subst (λ (r : Rosters). IsMade run step reply (record (shown_by kept) { rosters = r }))
        (sym (shows-Fits kept all fits)) made;
  }

  -- what closing makes of an open channel
  abbrev pub closed_now : Channel T W → Change T W
  closed_now core = record {
    channel = record core {
      closed = true;
      sends = told_all core.sends;
      receives = told_all core.receives;
      streams = told_all core.streams;
    };
    rung = payloads core.sends ++ payloads core.receives ++ payloads core.streams;
  }

  -- ---- what the core's steps do to it

  module _ (kept : Kept T W) (all : Rosters) (fits : Fits kept all) where
    pub fits-accepting : (message : T)
        → Fits (with_core kept (accepting message kept.core).channel) (accepted_told all)
    fits-accepting message = record {
      counts_senders = fits.counts_senders;
      counts_receivers = fits.counts_receivers;
      fits_sends = fits.fits_sends;
      fits_receives = holds-told_one _ _ kept.core.receives all.receives fits.fits_receives;
      fits_streams = holds-told_all _ _ kept.core.streams all.streams fits.fits_streams;
      fits_closeds = fits.fits_closeds;
    }

    pub fits-messages : (messages : List T)
        → Fits (with_core kept (record kept.core { messages = messages })) all
    fits-messages messages = record {
      counts_senders = fits.counts_senders;
      counts_receivers = fits.counts_receivers;
      fits_sends = fits.fits_sends;
      fits_receives = fits.fits_receives;
      fits_streams = fits.fits_streams;
      fits_closeds = fits.fits_closeds;
    }

    pub fits-receiving : Fits (with_core kept (receiving kept.core).channel) (received_told all)
    fits-receiving = record {
      counts_senders = fits.counts_senders;
      counts_receivers = fits.counts_receivers;
      fits_sends = holds-told_one _ _ kept.core.sends all.sends fits.fits_sends;
      fits_receives = fits.fits_receives;
      fits_streams = fits.fits_streams;
      fits_closeds = fits.fits_closeds;
    }

    pub fits-closed : Fits (with_core kept (closed_now kept.core).channel) (closed_told all)
    fits-closed = record {
      counts_senders = fits.counts_senders;
      counts_receivers = fits.counts_receivers;
      fits_sends = holds-told_all _ _ kept.core.sends all.sends fits.fits_sends;
      fits_receives = holds-told_all _ _ kept.core.receives all.receives fits.fits_receives;
      fits_streams = holds-told_all _ _ kept.core.streams all.streams fits.fits_streams;
      fits_closeds = fits.fits_closeds;
    }
