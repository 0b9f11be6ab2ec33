-- The poll of a closed operation.
use Rattle.std.proofs.Common.{◌≡◌, ℕ, List, Bool, true, false, None, Some, Option, refl, sym, ap, subst, length, ◌∙◌, ◌==◌}
use Rattle.std.specs.Prelude.{Result, IfOk, OnErr}
use Rattle.futures.specs.declared.task.Poll.{Poll as Polled}
use Rattle.futures.specs.declared.task.Poll.TheVariants.{Ready, Pending}
use Rattle.event_list.specs.Waiting.{Waiting}
use Rattle.channel_model.specs.Closing.{has_none}
use Rattle.std.specs.Map.{keys_of}
use Rattle.std.proofs.lemmas.List.{length-map}
use Rattle.channel_core.specs.declared.errors.OutOfMemory.{OutOfMemory as OutOfMemoryError}
use Rattle.channel_model.specs.declared.step.Refusal.TheVariants.{OutOfMemory}
use Rattle.channel_run.specs.declared.operations.Operation.{Operation as Started}
use Rattle.channel_run.specs.declared.operations.Operation.TheVariants.{Closed}
use Rattle.channel_model.specs.declared.step.Step.TheVariants.{Poll}
use Rattle.channel_model.specs.declared.step.Reply.TheVariants.{ClosedPolled, Refused}
use Rattle.channel_core.specs.Channel.{Channel, ClosedWaits, ClosedWants}
use Rattle.channel_core.specs.Tables.{OnReady, OnWait, closed_poll}
use Rattle.channel_model.specs.Replies.{is_pending}
use Rattle.channel_core.specs.Tickets.{left}
use Rattle.channel_model.specs.Rosters.{Roster, Rosters, leave, wait}
use Rattle.channel_model.specs.View.{View}
use Rattle.channel_run.specs.RunSteps.{IsMade}
use Rattle.channel_run.specs.RunShown.{Changed, closed_ticket, entry_at, recv_ticket, send_ticket}
use Rattle.channel_run.proofs.Steps.Wanting.{wants-wait}
use Rattle.channel_run.proofs.Alike.SameNames.{has_none-length}
use Rattle.channel_run.proofs.Outcomes.Polls.{made-poll_closed_pending, made-poll_closed_ready}
use Rattle.channel_run.proofs.Tables.Fits.{Fits, Stepped, fits-whole, stepped}
use Rattle.channel_run.proofs.Tables.Kept.{Kept, Whole, rosters_by, shown_by}
use Rattle.channel_run.proofs.Tables.OneTicket.{HoldsAt}
use Rattle.channel_run.proofs.Polls.Outcome.{Outcome, polled, whole_poll}
use Rattle.channel_run.proofs.Polls.OneOperation.{OnePoll, after, alike, done, fits-lists, known, list-left, list-same, list-waits, live, newcomer, wanted}

module _ {T W : Type 0} (kept : Kept T W) (whole : Whole kept) (op : ℕ)
    (operations' : List (ℕ × Started T)) (same : length operations' ≡ length kept.operations)
    (sender : ℕ) (ticket ticket' : Option ℕ)
    (there : entry_at kept.operations op ≡ Some (Closed sender ticket))
    (change : Changed op kept.operations operations' (Some (Closed sender ticket'))) where
  abbrev run : View T
  run = shown_by kept

  abbrev all : Rosters
  all = rosters_by kept

  abbrev one : OnePoll T W
  one = record {
    kept = kept;
    whole = whole;
    op = op;
    operations = operations';
    same = same;
    was = Closed sender ticket;
    now = Closed sender ticket';
    there = there;
    change = change;
  }

  is : Fits kept all
  is = fits-whole kept whole

  -- the list of closed operations is this now, and the others are as they were
  fits-closeds : (list : Waiting W) (roster : Roster)
      → HoldsAt closed_ticket operations' list roster
      → Fits (after one (record kept.core { closeds = list })) (record all { closeds = roster })
  fits-closeds list roster holds =
      fits-lists one kept.core.sends kept.core.receives list all.sends all.receives roster
      (list-same one send_ticket kept.core.sends all.sends is.fits_sends refl)
      (list-same one recv_ticket kept.core.receives all.receives is.fits_receives refl) holds

  abbrev gone : Rosters
  gone = record all { closeds = leave op all.closeds }

  fits-gone : ticket' ≡ None
      → Fits (after one (record kept.core { closeds = left ticket kept.core.closeds })) gone
  fits-gone none = fits-closeds (left ticket kept.core.closeds) (leave op all.closeds)
      (list-left one closed_ticket kept.core.closeds all.closeds is.fits_closeds none)

  -- whether a receiver is left shows in the names
  no_receiver : (kept.core.receivers == 0) ≡ has_none (keys_of kept.receivers)
  no_receiver = ap (λ count. count == 0)
      (whole.count_receivers ∙ sym (length-map kept.receivers (λ entry. entry.0)))
      ∙ sym (has_none-length (keys_of kept.receivers))

  -- a poll that was ready
  ready : (answer : Unit {0}) → Ready answer ≡ closed_poll (kept.core.receivers == 0)
      → ticket' ≡ None
      → Stepped run (Poll op) (ClosedPolled (Ready answer))
      (after one (record kept.core { closeds = left ticket kept.core.closeds }))
  ready answer replied none = go (kept.core.receivers == 0) refl replied
    where
      go : (no_more : Bool) → (kept.core.receivers == 0) ≡ no_more
          → Ready answer ≡ closed_poll no_more
          → Stepped run (Poll op) (ClosedPolled (Ready answer))
          (after one (record kept.core { closeds = left ticket kept.core.closeds }))
      go false e replied = cc
      go true e replied =
          stepped run (Poll op) (ClosedPolled (Ready answer))
          (after one (record kept.core { closeds = left ticket kept.core.closeds })) gone (fits-gone none)
          (alike one kept.core.messages gone (ClosedPolled (Ready answer)) refl
          (subst (λ p. IsMade run (Poll op) (ClosedPolled p) (record run { rosters = gone })) (sym replied)
          (made-poll_closed_ready run op sender (live one) (sym no_receiver ∙ e))))

  -- one that was pending
  pending : Pending ≡ closed_poll (kept.core.receivers == 0)
      → IsMade run (Poll op) (ClosedPolled Pending)
      (record run { rosters = record all { closeds = wait op all.closeds } })
  pending replied = go (kept.core.receivers == 0) refl replied
    where
      go : (no_more : Bool) → (kept.core.receivers == 0) ≡ no_more → Pending ≡ closed_poll no_more
          → IsMade run (Poll op) (ClosedPolled Pending)
          (record run { rosters = record all { closeds = wait op all.closeds } })
      go true e replied = cc
      go false e replied = made-poll_closed_pending run op sender (live one) (sym no_receiver ∙ e)

  waited : (payload : W) (core' : Channel T W) → Pending ≡ closed_poll (kept.core.receivers == 0)
      → ClosedWaits ticket kept.core payload ticket' core'
      → Stepped run (Poll op) (ClosedPolled Pending) (after one core')
  waited payload core' replied waits =
      subst (λ (channel : Channel T W). Stepped run (Poll op) (ClosedPolled Pending) (after one channel)) (sym waits.0)
      (stepped run (Poll op) (ClosedPolled Pending) (after one (record kept.core { closeds = core'.closeds }))
      (record all { closeds = wait op all.closeds })
      (fits-closeds core'.closeds (wait op all.closeds)
      (list-waits one closed_ticket kept.core.closeds all.closeds is.fits_closeds payload core'.closeds waits.1))
      (alike one kept.core.messages (record all { closeds = wait op all.closeds }) (ClosedPolled Pending) refl
      (pending replied)))

  wanted-closed : ClosedWants ticket kept.core → ticket' ≡ ticket
      → Outcome run (Poll op) (Refused OutOfMemory None) (after one kept.core)
  wanted-closed begins held =
      wanted one refl refl held refl
      (wants-wait run (Poll op) (known one) (newcomer one refl refl begins.1 refl)
      (ap is_pending (sym (pending (sym begins.0)).replied)))

  -- the whole poll
  pub polled-closed : (result : Result (Polled (Unit {0})) OutOfMemoryError) (core' : Channel T W) (payload : W)
      → IfOk result (λ poll. poll ≡ closed_poll (kept.core.receivers == 0))
      → OnReady result (core' ≡ (record kept.core { closeds = left ticket kept.core.closeds }))
      → OnReady result (ticket' ≡ None)
      → OnWait result (ClosedWaits ticket kept.core payload ticket' core') → OnErr result (core' ≡ kept.core)
      → OnErr result (ticket' ≡ ticket) → OnErr result (ClosedWants ticket kept.core)
      → Outcome run (Poll op) (polled ClosedPolled result) (after one core')
  polled-closed result core' payload =
      whole_poll (λ reply core. Outcome run (Poll op) reply (after one core)) ClosedPolled
      (closed_poll (kept.core.receivers == 0)) kept.core
      (record kept.core { closeds = left ticket kept.core.closeds })
      (ticket' ≡ None) (ticket' ≡ ticket) (ClosedWants ticket kept.core)
      (λ core. ClosedWaits ticket kept.core payload ticket' core)
      (λ answer replied none. done one (ready answer replied none))
      (λ core replied waits. done one (waited payload core replied waits))
      wanted-closed result core'
