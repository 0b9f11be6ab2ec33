-- The poll of an operation of any kind: what stands under its name changes, and its ticket in the list of its kind.
use Rattle.std.proofs.Common.{◌≡◌, ℕ, List, false, true, Some, None, Option, refl, sym, ◌∙◌, ap, subst, length}
use Rattle.std.specs.Prelude.{option_and_then, option_map}
use Rattle.event_list.specs.Keys.{is_among}
use Rattle.event_list.specs.Waiting.{Waiting}
use Rattle.channel_core.specs.Channel.{Channel}
use Rattle.channel_core.specs.Tickets.{Waits, left, waits}
use Rattle.channel_run.specs.declared.operations.Operation.{Operation as Started}
use Rattle.channel_model.specs.declared.step.Refusal.TheVariants.{OutOfMemory}
use Rattle.channel_model.specs.declared.step.Step.TheVariants.{Poll}
use Rattle.channel_model.specs.declared.step.Reply.{Reply}
use Rattle.channel_model.specs.declared.step.Reply.TheVariants.{Refused}
use Rattle.channel_model.specs.Operations.{Operation, is_finished_send, operation_in}
use Rattle.channel_model.specs.Rosters.{Roster, Rosters, leave, wait}
use Rattle.channel_model.specs.View.{AreAlike, AreSameOperations, View}
use Rattle.channel_model.specs.Memory.{may_want_memory_in, polls_newcomer}
use Rattle.channel_model.specs.Refusals.{refusal_in}
use Rattle.channel_run.specs.RunSteps.{IsMade}
use Rattle.channel_run.specs.RunShown.{Changed, closed_ticket, entry_at, operation_shown, recv_ticket, send_ticket, ticket_at}
use Rattle.channel_run.proofs.Alike.SameViews.{IsMade-AreAlike, alike-operations}
use Rattle.channel_run.proofs.Steps.Refused.{StepsTo-made, StepsTo-wants, poll_not_refused}
use Rattle.channel_run.proofs.Tables.Entries.{operation_in-entry_at}
use Rattle.channel_run.proofs.Tables.Fits.{Fits, Stepped, fits-whole, shows-Fits, whole-Fits}
use Rattle.channel_run.proofs.Tables.Kept.{Kept, Whole, rosters_by, shown_by}
use Rattle.channel_run.proofs.Tables.OneTicket.{HoldsAt, held-absent, held-left, held-same, held-waits}
use Rattle.channel_run.proofs.Tables.ShownOperations.{operations-same, operations_shown}
use Rattle.channel_run.proofs.Polls.Outcome.{Outcome, none_of}

-- An operation is polled: what the run keeps before it, and what stands under its name before and after it.
pub record OnePoll (T W : Type 0) : Type 0 where
  pub kept : Kept T W
  pub whole : Whole kept
  pub op : ℕ
  pub operations : List (ℕ × Started T)
  pub same : length operations ≡ length kept.operations
  pub was : Started T
  pub now : Started T
  pub there : entry_at kept.operations op ≡ Some was
  pub change : Changed op kept.operations operations (Some now)

module _ {T W : Type 0} (poll : OnePoll T W) where
  abbrev run : View T
  run = shown_by poll.kept

  abbrev all : Rosters
  all = rosters_by poll.kept

  is : Fits poll.kept all
  is = fits-whole poll.kept poll.whole

  -- the run after the poll, with this core
  abbrev pub after : Channel T W → Kept T W
  after core = record poll.kept { core = core; operations = poll.operations }

  pub live : operation_in run.operations poll.op ≡ Some (operation_shown poll.was)
  live = operation_in-entry_at poll.kept.operations poll.op
      ∙ ap (λ (found : Option (Started T)). option_map operation_shown found) poll.there

  pub known : refusal_in run (Poll poll.op) ≡ None
  known = poll_not_refused run poll.op (operation_shown poll.was) live

  -- ---- the list of its kind, and those of the others

  had : (ticket : Started T → Option ℕ)
      → ticket_at ticket poll.kept.operations poll.op ≡ ticket poll.was
  had ticket = ap (λ (found : Option (Started T)). option_and_then ticket found) poll.there

  module _ (ticket : Started T → Option ℕ) (list : Waiting W) (roster : Roster)
      (holds : HoldsAt ticket poll.kept.operations list roster) where
    pub list-same : ticket poll.now ≡ ticket poll.was → HoldsAt ticket poll.operations list roster
    list-same = held-same ticket poll.op poll.kept.operations poll.operations (Some poll.now) poll.change
        (ticket poll.was) (had ticket)
        list roster holds

    pub list-left : ticket poll.now ≡ None
        → HoldsAt ticket poll.operations (left (ticket poll.was) list) (leave poll.op roster)
    list-left = held-left ticket poll.op poll.kept.operations poll.operations (Some poll.now) poll.change
        (ticket poll.was) (had ticket)
        list roster holds

    pub list-waits : (payload : W) (list' : Waiting W)
        → Waits (ticket poll.was) list payload (ticket poll.now) list'
        → HoldsAt ticket poll.operations list' (wait poll.op roster)
    list-waits = held-waits ticket poll.op poll.kept.operations poll.operations (Some poll.now) poll.change
        (ticket poll.was) (had ticket)
        list roster holds

  -- the run fits together if its three lists do
  pub fits-lists : (sends receives closeds : Waiting W) (a b c : Roster)
      → HoldsAt send_ticket poll.operations sends a → HoldsAt recv_ticket poll.operations receives b
      → HoldsAt closed_ticket poll.operations closeds c
      → Fits (after (record poll.kept.core { sends = sends; receives = receives; closeds = closeds }))
      (record all { sends = a; receives = b; closeds = c })
  fits-lists sends receives closeds a b c x y z = record {
    counts_senders = is.counts_senders;
    counts_receivers = is.counts_receivers;
    fits_sends = x;
    fits_receives = y;
    fits_streams = is.fits_streams;
    fits_closeds = z;
  }

  -- ---- the operations

  same-shown : operation_shown poll.now ≡ operation_shown poll.was
      → AreSameOperations (operations_shown poll.operations) (operations_shown poll.kept.operations)
  same-shown shows = operations-same poll.op poll.kept.operations poll.operations poll.was poll.now poll.there
      poll.change shows poll.same

  -- they show the same, but for a ticket
  pub alike : (messages : List T) (rosters : Rosters) (reply : Reply T)
      → operation_shown poll.now ≡ operation_shown poll.was
      → IsMade run (Poll poll.op) reply (record run { messages = messages; rosters = rosters })
      → IsMade run (Poll poll.op) reply (record run
      { messages = messages; operations = operations_shown poll.operations; rosters = rosters })
  alike messages rosters reply shows made =
      IsMade-AreAlike run (record run { messages = messages; rosters = rosters })
      (record run { messages = messages; operations = operations_shown poll.operations; rosters = rosters })
      (Poll poll.op) reply made
      (alike-operations (record run { messages = messages; rosters = rosters }) (operations_shown poll.operations)
      (operations_shown poll.kept.operations) (same-shown shows))

  -- ---- what the poll did

  pub done : {reply : Reply T} {core' : Channel T W}
      → Stepped run (Poll poll.op) reply (after core')
      → Outcome run (Poll poll.op) reply (after core')
  done {reply} {core'} stepped = record {
    whole = stepped.whole;
    steps = StepsTo-made run (shown_by (after core')) (Poll poll.op) reply known stepped.made;
  }

  -- it begins to wait
  pub newcomer : waits (send_ticket poll.was) poll.kept.core.sends ≡ false
      → waits (recv_ticket poll.was) poll.kept.core.receives ≡ false
      → waits (closed_ticket poll.was) poll.kept.core.closeds ≡ false
      → is_finished_send (Some (operation_shown poll.was)) ≡ false
      → polls_newcomer run (Poll poll.op) ≡ true
  newcomer a b c unfinished =
      none_of (is_among poll.op all.sends.names) (is_among poll.op all.receives.names)
      (is_among poll.op all.closeds.names)
      (is_finished_send (operation_in run.operations poll.op))
      (held-absent send_ticket poll.kept.operations poll.op (send_ticket poll.was)
      (had send_ticket) poll.kept.core.sends all.sends
      is.fits_sends a)
      (held-absent recv_ticket poll.kept.operations poll.op (recv_ticket poll.was)
      (had recv_ticket) poll.kept.core.receives all.receives
      is.fits_receives b)
      (held-absent closed_ticket poll.kept.operations poll.op (closed_ticket poll.was)
      (had closed_ticket) poll.kept.core.closeds
      all.closeds is.fits_closeds c)
      (ap (λ (found : Option (Operation T)). is_finished_send found) live ∙ unfinished)

  -- it wanted memory, and nothing changed
  pub wanted : send_ticket poll.now ≡ send_ticket poll.was
      → recv_ticket poll.now ≡ recv_ticket poll.was
      → closed_ticket poll.now ≡ closed_ticket poll.was → operation_shown poll.now ≡ operation_shown poll.was
      → may_want_memory_in run (Poll poll.op) ≡ true
      → Outcome run (Poll poll.op) (Refused OutOfMemory None) (after poll.kept.core)
  wanted a b c shows may = record {
    whole = whole-Fits (after poll.kept.core) all fits;
    steps = StepsTo-wants run (shown_by (after poll.kept.core)) (Poll poll.op) (Refused OutOfMemory None) may
        (record { replied = refl; unchanged = unchanged });
  }
    where
      fits : Fits (after poll.kept.core) all
      fits = fits-lists poll.kept.core.sends poll.kept.core.receives poll.kept.core.closeds all.sends
          all.receives all.closeds
          (list-same send_ticket poll.kept.core.sends all.sends is.fits_sends a)
          (list-same recv_ticket poll.kept.core.receives all.receives is.fits_receives b)
          (list-same closed_ticket poll.kept.core.closeds all.closeds is.fits_closeds c)

      unchanged : AreAlike (shown_by (after poll.kept.core)) run
      unchanged =
          subst (λ (r : Rosters). AreAlike
          (record run { operations = operations_shown poll.operations; rosters = r }) run)
          (sym (shows-Fits (after poll.kept.core) all fits))
          (alike-operations run (operations_shown poll.operations) (operations_shown poll.kept.operations)
          (same-shown shows))
