-- The poll of a receive.
use Rattle.std.proofs.Common.{◌≡◌, ℕ, List, [], ◌∷◌, Bool, true, false, None, Some, Option, refl, sym, ap, subst, length, drop}
use Rattle.std.specs.Prelude.{Result, IfOk, OnErr, slice_get}
use Rattle.futures.specs.declared.task.Poll.{Poll as Polled}
use Rattle.futures.specs.declared.task.Poll.TheVariants.{Ready, Pending}
use Rattle.event_list.specs.Waiting.{Waiting}
use Rattle.channel_core.specs.declared.errors.RecvError.{RecvError}
use Rattle.channel_core.specs.declared.errors.OutOfMemory.{OutOfMemory as OutOfMemoryError}
use Rattle.channel_model.specs.declared.step.Refusal.TheVariants.{OutOfMemory}
use Rattle.channel_run.specs.declared.operations.Operation.{Operation as Started}
use Rattle.channel_run.specs.declared.operations.Operation.TheVariants.{Recv}
use Rattle.channel_model.specs.declared.step.Step.TheVariants.{Poll}
use Rattle.channel_model.specs.declared.step.Reply.TheVariants.{RecvPolled, Refused}
use Rattle.channel_core.specs.Channel.{Channel, RecvWaits, RecvWants, oldest, polled_receive, receiving, taking}
use Rattle.channel_core.specs.Tables.{OnReady, OnWait, recv_poll}
use Rattle.channel_model.specs.Replies.{is_pending}
use Rattle.channel_core.specs.Tickets.{left}
use Rattle.channel_model.specs.Rosters.{Roster, Rosters, leave, wait}
use Rattle.channel_model.specs.View.{View}
use Rattle.channel_run.specs.RunSteps.{IsMade}
use Rattle.channel_run.specs.RunShown.{Changed, closed_ticket, entry_at, recv_ticket, send_ticket}
use Rattle.channel_run.proofs.Steps.Wanting.{wants-wait}
use Rattle.channel_run.proofs.Outcomes.Tellings.{received_told}
use Rattle.channel_run.proofs.Outcomes.Polls.{made-poll_recv_closed, made-poll_recv_pending, made-poll_recv_taken}
use Rattle.channel_run.proofs.Tables.Fits.{Fits, Stepped, fits-receiving, fits-whole, stepped}
use Rattle.channel_run.proofs.Tables.Kept.{Kept, Whole, rosters_by, shown_by}
use Rattle.channel_run.proofs.Tables.OneTicket.{HoldsAt}
use Rattle.channel_run.proofs.Polls.Outcome.{Outcome, polled, whole_poll}
use Rattle.channel_run.proofs.Polls.OneOperation.{OnePoll, after, alike, done, fits-lists, known, list-left, list-same, list-waits, live, newcomer, wanted}

module _ {T W : Type 0} (kept : Kept T W) (whole : Whole kept) (op : ℕ)
    (operations' : List (ℕ × Started T)) (same : length operations' ≡ length kept.operations)
    (receiver : ℕ) (ticket ticket' : Option ℕ)
    (there : entry_at kept.operations op ≡ Some (Recv receiver ticket))
    (change : Changed op kept.operations operations' (Some (Recv receiver ticket'))) where
  abbrev run : View T
  run = shown_by kept

  abbrev all : Rosters
  all = rosters_by kept

  abbrev one : OnePoll T W
  one = record {
    kept = kept;
    whole = whole;
    op = op;
    operations = operations';
    same = same;
    was = Recv receiver ticket;
    now = Recv receiver ticket';
    there = there;
    change = change;
  }

  is : Fits kept all
  is = fits-whole kept whole

  -- the list of receives is this now, and the others are as they were
  fits-receives : (list : Waiting W) (roster : Roster) → HoldsAt recv_ticket operations' list roster
      → Fits (after one (record kept.core { receives = list })) (record all { receives = roster })
  fits-receives list roster holds =
      fits-lists one kept.core.sends list kept.core.closeds
      all.sends roster all.closeds
      (list-same one send_ticket kept.core.sends all.sends
      is.fits_sends refl) holds
      (list-same one closed_ticket kept.core.closeds all.closeds
      is.fits_closeds refl)

  abbrev gone : Rosters
  gone = record all { receives = leave op all.receives }

  fits-gone : ticket' ≡ None
      → Fits (after one (record kept.core { receives = left ticket kept.core.receives })) gone
  fits-gone none = fits-receives (left ticket kept.core.receives) (leave op all.receives)
      (list-left one recv_ticket kept.core.receives all.receives
      is.fits_receives none)

  -- a poll that was ready
  ready : (answer : Result T RecvError)
      → Ready answer ≡ recv_poll (oldest kept.core) kept.core.closed
      → ticket' ≡ None
      → Stepped run (Poll op) (RecvPolled (Ready answer)) (after one (polled_receive ticket kept.core).channel)
  ready answer replied none = go kept.core.messages refl kept.core.closed refl replied
    where
      go : (messages : List T) → kept.core.messages ≡ messages → (closed : Bool)
          → kept.core.closed ≡ closed
          → Ready answer ≡ recv_poll (slice_get messages 0) closed
          → Stepped run (Poll op) (RecvPolled (Ready answer))
          (after one (taking messages (record kept.core { receives = left ticket kept.core.receives })).channel)
      go [] e false f replied = cc
      go [] e true f replied =
          stepped run (Poll op) (RecvPolled (Ready answer))
          (after one (record kept.core { receives = left ticket kept.core.receives })) gone (fits-gone none)
          (alike one kept.core.messages gone (RecvPolled (Ready answer)) refl
          (subst (λ p. IsMade run (Poll op) (RecvPolled p) (record run { rosters = gone })) (sym replied)
          (made-poll_recv_closed run op receiver (live one) f
          (ap (λ (ms : List T). slice_get ms 0) e))))
      go (m ∷ others) e closed f replied =
          stepped run (Poll op) (RecvPolled (Ready answer))
          (after one (receiving (record kept.core { receives = left ticket kept.core.receives })).channel)
          (received_told gone)
          (fits-receiving (after one (record kept.core { receives = left ticket kept.core.receives })) gone
          (fits-gone none))
          (alike one (drop 1 kept.core.messages) (received_told gone) (RecvPolled (Ready answer)) refl
          (subst (λ p. IsMade run (Poll op) (RecvPolled p)
          (record run { messages = drop 1 kept.core.messages; rosters = received_told gone })) (sym replied)
          (made-poll_recv_taken run op receiver m (live one)
          (ap (λ (ms : List T). slice_get ms 0) e))))

  -- one that was pending
  pending : Pending ≡ recv_poll (oldest kept.core) kept.core.closed
      → IsMade run (Poll op) (RecvPolled Pending)
      (record run { rosters = record all { receives = wait op all.receives } })
  pending replied = go kept.core.messages refl kept.core.closed refl replied
    where
      go : (messages : List T) → kept.core.messages ≡ messages → (closed : Bool)
          → kept.core.closed ≡ closed
          → Pending ≡ recv_poll (slice_get messages 0) closed
          → IsMade run (Poll op) (RecvPolled Pending)
          (record run { rosters = record all { receives = wait op all.receives } })
      go [] e true f replied = cc
      go (m ∷ rest) e closed f replied = cc
      go [] e false f replied =
          made-poll_recv_pending run op receiver (live one) f
          (ap (λ (ms : List T). slice_get ms 0) e)

  waited : (payload : W) (core' : Channel T W)
      → Pending ≡ recv_poll (oldest kept.core) kept.core.closed
      → RecvWaits ticket kept.core payload ticket' core' → Stepped run (Poll op) (RecvPolled Pending) (after one core')
  waited payload core' replied waits =
      subst (λ (channel : Channel T W). Stepped run (Poll op) (RecvPolled Pending) (after one channel)) (sym waits.0)
      (stepped run (Poll op) (RecvPolled Pending) (after one (record kept.core { receives = core'.receives }))
      (record all { receives = wait op all.receives })
      (fits-receives core'.receives (wait op all.receives)
      (list-waits one recv_ticket kept.core.receives all.receives
      is.fits_receives payload core'.receives waits.1))
      (alike one kept.core.messages (record all { receives = wait op all.receives }) (RecvPolled Pending) refl
      (pending replied)))

  wanted-recv : RecvWants ticket kept.core → ticket' ≡ ticket
      → Outcome run (Poll op) (Refused OutOfMemory None) (after one kept.core)
  wanted-recv begins held =
      wanted one refl held refl refl
      (wants-wait run (Poll op) (known one)
      (newcomer one refl begins.1 refl refl)
      (ap is_pending (sym (pending (sym begins.0)).replied)))

  -- the whole poll
  pub polled-recv : (result : Result (Polled (Result T RecvError)) OutOfMemoryError) (core' : Channel T W)
      (payload : W) → IfOk result (λ poll. poll ≡ recv_poll (oldest kept.core) kept.core.closed)
      → OnReady result (core' ≡ (polled_receive ticket kept.core).channel) → OnReady result (ticket' ≡ None)
      → OnWait result (RecvWaits ticket kept.core payload ticket' core') → OnErr result (core' ≡ kept.core)
      → OnErr result (ticket' ≡ ticket) → OnErr result (RecvWants ticket kept.core)
      → Outcome run (Poll op) (polled RecvPolled result) (after one core')
  polled-recv result core' payload =
      whole_poll (λ reply core. Outcome run (Poll op) reply (after one core)) RecvPolled
      (recv_poll (oldest kept.core) kept.core.closed) kept.core (polled_receive ticket kept.core).channel
      (ticket' ≡ None) (ticket' ≡ ticket) (RecvWants ticket kept.core)
      (λ core. RecvWaits ticket kept.core payload ticket' core)
      (λ answer replied none. done one
      (ready answer replied none))
      (λ core replied waits. done one
      (waited payload core replied waits))
      wanted-recv result core'
