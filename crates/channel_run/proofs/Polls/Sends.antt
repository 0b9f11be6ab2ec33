-- The poll of a send.
use Rattle.std.proofs.Common.{◌≡◌, ℕ, List, [], ◌∷◌, ◌++◌, Bool, true, false, Some, None, Option, inl, inr, refl, sym, ◌∙◌, ap, subst, length}
use Rattle.std.specs.Prelude.{Result, IfOk, OnErr}
use Rattle.futures.specs.declared.task.Poll.{Poll as Polled}
use Rattle.futures.specs.declared.task.Poll.TheVariants.{Ready, Pending}
use Rattle.event_list.specs.Waiting.{Waiting}
use Rattle.channel_core.specs.declared.errors.SendError.{SendError}
use Rattle.channel_core.specs.declared.errors.OutOfMemory.{OutOfMemory as OutOfMemoryError}
use Rattle.channel_model.specs.declared.step.Refusal.TheVariants.{OutOfMemory}
use Rattle.channel_run.specs.declared.operations.Operation.{Operation as Started}
use Rattle.channel_run.specs.declared.operations.Operation.TheVariants.{Send}
use Rattle.channel_model.specs.declared.step.Step.TheVariants.{Poll}
use Rattle.channel_model.specs.declared.step.Reply.TheVariants.{SendPolled, Refused}
use Rattle.channel_core.specs.Channel.{Channel, SendWaits, SendWants, accepting, is_channel_full, polled_send, sending}
use Rattle.channel_core.specs.Tables.{OnReady, OnWait, send_poll}
use Rattle.channel_model.specs.Replies.{is_pending}
use Rattle.channel_core.specs.Tickets.{left}
use Rattle.channel_model.specs.Operations.{operation_in, with_finished}
use Rattle.channel_model.specs.Operations as model
use Rattle.channel_model.specs.Rosters.{Roster, Rosters, leave, wait}
use Rattle.channel_model.specs.View.{View}
use Rattle.channel_model.specs.Memory.{may_want_memory_in}
use Rattle.channel_run.specs.RunSteps.{IsMade}
use Rattle.channel_run.specs.RunShown.{Changed, closed_ticket, entry_at, recv_ticket, send_ticket}
use Rattle.channel_run.proofs.Alike.SameViews.{IsMade-AreAlike, alike-operations}
use Rattle.channel_run.proofs.Steps.Wanting.{brings-send, wants-message, wants-wait}
use Rattle.channel_run.proofs.Outcomes.Tellings.{accepted_told}
use Rattle.channel_run.proofs.Outcomes.Polls.{made-poll_finished_send, made-poll_send_accepted, made-poll_send_closed, made-poll_send_full}
use Rattle.channel_run.proofs.Tables.Fits.{Fits, Stepped, fits-accepting, fits-whole, stepped}
use Rattle.channel_run.proofs.Tables.Kept.{Kept, Whole, rosters_by, shown_by}
use Rattle.channel_run.proofs.Tables.OneTicket.{HoldsAt}
use Rattle.channel_run.proofs.Tables.PlainSteps.{full_shown}
use Rattle.channel_run.proofs.Tables.ShownOperations.{operations-finished, operations_shown}
use Rattle.channel_run.proofs.Polls.Outcome.{Outcome, both_on_wait, polled, whole_poll}
use Rattle.channel_run.proofs.Polls.OneOperation.{OnePoll, after, alike, done, fits-lists, known, list-left, list-same, list-waits, live, newcomer, wanted}

module _ {T W : Type 0} (kept : Kept T W) (whole : Whole kept) (op : ℕ)
    (operations' : List (ℕ × Started T)) (same : length operations' ≡ length kept.operations)
    (sender : ℕ) (message message' : Option T) (ticket ticket' : Option ℕ)
    (there : entry_at kept.operations op ≡ Some (Send sender message ticket))
    (change : Changed op kept.operations operations' (Some (Send sender message' ticket'))) where
  abbrev run : View T
  run = shown_by kept

  abbrev all : Rosters
  all = rosters_by kept

  abbrev one : OnePoll T W
  one = record {
    kept = kept;
    whole = whole;
    op = op;
    operations = operations';
    same = same;
    was = Send sender message ticket;
    now = Send sender message' ticket';
    there = there;
    change = change;
  }

  is : Fits kept all
  is = fits-whole kept whole

  -- the list of sends is this now, and the others are as they were
  fits-sends : (list : Waiting W) (roster : Roster) → HoldsAt send_ticket operations' list roster
      → Fits (after one (record kept.core { sends = list })) (record all { sends = roster })
  fits-sends list roster holds =
      fits-lists one list kept.core.receives kept.core.closeds roster all.receives all.closeds holds
      (list-same one recv_ticket kept.core.receives all.receives is.fits_receives refl)
      (list-same one closed_ticket kept.core.closeds all.closeds is.fits_closeds refl)

  abbrev gone : Rosters
  gone = record all { sends = leave op all.sends }

  fits-gone : ticket' ≡ None
      → Fits (after one (record kept.core { sends = left ticket kept.core.sends })) gone
  fits-gone none = fits-sends (left ticket kept.core.sends) (leave op all.sends)
      (list-left one send_ticket kept.core.sends all.sends is.fits_sends none)

  -- the operation, by its message
  live_with : (m : T) → message ≡ Some m
      → operation_in run.operations op ≡ Some (model.sending sender (Some m))
  live_with m e = live one ∙ ap (λ (x : Option T). Some (model.sending sender x)) e

  -- the operation has finished
  finished : (messages : List T) (rosters : Rosters) (answer : Result (Unit {0}) (SendError T))
      → message' ≡ None
      → IsMade run (Poll op) (SendPolled (Ready answer)) (record run
      { messages = messages; operations = with_finished op run.operations; rosters = rosters })
      → IsMade run (Poll op) (SendPolled (Ready answer)) (record run
      { messages = messages; operations = operations_shown operations'; rosters = rosters })
  finished messages rosters answer sent made =
      IsMade-AreAlike run (record run {
        messages = messages;
        operations = with_finished op run.operations;
        rosters = rosters;
      })
      (record run { messages = messages; operations = operations_shown operations'; rosters = rosters })
      (Poll op) (SendPolled (Ready answer)) made
      (alike-operations (record run { messages = messages; rosters = rosters }) (operations_shown operations')
      (with_finished op run.operations)
      (operations-finished op kept.operations operations' (Send sender message ticket)
      (Send sender message' ticket') there change (ap (λ m. model.sending sender m) sent) same))

  -- a poll that was ready
  ready : (answer : Result (Unit {0}) (SendError T))
      → Ready answer ≡ send_poll message kept.core.closed (is_channel_full kept.core)
      → (message' ≡ None) × (ticket' ≡ None)
      → Stepped run (Poll op) (SendPolled (Ready answer)) (after one (polled_send message ticket kept.core).channel)
  ready answer replied ends = by_message message refl replied
    where
      go : (m : T) → message ≡ Some m → (closed : Bool) → kept.core.closed ≡ closed → (full : Bool)
          → is_channel_full kept.core ≡ full → Ready answer ≡ send_poll (Some m) closed full
          → Stepped run (Poll op) (SendPolled (Ready answer))
          (after one (sending closed full m (record kept.core { sends = left ticket kept.core.sends })).channel)
      go m e true f full h replied =
          stepped run (Poll op) (SendPolled (Ready answer))
          (after one (record kept.core { sends = left ticket kept.core.sends })) gone (fits-gone ends.1)
          (finished kept.core.messages gone answer ends.0
          (subst (λ p. IsMade run (Poll op) (SendPolled p)
          (record run { operations = with_finished op run.operations; rosters = gone })) (sym replied)
          (made-poll_send_closed run op sender m (live_with m e) f)))
      go m e false f true h replied = cc
      go m e false f false h replied =
          stepped run (Poll op) (SendPolled (Ready answer))
          (after one (accepting m (record kept.core { sends = left ticket kept.core.sends })).channel)
          (accepted_told gone)
          (fits-accepting (after one (record kept.core { sends = left ticket kept.core.sends })) gone
          (fits-gone ends.1) m)
          (finished (kept.core.messages ++ m ∷ []) (accepted_told gone) answer ends.0
          (subst (λ p. IsMade run (Poll op) (SendPolled p)
          (record run {
            messages = kept.core.messages ++ m ∷ [];
            operations = with_finished op run.operations;
            rosters = accepted_told gone;
          })) (sym replied)
          (made-poll_send_accepted run op sender m (live_with m e) f (full_shown kept ∙ h))))

      by_message : (m : Option T) → message ≡ m
          → Ready answer ≡ send_poll m kept.core.closed (is_channel_full kept.core)
          → Stepped run (Poll op) (SendPolled (Ready answer)) (after one (polled_send m ticket kept.core).channel)
      by_message None e replied = cc
      by_message (Some m) e replied = go m e kept.core.closed refl (is_channel_full kept.core) refl replied

  -- one that was pending: an unfinished send waits, and a finished one changes nothing
  waited : (payload : W) (core' : Channel T W)
      → Pending ≡ send_poll message kept.core.closed (is_channel_full kept.core)
      → SendWaits message ticket kept.core payload ticket' core' → message' ≡ message
      → Stepped run (Poll op) (SendPolled Pending) (after one core')
  waited payload core' replied now unsent =
      go message refl kept.core.closed refl (is_channel_full kept.core) refl replied now
    where
      go : (m : Option T) → message ≡ m → (closed : Bool) → kept.core.closed ≡ closed
          → (full : Bool)
          → is_channel_full kept.core ≡ full → Pending ≡ send_poll m closed full
          → SendWaits m ticket kept.core payload ticket' core'
          → Stepped run (Poll op) (SendPolled Pending) (after one core')
      go None e closed f full h replied now =
          subst (λ (channel : Channel T W). Stepped run (Poll op) (SendPolled Pending) (after one channel)) (sym now.0)
          (stepped run (Poll op) (SendPolled Pending) (after one kept.core) all
          (fits-sends kept.core.sends all.sends
          (list-same one send_ticket kept.core.sends all.sends is.fits_sends now.1))
          (alike one kept.core.messages all (SendPolled Pending) (ap (λ m. model.sending sender m) unsent)
          (made-poll_finished_send run op sender
          (live one ∙ ap (λ (x : Option T). Some (model.sending sender x)) e))))
      go (Some m) e true f full h replied now = cc
      go (Some m) e false f false h replied now = cc
      go (Some m) e false f true h replied now =
          subst (λ (channel : Channel T W). Stepped run (Poll op) (SendPolled Pending) (after one channel)) (sym now.0)
          (stepped run (Poll op) (SendPolled Pending) (after one (record kept.core { sends = core'.sends }))
          (record all { sends = wait op all.sends })
          (fits-sends core'.sends (wait op all.sends)
          (list-waits one send_ticket kept.core.sends all.sends is.fits_sends payload core'.sends now.1))
          (alike one kept.core.messages (record all { sends = wait op all.sends }) (SendPolled Pending)
          (ap (λ m. model.sending sender m) unsent)
          (made-poll_send_full run op sender m (live_with m e) f (full_shown kept ∙ h))))

  -- memory was wanted, for the message or for the entry of one who begins to wait
  wanted-send : SendWants message ticket kept.core → (message' ≡ message) × (ticket' ≡ ticket)
      → Outcome run (Poll op) (Refused OutOfMemory None) (after one kept.core)
  wanted-send wants held =
      wanted one held.1 refl refl (ap (λ m. model.sending sender m) held.0) (go message refl wants)
    where
      go : (m : Option T) → message ≡ m → SendWants m ticket kept.core
          → may_want_memory_in run (Poll op) ≡ true
      go None e wants = absurd wants
      go (Some m) e (inl grows) = wants-message run (Poll op) (known one)
          (brings-send run op sender m (live_with m e)) grows.1 grows.0
      go (Some m) e (inr begins) = waiting kept.core.closed refl (is_channel_full kept.core) refl begins.0
        where
          waiting : (closed : Bool) → kept.core.closed ≡ closed → (full : Bool)
              → is_channel_full kept.core ≡ full
              → send_poll (Some m) closed full ≡ Pending → may_want_memory_in run (Poll op) ≡ true
          waiting true f full h pending = cc
          waiting false f false h pending = cc
          waiting false f true h pending =
              wants-wait run (Poll op) (known one)
              (newcomer one begins.1 refl refl
              (ap (λ (x : Option T). model.is_finished_send (Some (model.sending sender x))) e))
              (ap is_pending (sym (made-poll_send_full run op sender m (live_with m e) f
              (full_shown kept ∙ h)).replied))

  -- the whole poll
  pub polled-send : (result : Result (Polled (Result (Unit {0}) (SendError T))) OutOfMemoryError)
      (core' : Channel T W) (payload : W)
      → IfOk result (λ poll. poll ≡ send_poll message kept.core.closed (is_channel_full kept.core))
      → OnReady result (core' ≡ (polled_send message ticket kept.core).channel)
      → OnReady result ((message' ≡ None) × (ticket' ≡ None))
      → OnWait result (SendWaits message ticket kept.core payload ticket' core')
      → OnWait result (message' ≡ message) → OnErr result (core' ≡ kept.core)
      → OnErr result ((message' ≡ message) × (ticket' ≡ ticket)) → OnErr result (SendWants message ticket kept.core)
      → Outcome run (Poll op) (polled SendPolled result) (after one core')
  polled-send result core' payload replied after_it ends waits unsent =
      whole_poll (λ reply core. Outcome run (Poll op) reply (after one core)) SendPolled
      (send_poll message kept.core.closed (is_channel_full kept.core)) kept.core
      (polled_send message ticket kept.core).channel
      ((message' ≡ None) × (ticket' ≡ None)) ((message' ≡ message) × (ticket' ≡ ticket))
      (SendWants message ticket kept.core)
      (λ core. SendWaits message ticket kept.core payload ticket' core × (message' ≡ message))
      (λ answer replied ends. done one (ready answer replied ends))
      (λ core replied both. done one (waited payload core replied both.0 both.1))
      wanted-send result core' replied after_it ends
      (both_on_wait (SendWaits message ticket kept.core payload ticket' core') (message' ≡ message) result waits unsent)
