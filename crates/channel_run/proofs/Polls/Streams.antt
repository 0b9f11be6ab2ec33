-- The poll of a receiver's stream.
use Rattle.std.proofs.Common.{◌≡◌, ℕ, List, [], ◌∷◌, Bool, true, false, not, Some, None, Option, inl, inr, refl, sym, ◌∙◌, ap, subst, length, drop}
use Rattle.std.specs.Prelude.{Result, IfOk, OnErr, option_and_then, slice_get}
use Rattle.std.specs.Map.{keys_of}
use Rattle.futures.specs.declared.task.Poll.{Poll as Polled}
use Rattle.futures.specs.declared.task.Poll.TheVariants.{Ready, Pending}
use Rattle.event_list.specs.Waiting.{Waiting}
use Rattle.channel_core.specs.declared.errors.OutOfMemory.{OutOfMemory as OutOfMemoryError}
use Rattle.channel_model.specs.declared.step.Refusal.TheVariants.{OutOfMemory}
use Rattle.channel_model.specs.declared.step.Step.{Step}
use Rattle.channel_model.specs.declared.step.Step.TheVariants.{PollNext}
use Rattle.channel_model.specs.declared.step.Reply.{Reply}
use Rattle.channel_model.specs.declared.step.Reply.TheVariants.{NextPolled, Refused}
use Rattle.channel_core.specs.Channel.{Channel, NextWaits, NextWants, oldest, polled_stream, receiving, taking}
use Rattle.channel_core.specs.Tables.{OnReady, OnWait, next_poll}
use Rattle.channel_model.specs.Replies.{is_pending}
use Rattle.channel_core.specs.Tickets.{left}
use Rattle.channel_model.specs.Rosters.{Roster, Rosters, leave, wait}
use Rattle.channel_model.specs.View.{AreSameNames, View, AreAlike}
use Rattle.channel_model.specs.Memory.{polls_newcomer}
use Rattle.channel_run.specs.RunSteps.{IsMade, StepsAsAllowed}
use Rattle.channel_run.specs.RunShown.{Changed, entry_at, stream_ticket, ticket_at}
use Rattle.channel_run.proofs.Outcomes.Polls.{made-poll_next_end, made-poll_next_pending, made-poll_next_taken}
use Rattle.channel_run.proofs.Outcomes.Tellings.{received_told}
use Rattle.channel_run.proofs.Tables.Fits.{Fits, Stepped, fits-receiving, fits-whole, shows-Fits, stepped, whole-Fits}
use Rattle.channel_run.proofs.Alike.SameViews.{alike-receivers, IsMade-AreAlike}
use Rattle.channel_run.proofs.Alike.SameNames.{AreSameNames-refl}
use Rattle.channel_run.proofs.Tables.Kept.{Kept, Whole, rosters_by, shown_by}
use Rattle.channel_run.proofs.Tables.OneTicket.{HoldsAt, held-absent, held-left, held-same, held-waits}
use Rattle.channel_run.proofs.Polls.Outcome.{polled, whole_poll}

-- What a poll did, and that what the run keeps fits together.
pub record Polls {T W : Type 0} (run : View T) (step : Step T) (reply : Reply T)
    (kept : Kept T W) : Type 0 where
  pub whole : Whole kept
  pub polls : StepsAsAllowed run step reply (shown_by kept)

module _ {T W : Type 0} (kept : Kept T W) (whole : Whole kept) (name : ℕ)
    (receivers' : List (ℕ × Option ℕ)) (names : keys_of receivers' ≡ keys_of kept.receivers)
    (same : length receivers' ≡ length kept.receivers) (ticket ticket' : Option ℕ)
    (there : entry_at kept.receivers name ≡ Some ticket)
    (change : Changed name kept.receivers receivers' (Some ticket')) where
  abbrev run : View T
  run = shown_by kept

  abbrev all : Rosters
  all = rosters_by kept

  -- the run after the poll, with this core
  abbrev after : Channel T W → Kept T W
  after core = record kept { core = core; receivers = receivers' }

  is : Fits kept all
  is = fits-whole kept whole

  had : ticket_at stream_ticket kept.receivers name ≡ ticket
  had = ap (λ (found : Option (Option ℕ)). option_and_then stream_ticket found) there

  -- the list of streams is this now, and the others are as they were
  fits-streams : (list : Waiting W) (roster : Roster) → HoldsAt stream_ticket receivers' list roster
      → Fits (after (record kept.core { streams = list })) (record all { streams = roster })
  fits-streams list roster holds = record {
    counts_senders = is.counts_senders;
    counts_receivers = is.counts_receivers ∙ sym same;
    fits_sends = is.fits_sends;
    fits_receives = is.fits_receives;
    fits_streams = holds;
    fits_closeds = is.fits_closeds;
  }

  abbrev gone : Rosters
  gone = record all { streams = leave name all.streams }

  fits-gone : ticket' ≡ None
      → Fits (after (record kept.core { streams = left ticket kept.core.streams })) gone
  fits-gone none = fits-streams (left ticket kept.core.streams) (leave name all.streams)
      (held-left stream_ticket name kept.receivers receivers' (Some ticket') change ticket had kept.core.streams
      all.streams is.fits_streams none)

  same-names : AreSameNames (keys_of receivers') (keys_of kept.receivers)
  same-names = subst (λ ns. AreSameNames ns (keys_of kept.receivers)) (sym names)
      (AreSameNames-refl (keys_of kept.receivers))

  alike : (messages : List T) (rosters : Rosters) (reply : Reply T)
      → IsMade run (PollNext name) reply (record run { messages = messages; rosters = rosters })
      → IsMade run (PollNext name) reply (record run
      { messages = messages; receivers = keys_of receivers'; rosters = rosters })
  alike messages rosters reply made =
      IsMade-AreAlike run (record run { messages = messages; rosters = rosters })
      (record run { messages = messages; receivers = keys_of receivers'; rosters = rosters })
      (PollNext name) reply made
      (alike-receivers (record run { messages = messages; rosters = rosters }) (keys_of receivers')
      (keys_of kept.receivers) same-names)

  done : {reply : Reply T} {core' : Channel T W} → Stepped run (PollNext name) reply (after core')
      → Polls run (PollNext name) reply (after core')
  done stepped = record { whole = stepped.whole; polls = inl stepped.made }

  -- a poll that was ready
  ready : (answer : Option T) → Ready answer ≡ next_poll (oldest kept.core) kept.core.closed
      → ticket' ≡ None
      → Stepped run (PollNext name) (NextPolled (Ready answer)) (after (polled_stream ticket kept.core).channel)
  ready answer replied none = go kept.core.messages refl kept.core.closed refl replied
    where
      go : (messages : List T) → kept.core.messages ≡ messages → (closed : Bool)
          → kept.core.closed ≡ closed
          → Ready answer ≡ next_poll (slice_get messages 0) closed
          → Stepped run (PollNext name) (NextPolled (Ready answer))
          (after (taking messages (record kept.core { streams = left ticket kept.core.streams })).channel)
      go [] e false f replied = cc
      go [] e true f replied =
          stepped run (PollNext name) (NextPolled (Ready answer))
          (after (record kept.core { streams = left ticket kept.core.streams })) gone (fits-gone none)
          (alike kept.core.messages gone (NextPolled (Ready answer))
          (subst (λ p. IsMade run (PollNext name) (NextPolled p) (record run { rosters = gone })) (sym replied)
          (made-poll_next_end run name f (ap (λ (ms : List T). slice_get ms 0) e))))
      go (m ∷ rest) e closed f replied =
          stepped run (PollNext name) (NextPolled (Ready answer))
          (after (receiving (record kept.core { streams = left ticket kept.core.streams })).channel)
          (received_told gone)
          (fits-receiving (after (record kept.core { streams = left ticket kept.core.streams })) gone (fits-gone none))
          (alike (drop 1 kept.core.messages) (received_told gone) (NextPolled (Ready answer))
          (subst (λ p. IsMade run (PollNext name) (NextPolled p)
          (record run { messages = drop 1 kept.core.messages; rosters = received_told gone })) (sym replied)
          (made-poll_next_taken run name m (ap (λ (ms : List T). slice_get ms 0) e))))

  -- one that was pending
  pending : Pending ≡ next_poll (oldest kept.core) kept.core.closed
      → IsMade run (PollNext name) (NextPolled Pending)
      (record run { rosters = record all { streams = wait name all.streams } })
  pending replied = go kept.core.messages refl kept.core.closed refl replied
    where
      go : (messages : List T) → kept.core.messages ≡ messages → (closed : Bool)
          → kept.core.closed ≡ closed
          → Pending ≡ next_poll (slice_get messages 0) closed
          → IsMade run (PollNext name) (NextPolled Pending)
          (record run { rosters = record all { streams = wait name all.streams } })
      go [] e true f replied = cc
      go (m ∷ rest) e closed f replied = cc
      go [] e false f replied = made-poll_next_pending run name f (ap (λ (ms : List T). slice_get ms 0) e)

  waited : (payload : W) (core' : Channel T W)
      → Pending ≡ next_poll (oldest kept.core) kept.core.closed
      → NextWaits ticket kept.core payload ticket' core'
      → Stepped run (PollNext name) (NextPolled Pending) (after core')
  waited payload core' replied waits =
      subst (λ (channel : Channel T W). Stepped run (PollNext name) (NextPolled Pending) (after channel)) (sym waits.0)
      (stepped run (PollNext name) (NextPolled Pending) (after (record kept.core { streams = core'.streams }))
      (record all { streams = wait name all.streams })
      (fits-streams core'.streams (wait name all.streams)
      (held-waits stream_ticket name kept.receivers receivers' (Some ticket') change ticket had kept.core.streams
      all.streams is.fits_streams payload core'.streams waits.1))
      (alike kept.core.messages (record all { streams = wait name all.streams }) (NextPolled Pending)
      (pending replied)))

  wanted : NextWants ticket kept.core → ticket' ≡ ticket
      → Polls run (PollNext name) (Refused OutOfMemory None) (after kept.core)
  wanted begins held = record {
    whole = whole-Fits (after kept.core) all fits;
    polls = inr (
      newcomer,
      ap is_pending (sym (pending (sym begins.0)).replied),
      record { replied = refl; unchanged = unchanged },
    );
  }
    where
      fits : Fits (after kept.core) all
      fits = fits-streams kept.core.streams all.streams
          (held-same stream_ticket name kept.receivers receivers' (Some ticket') change ticket had kept.core.streams
          all.streams is.fits_streams held)

      unchanged : AreAlike (shown_by (after kept.core)) run
      unchanged =
          subst (λ (r : Rosters). AreAlike (record run { receivers = keys_of receivers'; rosters = r }) run)
          (sym (shows-Fits (after kept.core) all fits))
          (alike-receivers run (keys_of receivers') (keys_of kept.receivers) same-names)

      newcomer : polls_newcomer run (PollNext name) ≡ true
      newcomer = ap (λ among. not among)
          (held-absent stream_ticket kept.receivers name ticket had kept.core.streams all.streams is.fits_streams
          begins.1)

  -- the whole poll
  pub polled-stream : (result : Result (Polled (Option T)) OutOfMemoryError) (core' : Channel T W) (payload : W)
      → IfOk result (λ poll. poll ≡ next_poll (oldest kept.core) kept.core.closed)
      → OnReady result (core' ≡ (polled_stream ticket kept.core).channel) → OnReady result (ticket' ≡ None)
      → OnWait result (NextWaits ticket kept.core payload ticket' core') → OnErr result (core' ≡ kept.core)
      → OnErr result (ticket' ≡ ticket) → OnErr result (NextWants ticket kept.core)
      → Polls run (PollNext name) (polled NextPolled result) (after core')
  polled-stream result core' payload =
      whole_poll (λ reply core. Polls run (PollNext name) reply (after core)) NextPolled
      (next_poll (oldest kept.core) kept.core.closed) kept.core (polled_stream ticket kept.core).channel
      (ticket' ≡ None) (ticket' ≡ ticket) (NextWants ticket kept.core)
      (λ core. NextWaits ticket kept.core payload ticket' core)
      (λ answer replied none. done (ready answer replied none))
      (λ core replied waits. done (waited payload core replied waits))
      wanted result core'
