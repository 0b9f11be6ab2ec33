-- What a pass has made, by what the core's call says of the channel and of its bell.
use Rattle.std.proofs.Common.{◌≡◌, ℕ, ◌<◌, ◌==◌, Bool, true, false, true≢false, List, [], ◌∷◌, ◌++◌, length, slice_get, Option, Some, None, IsSome, IsSomeAnd, OnErr, OnOk, Result, Ok, Err, arith, refl, sym, ap, ◌∙◌, subst}
use Rattle.futures.specs.declared.task.Poll.{Poll}
use Rattle.futures.specs.declared.task.Poll.TheVariants.{Ready, Pending}
use Rattle.std.proofs.lemmas.Bool.{eqb-true}
use Rattle.event_list.specs.Waiting.{IsWaiting, RingsEach}
use Rattle.channel_core.specs.declared.errors.RecvError.{RecvError}
use Rattle.channel_core.specs.declared.errors.TrySendError.TheVariants.{Closed}
use Rattle.channel_core.specs.declared.errors.TryRecvError.TheVariants.{Closed}
use Rattle.channel_core.specs.Tables.{OnReady, OnWait, closed_poll, recv_poll, send_error, try_recv_answer, try_send_answer}
use Rattle.channel_core.specs.Channel.{Channel, Change, RecvWaits, SendWaits, is_channel_full, oldest, polled_receive, polled_send, received, sent, unchanged}
use Rattle.ruled_channel.specs.declared.mark.Mark.{Mark}
use Rattle.ruled_channel.specs.declared.pass.Pass.{Pass}
use Rattle.ruled_channel.specs.Rung.{in_turn_of_waking}
use Rattle.ruled_channel.specs.Steps.{HasMade, HasMadeWith, HasReceived, HasSent, found, made, send_given_up, woken}
use Rattle.ruled_channel.proofs.Answered.{closed_polls, ended_polls, is_ready, received_polls, sent_polls}
use Rattle.ruled_channel.proofs.Logging.{Logs, logs}

-- of a call that failed
pub on_err : {A E X Y Z : Type 0} (result : Result A E) → (X → Y → Z) → OnErr result X → OnErr result Y → OnErr result Z
on_err (Ok given) f x y = tt
on_err (Err error) f x y = f x y

-- and of one that didn't
pub on_ok : {A E X Y Z : Type 0} (result : Result A E) → (X → Y → Z) → OnOk result X → OnOk result Y → OnOk result Z
on_ok (Ok given) f x y = f x y
on_ok (Err error) f x y = tt

pub is_some_of : {A : Type 0} (a : Option A) (P : A → Type 0) → IsSomeAnd a P → IsSome a
is_some_of None P holds = absurd holds
is_some_of (Some x) P holds = refl

-- a ticket is there after a send of many that waits
pub sends_some : {T W : Type 0} (messages : List T) (ticket ticket' : Option ℕ) (core now : Channel T W) (w : W) → 0 < length messages
    → SendWaits (slice_get messages 0) ticket core w ticket' now → IsSome ticket'
sends_some [] ticket ticket' core now w some waits = absurd (omega arith)
sends_some (m ∷ rest) ticket ticket' core now w some waits = is_some_of ticket' (λ key. IsWaiting now.sends key w) waits.1.holds

-- and after a receive that waits
pub recv_some : {T W : Type 0} (ticket ticket' : Option ℕ) (core now : Channel T W) (w : W) → RecvWaits ticket core w ticket' now → IsSome ticket'
recv_some ticket ticket' core now w waits = is_some_of ticket' (λ key. IsWaiting now.receives key w) waits.1.holds

module _ {T V : Type 0} (pass : Pass T V) (core now held : Channel T Mark) (before after : List Mark) (shows : core ≡ held) (new : before ≡ [])
    (finds : found pass ≡ held) (makes : made pass ≡ now) (wakes : woken pass ≡ in_turn_of_waking after) where
  module _ (step : Channel T Mark → Change T Mark) where
    -- at a bell that keeps a log
    pub has_made_by_log : now ≡ (step core).channel → after ≡ before ++ (step core).rung → HasMade step pass
    has_made_by_log is rung = let same = shows ∙ sym finds in
        (makes ∙ is ∙ ap (λ c. (step c).channel) same, wakes ∙ ap in_turn_of_waking (rung ∙ ap (λ l. l ++ (step core).rung) new ∙ ap (λ c. (step c).rung) same))

    pub has_made : now ≡ (step core).channel → RingsEach Logs before (step core).rung after → HasMade step pass
    has_made is rings = has_made_by_log is (logs before (step core).rung after rings)

    -- a poll, if it was ready
    pub has_polled : {A E : Type 0} (Done : Type 0) (result : Result (Poll A) E) → OnReady result Done → OnReady result (now ≡ (step core).channel)
        → OnReady result (after ≡ before ++ (step core).rung) → OnReady result (Done × HasMade step pass)
    has_polled Done (Ok (Ready answer)) done is rung = (done, has_made_by_log is rung)
    has_polled Done (Ok Pending) done is rung = tt
    has_polled Done (Err error) done is rung = tt

  -- nothing was rung
  pub is_silent : after ≡ before → woken pass ≡ []
  is_silent silent = wakes ∙ ap in_turn_of_waking (silent ∙ new)

  -- a poll that waits
  pub has_waited : {A E : Type 0} (result : Result (Poll A) E) (Fact : Mark → Type 0) (Waits : Channel T Mark → Mark → Channel T Mark → Type 0)
      (ticket : Option ℕ) → ((w : Mark) → Waits core w now → IsSome ticket)
      → OnWait result ((w : Mark) × Fact w × Waits core w now) → OnWait result (after ≡ before)
      → OnWait result ((w : Mark) × Fact w × IsSome ticket × Waits (found pass) w (made pass) × (woken pass ≡ []))
  has_waited (Ok (Ready answer)) Fact Waits ticket some waits silent = tt
  has_waited (Ok Pending) Fact Waits ticket some waits silent = (
    waits.0,
    waits.1,
    some waits.0 waits.2,
    subst (λ (z : Channel T Mark × Channel T Mark). Waits z.0 waits.0 z.1) (λ i. ((shows ∙ sym finds) i, sym makes i)) waits.2,
    is_silent silent,
  )
  has_waited (Err error) Fact Waits ticket some waits silent = tt

  -- one that is refused memory
  pub is_refused : now ≡ core → after ≡ before → HasMade unchanged pass
  is_refused same silent = (makes ∙ same ∙ shows ∙ sym finds, is_silent silent)

-- a call that doesn't wait is a poll without a ticket
module _ {T V : Type 0} (pass : Pass T V) where
  pub has_sent : (m m' : T) (ticket : Option ℕ) → m' ≡ m → Ok tt ≡ try_send_answer (found pass).closed (is_channel_full (found pass)) m'
      → HasMade (polled_send (Some m') ticket) pass → HasSent m (Ok tt) pass
  has_sent m m' ticket same reply step = subst (λ x. HasSent x (Ok tt) pass) same (sent_polls m' _ _ reply, (ticket, step))

  pub has_sent_at_once : (m m' : T) → m' ≡ m → Ok tt ≡ try_send_answer (found pass).closed (is_channel_full (found pass)) m'
      → HasMade (sent m') pass → HasSent m (Ok tt) pass
  has_sent_at_once m m' same reply step = has_sent m m' None same reply step

  pub is_turned_back : (m m' back : T) (ticket : Option ℕ) → m' ≡ m → Err (Closed back) ≡ try_send_answer (found pass).closed (is_channel_full (found pass)) m'
      → HasMade (polled_send (Some m') ticket) pass → HasSent m (Err (send_error back)) pass
  is_turned_back m m' back ticket same reply step = subst (λ x. HasSent x (Err (send_error back)) pass) same (closed_polls m' back _ _ reply, (ticket, step))

  pub is_turned_back_at_once : (m m' back : T) → m' ≡ m → Err (Closed back) ≡ try_send_answer (found pass).closed (is_channel_full (found pass)) m'
      → HasMade (sent m') pass → HasSent m (Err (send_error back)) pass
  is_turned_back_at_once m m' back same reply step = is_turned_back m m' back None same reply step

  pub has_received : (m : T) → Ok m ≡ try_recv_answer (oldest (found pass)) (found pass).closed → HasMade received pass → HasReceived (Ok m) pass
  has_received m reply step = (received_polls m _ _ reply, (None, step))

  pub has_ended : Err Closed ≡ try_recv_answer (oldest (found pass)) (found pass).closed → HasMade received pass → HasReceived (Err (record {})) pass
  has_ended reply step = (ended_polls _ _ reply, (None, step))

  pub leaves_sends : HasMade unchanged pass → HasMadeWith send_given_up pass
  leaves_sends step = (None, step)

  pub has_received_polled : (answer : Result T RecvError) (ticket : Option ℕ) → Ready answer ≡ recv_poll (oldest (found pass)) (found pass).closed
      → HasMade (polled_receive ticket) pass → HasReceived answer pass
  has_received_polled answer ticket reply step = (reply, (ticket, step))

-- a wait for the last receiver that is ready
pub no_receiver : (count : ℕ) → Ready tt ≡ closed_poll (count == 0) → count ≡ 0
no_receiver count reply = go (count == 0) refl reply where
  go : (is_none : Bool) → (count == 0) ≡ is_none → Ready tt ≡ closed_poll is_none → count ≡ 0
  go true is e = eqb-true count 0 is
  go false is e = absurd (true≢false (ap is_ready e))
