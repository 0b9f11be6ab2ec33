-- What a receive makes of the channel that it found, and what it tells by that.
use Rattle.std.proofs.Common.{◌≡◌, Bool, true, false, true≢false, List, [], ◌∷◌, slice_get, Option, IfOk, OnErr, Result, Ok, Err, drop, sym, refl, ap, ◌∙◌}
use Rattle.futures.specs.declared.task.Poll.{Poll}
use Rattle.futures.specs.declared.task.Poll.TheVariants.{Ready, Pending}
use Rattle.channel_core.specs.Tables.{OnReady, OnWait, next_poll, recv_poll}
use Rattle.channel_core.specs.Channel.{Channel, Change, oldest, taking}
use Rattle.ruled_channel.specs.State.{holding, state_of}
use Rattle.ruled_channel.proofs.Answered.{is_ready}

-- a receive that can't go on finds an empty and open channel
pub recv_pending : {T : Type 0} (messages : List T) (closed : Bool) → recv_poll (slice_get messages 0) closed ≡ Pending → (closed ≡ false) × (messages ≡ [])
recv_pending [] true e = absurd (true≢false (ap is_ready e))
recv_pending [] false e = (refl, refl)
recv_pending (x ∷ xs) closed e = absurd (true≢false (ap is_ready e))

-- a stream, likewise
pub next_pending : {T : Type 0} (messages : List T) (closed : Bool) → next_poll (slice_get messages 0) closed ≡ Pending → (closed ≡ false) × (messages ≡ [])
next_pending [] true e = absurd (true≢false (ap is_ready e))
next_pending [] false e = (refl, refl)
next_pending (x ∷ xs) closed e = absurd (true≢false (ap is_ready e))

module _ {T W : Type 0} (core : Channel T W) where
  -- without a message there is none to leave
  empty_stays : core.messages ≡ [] → state_of core ≡ holding (drop 1 core.messages) (state_of core)
  empty_stays none = ap (λ l. holding l (state_of core)) (none ∙ ap (drop 1) (sym none))

  -- the oldest message leaves, if there is one
  pub taking_drops : (messages : List T) → core.messages ≡ messages → state_of (taking messages core).channel ≡ holding (drop 1 core.messages) (state_of core)
  taking_drops [] none = empty_stays none
  taking_drops (x ∷ xs) held = refl

  -- so it does by a poll, whatever comes of it
  pub polled_drops : {A E : Type 0} (now : Channel T W) (table : Option T → Bool → Poll A) (step : Channel T W → Change T W) (Fact Waits : W → Type 0)
      (result : Result (Poll A) E) → (table (oldest core) core.closed ≡ Pending → (core.closed ≡ false) × (core.messages ≡ []))
      → state_of (step core).channel ≡ holding (drop 1 core.messages) (state_of core) → ((w : W) → Waits w → state_of now ≡ state_of core)
      → IfOk result (λ poll. poll ≡ table (oldest core) core.closed) → OnReady result (now ≡ (step core).channel)
      → OnWait result ((w : W) × Fact w × Waits w) → OnErr result (now ≡ core) → OnErr result (table (oldest core) core.closed ≡ Pending)
      → state_of now ≡ holding (drop 1 core.messages) (state_of core)
  polled_drops now table step Fact Waits (Ok (Ready answer)) pends drops stays reply after waits unchanged wanted = ap state_of after ∙ drops
  polled_drops now table step Fact Waits (Ok Pending) pends drops stays reply after waits unchanged wanted = stays waits.0 waits.2 ∙ empty_stays (pends (sym reply)).1
  polled_drops now table step Fact Waits (Err error) pends drops stays reply after waits unchanged wanted = ap state_of unchanged ∙ empty_stays (pends wanted).1
