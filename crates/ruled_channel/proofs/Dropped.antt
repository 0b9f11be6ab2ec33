-- What closing a channel makes of its state, and giving up a sender or a receiver.
use Rattle.std.proofs.Common.{◌≡◌, ℕ, Bool, true, false, Option, sym, refl, ap, ◌∙◌, subst}
use Rattle.std.proofs.lemmas.Bool.{eqb-true}
use Rattle.std.specs.Prelude.{◌&&◌, ◌||◌, ◌==◌, ◌-◌, not, if◌then◌else◌}
use Rattle.channel_core.specs.Channel.{Channel, Change, closing, ending, unchanged, sender_dropped, receiver_dropped_by}
use Rattle.channel_core.specs.Tickets.{left}
use Rattle.ruled_channel.specs.State.{State, state_of, closed_now, sender_less, receiver_less}
use Rattle.ruled_channel.specs.Guarded.{shut}

pick : {A : Type 0} (P : A → Type 0) (b : Bool) (x y : A) → (b ≡ true → P x) → (b ≡ false → P y) → P (if b then x else y)
pick P true x y f g = f refl
pick P false x y f g = g refl

-- what is closed by a step was open, and is closed then
has_closed : (is_last was now : Bool) → now ≡ (is_last || was) → (now && not was) ≡ (is_last && not was)
has_closed true true now e = ap (λ b. b && false) e
has_closed true false now e = ap (λ b. b && true) e
has_closed false true now e = ap (λ b. b && false) e
has_closed false false now e = ap (λ b. b && true) e

module _ {T W : Type 0} where
  pub closing_shuts : (core : Channel T W) → state_of (closing core).channel ≡ closed_now (state_of core)
  closing_shuts core = pick (λ (change : Change T W). state_of change.channel ≡ closed_now (state_of core)) core.closed _ _
      (λ e. ap (λ b. record (state_of core) { closed = b }) e) (λ e. refl)

  -- the last one closes the channel
  gives_up : (closed is_last : Bool) (state : State T) (last other : Change T W)
      → (is_last ≡ true → state_of last.channel ≡ record state { closed = true })
      → (is_last ≡ false → state_of other.channel ≡ record state { closed = closed })
      → state_of (if is_last then last else other).channel ≡ record state { closed = is_last || closed }
  gives_up closed true state last other f g = f refl
  gives_up closed false state last other f g = g refl

  module _ (core now : Channel T W) where
    pub sender_gone : now ≡ (sender_dropped core).channel → state_of now ≡ sender_less (state_of core)
    sender_gone is = ap state_of is ∙ gives_up core.closed (core.senders == 1) (record (state_of core) { senders = core.senders - 1 })
        (closing (record core { senders = 0 })) (unchanged (record core { senders = core.senders - 1 }))
        (λ e. closing_shuts (record core { senders = 0 })
        ∙ ap (λ n. record (state_of core) { closed = true; senders = n - 1 }) (sym (eqb-true core.senders 1 e))) (λ e. refl)

    pub receiver_gone : (ticket : Option ℕ) → now ≡ (receiver_dropped_by ticket core).channel → state_of now ≡ receiver_less (state_of core)
    receiver_gone ticket is = let gone : Channel T W = record core { streams = left ticket core.streams } in
        ap state_of is ∙ gives_up core.closed (core.receivers == 1) (record (state_of core) { receivers = core.receivers - 1 })
        (ending (closing (record gone { receivers = 0 }))) (unchanged (record gone { receivers = core.receivers - 1 }))
        (λ e. closing_shuts (record gone { receivers = 0 })
        ∙ ap (λ n. record (state_of core) { closed = true; receivers = n - 1 }) (sym (eqb-true core.receivers 1 e))) (λ e. refl)

module _ {T W V : Type 0} (core now found : Channel T W) where
  -- what is told of a step that may have closed the channel is its answer
  pub told_closed : (tells : V → Bool → V → Type 0) (v v' w : V) (is_last answer : Bool) → v' ≡ v → core ≡ found
      → now.closed ≡ (is_last || core.closed) → answer ≡ (is_last && not core.closed) → shut tells v' found now w → tells v answer w
  told_closed tells v v' w is_last answer same shows is reply told = subst (λ (z : V × Bool). tells z.0 z.1 w)
      (λ i. (same i, (ap (λ (c : Channel T W). now.closed && not c.closed) (sym shows) ∙ has_closed is_last core.closed now.closed is ∙ sym reply) i)) told
