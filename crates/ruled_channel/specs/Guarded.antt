-- The rule over what the lock guards, and what each step tells of that. No public clause cites this
-- module.
use Rattle.std.specs.Prelude.{◌≡◌, ◌≢◌, ℕ, Bool, true, false, not, ◌&&◌, List, [], ◌∷◌, ◌++◌, drop, map, Option, Some, None, IfSome}
use mathlib.Core.Option.{some}
use lib.ListN.{get_elem?}
use Rattle.channel_core.specs.Channel.{Channel, is_channel_full, oldest}
use Rattle.ruled_channel.specs.State.{State, state_of}
use Rattle.ruled_channel.specs.Rule.{TellsEach}
use Rattle.ruled_channel.specs.declared.protocol.Known.{Known}

-- what the mutex knows of a pass
abbrev pub knowing : {V : Type 0} → V → Option (Option ℕ) → Known V
knowing v capacity = record { view = v; capacity = capacity }

-- the caller's part of that
abbrev pub caller_view : {V : Type 0} → Known V → V
caller_view known = known.view

module _ {T V : Type 0} where
  -- what a receive tells, by the oldest message and by whether the channel is closed
  abbrev pub received_of : (V → T → V → Type 0) → (V → V → Type 0) → (V → State T → Type 0) → V
      → State T → Option T → Bool → V → Type 0
  received_of then at_end fact v state (Some m) closed w = then v m w
  received_of then at_end fact v state None true w = at_end v w
  received_of then at_end fact v state None false w = (w ≡ v) × fact v state

module _ {T V W : Type 0} where
  -- the caller's rule holds of what the channel is, which has this capacity, of one message at least
  abbrev pub within : Option ℕ → (State T → List V → Type 0) → Channel T W → List V → Type 0
  within capacity holds channel views =
      (channel.capacity ≡ capacity) × (capacity ≢ Some 0) × holds (state_of channel) views

  -- so it does of the callers' views, and whichever pass knows a capacity knows this one
  abbrev pub guarded : Option ℕ → (State T → List V → Type 0) → Channel T W → List (Known V) → Type 0
  guarded capacity holds channel views =
      within capacity holds channel (map caller_view views)
      × ((pass : ℕ) (v : Known V) → get_elem? views pass ≡ some v
      → IfSome v.capacity (λ known. known ≡ capacity))

  -- of the view, of the channel that was found, of what was made of it, and of the view after

  abbrev pub at_capacity : (V → Channel T W → Channel T W → V → Type 0) → Known V → Channel T W
      → Channel T W → Known V → Type 0
  at_capacity then v found now w =
      then v.view found now w.view × (w.capacity ≡ v.capacity)
      × IfSome v.capacity (λ known. found.capacity ≡ known)

  abbrev pub turned : (V → V → Type 0) → V → Channel T W → Channel T W → V → Type 0
  turned then v found now w = then v w

  abbrev pub shut : (V → Bool → V → Type 0) → V → Channel T W → Channel T W → V → Type 0
  shut then v found now w = then v (now.closed && not found.closed) w

  abbrev pub kept : (V → State T → Type 0) → V → Channel T W → Channel T W → V → Type 0
  kept fact v found now w = (w ≡ v) × fact v (state_of found)

  -- a send, whether its message joined or not
  abbrev pub sent_or_kept : (V → T → V → Type 0) → (V → State T → Type 0) → V → Channel T W → Channel T W
      → V → Type 0
  sent_or_kept then fact v found now w =
      ((m : T) → now.messages ≡ found.messages ++ m ∷ [] → then v m w)
      × (now.messages ≡ found.messages → kept fact v found now w)

  -- sends of many, of which some joined
  abbrev pub sent_many_or_kept : (V → T → V → Type 0) → (V → State T → Type 0) → V → Channel T W
      → Channel T W → V → Type 0
  sent_many_or_kept then fact v found now w =
      ((messages : List T) → now.messages ≡ found.messages ++ messages
      → TellsEach then v messages w)
      × (now.messages ≡ found.messages → kept fact v found now w)

  -- a send that is forced: a full and open channel gives its oldest message for the new one
  abbrev pub forced_of : (V → Option T → T → V → Type 0) → (V → State T → Type 0) → V → Channel T W
      → Channel T W → Bool → Bool → V → Type 0
  forced_of then fact v found now true full w = kept fact v found now w
  forced_of then fact v found now false true w =
      (m : T) → now.messages ≡ drop 1 found.messages ++ m ∷ [] → then v (oldest found) m w
  forced_of then fact v found now false false w =
      sent_or_kept (λ u m x. then u None m x) fact v found now w

  abbrev pub forced_or_kept : (V → Option T → T → V → Type 0) → (V → State T → Type 0) → V → Channel T W
      → Channel T W → V → Type 0
  forced_or_kept then fact v found now w =
      forced_of then fact v found now found.closed (is_channel_full found) w

  abbrev pub received_or_kept : (V → T → V → Type 0) → (V → V → Type 0) → (V → State T → Type 0) → V
      → Channel T W → Channel T W → V → Type 0
  received_or_kept then at_end fact v found now w =
      received_of then at_end fact v (state_of found) (oldest found) found.closed w

  -- receives of many, at a channel that held some, or that was empty
  abbrev pub taken_of : (V → T → V → Type 0) → (V → V → Type 0) → (V → State T → Type 0) → V
      → Channel T W → Channel T W → Option T → Bool → V → Type 0
  taken_of then at_end fact v found now (Some m) closed w =
      (messages : List T) → found.messages ≡ messages ++ now.messages → TellsEach then v messages w
  taken_of then at_end fact v found now None closed w =
      received_of then at_end fact v (state_of found) None closed w

  abbrev pub received_many_or_kept : (V → T → V → Type 0) → (V → V → Type 0)
      → (V → State T → Type 0) → V → Channel T W → Channel T W → V → Type 0
  received_many_or_kept then at_end fact v found now w =
      taken_of then at_end fact v found now (oldest found) found.closed w
