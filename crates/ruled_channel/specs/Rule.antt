-- What a caller of a ruled channel shows of each step.
-- `holds state views` is the caller's rule, at the channel's key: of what the channel is, and of
-- what each pass knows.
-- Each pass has a number, and `views` at that number is its view.
use Rattle.std.specs.Prelude.{◌≡◌, ⊤, ℕ, zero, suc, Bool, true, not, ◌&&◌, List, [], ◌∷◌, ◌++◌, slice_set, Option, Some, None}
use mathlib.Core.Option.{some}
use lib.ListN.{get_elem?}
use Rattle.channel_core.specs.declared.state.Upgrade.TheVariants.{Raised}
use Rattle.channel_core.specs.Counts.{may_add, upgrade_answer}
use Rattle.ruled_channel.specs.State.{State, HasPlace, IsFull, IsOver, holding, joined, closed_now, sender_more, receiver_more, sender_less, receiver_less}

module _ {T V : Type 0} (holds : State T → List V → Type 0) where
  -- whatever there is that the step may be made from, and whatever the others know, the rule stays
  -- by the step, and this pass's view becomes some w
  abbrev pub Allows : (State T → Type 0) → (State T → State T) → ℕ → V → (State T → V → Type 0)
      → Type 0
  Allows May step pass v then =
      (state : State T) (views : List V) → May state → holds state views
      → get_elem? views pass ≡ some v
      → (w : V) × holds (step state) (slice_set views pass w) × then state w

  -- m joins at the back of an open channel with room
  abbrev pub Sends : ℕ → V → T → (V → T → V → Type 0) → Type 0
  Sends pass v m then = Allows HasPlace (joined m) pass v (λ _ w. then v m w)

  -- an open and full channel gives d, at its front, for m, at its back
  abbrev pub Displaces : ℕ → V → T → (V → Option T → T → V → Type 0) → Type 0
  Displaces pass v m then =
      (d : T) (rest : List T)
      → Allows (λ state. IsFull state × (state.messages ≡ d ∷ rest)) (holding (rest ++ m ∷ []))
      pass v (λ _ w. then v (Some d) m w)

  -- a send that is forced does the one or the other
  abbrev pub Forces : ℕ → V → T → (V → Option T → T → V → Type 0) → Type 0
  Forces pass v m then = Sends pass v m (λ u x w. then u None x w) × Displaces pass v m then

  -- a message leaves at the front
  abbrev pub Receives : ℕ → V → (V → T → V → Type 0) → Type 0
  Receives pass v then =
      (m : T) (rest : List T)
      → Allows (λ state. state.messages ≡ m ∷ rest) (holding rest) pass v (λ _ w. then v m w)

  -- each of these messages is sent after those before it, whatever view these left
  abbrev pub SendsMany : ℕ → V → List T → (V → T → V → Type 0) → Type 0
  SendsMany pass v [] then = ⊤
  SendsMany pass v (m ∷ rest) then =
      Sends pass v m then × ((w : V) → then v m w → SendsMany pass w rest then)

  -- so many messages leave at the front, one after the other, likewise
  abbrev pub ReceivesMany : ℕ → V → ℕ → (V → T → V → Type 0) → Type 0
  ReceivesMany pass v zero then = ⊤
  ReceivesMany pass v (suc count) then =
      Receives pass v then × ((m : T) (w : V) → then v m w → ReceivesMany pass w count then)

  -- a receive finds the channel closed and empty
  abbrev pub Ends : ℕ → V → (V → V → Type 0) → Type 0
  Ends pass v then = Allows IsOver (λ state. state) pass v (λ _ w. then v w)

  -- a step that may close the channel; `then` is told whether it did
  abbrev pub Shuts : (State T → State T) → ℕ → V → (V → Bool → V → Type 0) → Type 0
  Shuts step pass v then =
      Allows (λ _. ⊤) step pass v
      (λ state w. then v ((step state).closed && not state.closed) w)

  abbrev pub Closes : ℕ → V → (V → Bool → V → Type 0) → Type 0
  Closes = Shuts closed_now

  -- a sender is given up, or a receiver
  abbrev pub DropsSender : ℕ → V → (V → Bool → V → Type 0) → Type 0
  DropsSender = Shuts sender_less

  abbrev pub DropsReceiver : ℕ → V → (V → Bool → V → Type 0) → Type 0
  DropsReceiver = Shuts receiver_less

  -- one more sender is counted: a copy of one, or one that is raised
  abbrev pub AddsSender : ℕ → V → (V → V → Type 0) → Type 0
  AddsSender pass v then =
      Allows (λ state. may_add state.senders ≡ true) sender_more pass v (λ _ w. then v w)

  abbrev pub RaisesSender : ℕ → V → (V → V → Type 0) → Type 0
  RaisesSender pass v then =
      Allows (λ state. upgrade_answer state.closed state.senders ≡ Raised) sender_more pass v
      (λ _ w. then v w)

  -- one more receiver, likewise
  abbrev pub AddsReceiver : ℕ → V → (V → V → Type 0) → Type 0
  AddsReceiver pass v then =
      Allows (λ state. may_add state.receivers ≡ true) receiver_more pass v (λ _ w. then v w)

  abbrev pub RaisesReceiver : ℕ → V → (V → V → Type 0) → Type 0
  RaisesReceiver pass v then =
      Allows (λ state. upgrade_answer state.closed state.receivers ≡ Raised) receiver_more pass v
      (λ _ w. then v w)

  -- this pass's view is cut in two, and a new pass has the second
  abbrev pub Forks : ℕ → V → V → V → Type 0
  Forks pass v left right =
      (state : State T) (views : List V) → holds state views → get_elem? views pass ≡ some v
      → holds state (slice_set views pass left ++ right ∷ [])

  -- this pass takes in the view w of another, which is spent
  abbrev pub Merges : ℕ → V → ℕ → V → V → V → Type 0
  Merges pass v other w both spent =
      (state : State T) (views : List V) → holds state views → get_elem? views pass ≡ some v
      → ¬ (other ≡ pass) → get_elem? (slice_set views pass both) other ≡ some w
      → holds state (slice_set (slice_set views pass both) other spent)

  -- what the rule tells this pass of what there is
  abbrev pub Learns : ℕ → V → (State T → Type 0) → Type 0
  Learns pass v fact =
      (state : State T) (views : List V) → holds state views → get_elem? views pass ≡ some v
      → fact state

-- v becomes w by what each of these messages tells, one after the other
abbrev pub TellsEach : {T V : Type 0} → (V → T → V → Type 0) → V → List T → V → Type 0
TellsEach then v [] w = w ≡ v
TellsEach {T} {V} then v (m ∷ rest) w = (u : V) × then v m u × TellsEach then u rest w

-- this view stood among those of all passes, and the rule held, at some key
abbrev pub Fitted : {T V K : Type 0} → (K → State T → List V → Type 0) → V → State T → Type 0
Fitted {T} {V} {K} holds v state =
    (key : K) × (pass : ℕ) × (views : List V) × holds key state views
    × (get_elem? views pass ≡ some v)
