-- The rule: what was sent is what was counted and then what the channel holds, all of it below 6.
-- One pass at most sends, and knows what was sent; one at most counts, and knows what was counted.
-- Who found the channel closed and empty is right for ever.
use Rattle.std.specs.Prelude.{◌≡◌, ℕ, ◌<◌, Bool, true, false, List, [], ◌∷◌, ◌++◌, All}
use mathlib.Core.Option.{some}
use lib.ListN.{get_elem?}
use Rattle.ruled_channel.specs.State.{State}
use Rattle.example_histogram.specs.declared.rule.Tally.{Tally}

abbrev pub tally : Bool → List ℕ → Bool → List ℕ → Bool → Tally
tally sends sent counts counted ended =
    record { sends = sends; sent = sent; counts = counts; counted = counted; ended = ended }

-- what one pass knows is so
abbrev pub Knows : List ℕ → Bool → ℕ → ℕ → List ℕ → List ℕ → ℕ → Tally → Type 0
Knows messages closed from to sent counted pass v =
    (v.sends ≡ true → (pass ≡ from) × (v.sent ≡ sent))
    × (v.counts ≡ true → (pass ≡ to) × (v.counted ≡ counted))
    × (v.ended ≡ true → (closed ≡ true) × (messages ≡ []))

abbrev pub IsTallied : State ℕ → List Tally → Type 0
IsTallied state views =
    (from : ℕ) × (to : ℕ) × (sent : List ℕ) × (counted : List ℕ)
    × (sent ≡ counted ++ state.messages) × All (λ class. class < 6) state.messages
    × ((pass : ℕ) (v : Tally) → get_elem? views pass ≡ some v
    → Knows state.messages state.closed from to sent counted pass v)

-- what a step makes of a view

abbrev pub with_sent : Tally → ℕ → Tally
with_sent v class = record v { sent = v.sent ++ class ∷ [] }

abbrev pub with_counted : Tally → ℕ → Tally
with_counted v class = record v { counted = v.counted ++ class ∷ [] }

abbrev pub with_end : Tally → Tally
with_end v = record v { ended = true }

-- who sends, who counts, and a pass that is used up
abbrev pub sender : List ℕ → Tally
sender sent = tally true sent false [] false

abbrev pub counter : List ℕ → Bool → Tally
counter counted ended = tally false [] true counted ended

abbrev pub spent : Tally
spent = tally false [] false [] false

-- the sender takes in who counted
abbrev pub together : Tally → Tally → Tally
together v w = tally true v.sent true w.counted w.ended
