-- Rings one after another.
use Rattle.std.proofs.Common.{List, [], ◌∷◌, ◌++◌, subst}
use Rattle.event_list.specs.Waiting.{RingsEach}

module _ {B W : Type 0} (rings : B → W → B → Type 0) where
  -- the rings for one list, and then those for another, are those for both
  pub rings_in_turn : (before : B) (payloads others : List W) (between after : B)
      → RingsEach rings before payloads between → RingsEach rings between others after
      → RingsEach rings before (payloads ++ others) after
  rings_in_turn before [] others between after first second =
      subst (λ (start : B). RingsEach rings start others after) first second
  rings_in_turn before (payload ∷ rest) others between after first second =
      (first.0, first.1, rings_in_turn first.0 rest others between after first.2 second)
