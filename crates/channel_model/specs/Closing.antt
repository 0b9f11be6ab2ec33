-- When a channel is closed.
use Rattle.std.specs.Prelude.{ℕ, [], ◌∷◌, List, Bool, true, false, ◌||◌}
use Rattle.channel_model.specs.declared.step.Step.{Step}
use Rattle.channel_model.specs.declared.step.Step.TheVariants.{Close}
use Rattle.channel_model.specs.Past.{Past}
use Rattle.channel_model.specs.Handles.{live_names, Senders, Receivers}

-- a closing by hand, by either side
abbrev pub is_close : {T : Type 0} → Step T → Bool
is_close (Close side) = true
is_close step = false

-- the list is empty
abbrev pub has_none : {X : Type 0} → List X → Bool
has_none [] = true
has_none (first ∷ rest) = false

-- A channel is closed after a step that leaves these senders and receivers: it was before, or the
-- step closed it by hand, or no sender is left, or no receiver is.
abbrev pub closed_after : {T : Type 0} → (before : Bool) → Step T → (senders receivers : List ℕ)
    → Bool
closed_after before step senders receivers =
    before || is_close step || has_none senders || has_none receivers

-- At some moment of the past somebody closed it by hand, or no sender was live, or no receiver was.
-- So a closed channel stays closed; one that was closed by hand may have receivers still.
abbrev pub is_closed : {T : Type 0} → Past T → Bool
is_closed [] = false
is_closed (pair ∷ past) =
    closed_after (is_closed past) pair.0 (live_names Senders (pair ∷ past))
    (live_names Receivers (pair ∷ past))
