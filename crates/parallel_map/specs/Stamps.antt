-- Stamps that a map draws, one for each of its two channels.
use Rattle.std.specs.Prelude.{◌≡◌, ◌⊎◌, ℕ, Option}
use Rattle.channel_core.specs.Stamps.{next_stamp}

-- what a maker gives next, once it has given two stamps
abbrev pub behind_two : Option ℕ → Option ℕ
behind_two next = next_stamp (next_stamp next)

-- two stamps at most were drawn
abbrev pub DrewTwoAtMost : Option ℕ → Option ℕ → Type 0
DrewTwoAtMost old new = (new ≡ old) ⊎ (new ≡ next_stamp old) ⊎ (new ≡ behind_two old)
