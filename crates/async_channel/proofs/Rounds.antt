-- What a batch leaves, round by round.
use Rattle.std.proofs.Common.{◌≡◌, ◌≤◌, List, ◌++◌, take, length, refl, sym, ap, ◌∙◌}
use Rattle.std.proofs.lemmas.List.{take_at, take-take}

module _ {T : Type 0} where
  -- what was put behind a list leaves it in front
  pub front_stays : (before after more : List T) → after ≡ before ++ more → take (length before) after ≡ before
  front_stays before after more is = rw is (take_at before more (length before) refl)

  -- and so does what is put behind that
  pub front_stays_on : (first before after : List T) → take (length first) before ≡ first
      → take (length before) after ≡ before → length first ≤ length before → take (length first) after ≡ first
  front_stays_on first before after stays more few =
      sym (take-take (length first) (length before) after few) ∙ ap (take (length first)) more ∙ stays
