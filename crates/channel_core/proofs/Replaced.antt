-- What comes back if a ticket's entry isn't in the list.
use Rattle.std.proofs.Common.{◌≡◌, ℕ, Bool, true, false, cond, Option, Some, None, is_some, refl, sym, ◌∙◌}
use Rattle.event_list.specs.Keys.{is_among}
use Rattle.event_list.specs.Waiting.{Waiting, untold_keys, told_flag}
use Rattle.channel_core.specs.Tickets.{waits, payload_held}
use Rattle.event_list.proofs.Splits.{absent_both, absent_right, payload_none}

module _ {W : Type 0} where
  -- a key without a told flag isn't in the list
  pub waits_unfound : (ticket : Option ℕ) (key : ℕ) (list : Waiting W) (found : Bool) → ticket ≡ Some key
      → found ≡ is_some (told_flag list key) → found ≡ false → waits ticket list ≡ false
  waits_unfound ticket key list found is flag unfound =
      let parts = by_tests (is_among key list.told) (is_among key (untold_keys list)) (sym flag ∙ unfound) in
      rw is (absent_both key list.told (untold_keys list) parts.0 parts.1)
    where
      by_tests : (told untold : Bool) → is_some (cond told (Some true) (cond untold (Some false) None)) ≡ false
          → (told ≡ false) × (untold ≡ false)
      by_tests true untold h = absurd (cc)
      by_tests false true h = absurd (cc)
      by_tests false false h = (refl, refl)

  -- nothing comes back of an entry that isn't there
  pub nothing_held : (ticket : Option ℕ) (list : Waiting W) → waits ticket list ≡ false → None ≡ payload_held ticket list
  nothing_held None list absent = refl
  nothing_held (Some key) list absent =
      sym (payload_none key list.untold (absent_right key list.told (untold_keys list) absent))
