-- What a forced send makes of its sender's log.
use Rattle.std.proofs.Common.{◌≡◌, Bool, Option, Some, None, List, [], ◌∷◌, ◌++◌, sym, ap, ◌∙◌}
use Rattle.std.specs.Prelude.{option_to_list}
use Rattle.std.proofs.lemmas.List.{append-nil}
use Rattle.ruled_channel_rules.specs.declared.log.Log.{Log}
use Rattle.ruled_channel_rules.specs.Whole.{with_forced, with_sent, with_got, force_sender_log}

module _ {T : Type 0} where
  pub forced : (v w : Log T) (closed : Bool) (xs ys : List T) (m : T) (d : Option T) → v ≡ force_sender_log closed xs ys → w ≡ with_forced v d m → w ≡ force_sender_log closed (xs ++ m ∷ []) (ys ++ option_to_list d)
  forced v w closed xs ys m None is e = e ∙ ap (λ (u : Log T). with_sent u m) is ∙ ap (λ (l : List T). force_sender_log closed (xs ++ m ∷ []) l) (sym (append-nil ys))
  forced v w closed xs ys m (Some d) is e = e ∙ ap (λ (u : Log T). with_sent (with_got u d) m) is
