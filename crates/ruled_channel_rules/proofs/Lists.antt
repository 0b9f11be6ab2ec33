-- One message more of a list was sent, or received.
use Rattle.std.proofs.Common.{◌≡◌, List, [], ◌∷◌, ◌++◌, sym, ap, ◌∙◌, append_assoc}
use Rattle.std.proofs.lemmas.List.{append-nil}

module _ {T : Type 0} where
  pub one_sent : (was now rest all : List T) (m : T) → was ++ m ∷ rest ≡ all → now ≡ was ++ m ∷ [] → now ++ rest ≡ all
  one_sent was now rest all m e one = ap (λ l. l ++ rest) one ∙ append_assoc was (m ∷ []) rest ∙ e

  pub all_sent : (was rest all : List T) → rest ≡ [] → was ++ rest ≡ all → was ≡ all
  all_sent was rest all none e = sym (append-nil was) ∙ ap (λ l. was ++ l) (sym none) ∙ e

  pub one_got : (got was now before list longer : List T) (m : T) → ((came : List T) × (list ≡ before ++ came) × (was ≡ got ++ came)) → now ≡ was ++ m ∷ [] → longer ≡ list ++ m ∷ []
      → (came : List T) × (longer ≡ before ++ came) × (now ≡ got ++ came)
  one_got got was now before list longer m e one more = (
    e.0 ++ m ∷ [],
    more ∙ ap (λ l. l ++ m ∷ []) e.1 ∙ append_assoc before e.0 (m ∷ []),
    one ∙ ap (λ l. l ++ m ∷ []) e.2 ∙ append_assoc got e.0 (m ∷ []),
  )
