-- Two channels in a row: what went into the first was answered by what came out of the second.
use Rattle.std.proofs.Common.{◌≡◌, List, [], ◌∷◌, ◌++◌, map, sym, refl, ap, ◌∙◌, subst}
use Rattle.std.proofs.lemmas.List.{append-nil, map-append}
use Rattle.std.proofs.lemmas.List.Sorted.{IsPermutation-map, IsPermutation-trans}
use Rattle.std.specs.Prelude.{IsPermutation}
use Rattle.std.specs.List.{flat_map}

module _ {X Y : Type 0} (f : X → Y) where
  each_mapped : (lists : List (List X)) → flat_map (λ (l : List Y). l) (map (map f) lists) ≡ map f (flat_map (λ (l : List X). l) lists)
  each_mapped [] = refl
  each_mapped (xs ∷ lists) = ap (λ (l : List Y). map f xs ++ l) (each_mapped lists) ∙ sym (map-append f xs (flat_map (λ (l : List X). l) lists))

  -- one sender feeds the first channel, each worker sends the answers to what it got, and one receiver finds them all
  pub answered : (sent : List X) (gots : List (List X)) (sents : List (List Y)) (found : List Y) → sents ≡ map (map f) gots
      → IsPermutation (flat_map (λ (l : List X). l) gots) (sent ++ []) → IsPermutation (found ++ []) (flat_map (λ (l : List Y). l) sents) → IsPermutation found (map f sent)
  answered sent gots sents found by received came =
      let answers : IsPermutation found (map f (flat_map (λ (l : List X). l) gots)) =
      subst (λ (p : List Y × List Y). IsPermutation p.0 p.1) (λ i. (append-nil found i, (ap (flat_map (λ (l : List Y). l)) by ∙ each_mapped gots) i)) came in
      let questions : IsPermutation (flat_map (λ (l : List X). l) gots) sent = subst (IsPermutation (flat_map (λ (l : List X). l) gots)) (append-nil sent) received in
      IsPermutation-trans _ _ _ answers (IsPermutation-map f _ _ questions)
