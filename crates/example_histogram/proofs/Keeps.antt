-- Each step keeps the rule.
use Rattle.std.proofs.Common.{All, ◌≡◌, ◌≢◌, ◌<◌, ℕ, true, false, true≢false, Option, List, [], ◌∷◌, ◌++◌, length, set, sym, refl, ap, ◌∙◌, subst, append_assoc}
use Rattle.std.proofs.lemmas.List.{append-nil}
use Rattle.std.proofs.lemmas.List.Elements.{All-nil, All-push, All-head, All-tail}
use mathlib.Core.Option.{some-ne-none}
use lib.ListN.{get_elem?}
use Rattle.ruled_channel.proofs.Views.{Each, each_set, each_more, at_other}
use Rattle.ruled_channel.specs.State.{new_state}
use Rattle.ruled_channel.specs.Rule.{Sends, Receives, Ends, Closes, Forks, Merges, Learns}
use Rattle.example_histogram.specs.declared.rule.Tally.{Tally}
use Rattle.example_histogram.specs.Rule.{tally, Knows, IsTallied, with_sent, with_counted, with_end, sender, counter, spent, together}

no : {P : Type 0} → false ≡ true → P
no e = absurd (true≢false (sym e))

cons-ne-nil : (x : ℕ) (xs : List ℕ) → x ∷ xs ≢ []
cons-ne-nil x xs e = some-ne-none x (ap (λ l. get_elem? l 0) e)

pub begins : (capacity : Option ℕ) → IsTallied (new_state capacity) (tally true [] true [] false ∷ [])
begins capacity = (
  0,
  0,
  [],
  [],
  refl,
  All-nil (λ class. class < 6),
  each_more (Knows [] false 0 0 [] []) [] (tally true [] true [] false) (λ j u e. absurd (some-ne-none u (sym e))) ((λ _. (refl, refl)), (λ _. (refl, refl)), λ e. no e),
)

pub sends : (pass : ℕ) (v : Tally) (class : ℕ) → class < 6 → v.sends ≡ true → Sends IsTallied pass v class (λ u m w. w ≡ with_sent u m)
sends pass v class small may state views place h at = let w = with_sent v class in let mine = h.6 pass v at in let sent = h.2 ++ class ∷ [] in (
  w,
  (
    h.0,
    h.1,
    sent,
    h.3,
    ap (λ l. l ++ class ∷ []) h.4 ∙ append_assoc h.3 state.messages (class ∷ []),
    All-push (λ c. c < 6) state.messages class h.5 small,
    each_set (Knows (state.messages ++ class ∷ []) state.closed h.0 h.1 sent h.3) views pass w ((λ _. ((mine.0 may).0, ap (λ l. l ++ class ∷ []) (mine.0 may).1)), mine.1, λ e. no (sym place.0 ∙ (mine.2 e).0))
        (λ j u other e. let theirs = h.6 j u e in ((λ p. absurd (other ((theirs.0 p).0 ∙ sym (mine.0 may).0))), theirs.1, λ p. no (sym place.0 ∙ (theirs.2 p).0))),
  ),
  refl,
)

pub receives : (pass : ℕ) (v : Tally) → v.counts ≡ true → Receives IsTallied pass v (λ u m w. (m < 6) × (w ≡ with_counted u m))
receives pass v may m rest state views front h at = let small = subst (All (λ c. c < 6)) front h.5 in let w = with_counted v m in let mine = h.6 pass v at in let counted = h.3 ++ m ∷ [] in (
  w,
  (
    h.0,
    h.1,
    h.2,
    counted,
    h.4 ∙ ap (λ l. h.3 ++ l) front ∙ sym (append_assoc h.3 (m ∷ []) rest),
    All-tail (λ c. c < 6) m rest small,
    each_set (Knows rest state.closed h.0 h.1 h.2 counted) views pass w (mine.0, (λ _. ((mine.1 may).0, ap (λ l. l ++ m ∷ []) (mine.1 may).1)), λ e. absurd (cons-ne-nil m rest (sym front ∙ (mine.2 e).1)))
        (λ j u other e. let theirs = h.6 j u e in (theirs.0, (λ p. absurd (other ((theirs.1 p).0 ∙ sym (mine.1 may).0))), λ p. absurd (cons-ne-nil m rest (sym front ∙ (theirs.2 p).1)))),
  ),
  (All-head (λ c. c < 6) m rest small, refl),
)

pub closes : (pass : ℕ) (v : Tally) → Closes IsTallied pass v (λ u has_closed w. w ≡ u)
closes pass v state views _ h at = let mine = h.6 pass v at in (
  v,
  (
    h.0,
    h.1,
    h.2,
    h.3,
    h.4,
    h.5,
    each_set (Knows state.messages true h.0 h.1 h.2 h.3) views pass v (mine.0, mine.1, λ e. (refl, (mine.2 e).1)) (λ j u other e. let theirs = h.6 j u e in (theirs.0, theirs.1, λ p. (refl, (theirs.2 p).1))),
  ),
  refl,
)

pub ends : (pass : ℕ) (v : Tally) → Ends IsTallied pass v (λ u w. w ≡ with_end u)
ends pass v state views over h at = let w = with_end v in let mine = h.6 pass v at in
    (w, (h.0, h.1, h.2, h.3, h.4, h.5, each_set (Knows state.messages state.closed h.0 h.1 h.2 h.3) views pass w (mine.0, mine.1, λ _. over) (λ j u other e. h.6 j u e)), refl)

pub forks : (pass : ℕ) (v : Tally) → v.sends ≡ true → v.counts ≡ true → Forks IsTallied pass v (sender v.sent) (counter v.counted false)
forks pass v a b state views h at = let l = sender v.sent in let r = counter v.counted false in let mine = h.6 pass v at in let vs : List Tally = set views pass l in
    let Old : ℕ → Tally → Type 0 = λ j u. (u.sends ≡ true → (j ≡ h.0) × (u.sent ≡ h.2)) × (u.counts ≢ true) × (u.ended ≡ true → (state.closed ≡ true) × (state.messages ≡ [])) in
    let old : Each Old vs = each_set Old views pass l ((λ _. mine.0 a), (λ p. no p), λ p. no p) (λ j u other e. let theirs = h.6 j u e in (theirs.0, (λ p. other ((theirs.1 p).0 ∙ sym (mine.1 b).0)), theirs.2)) in (
      h.0,
      length vs,
      h.2,
      h.3,
      h.4,
      h.5,
      each_more (Knows state.messages state.closed h.0 (length vs) h.2 h.3) vs r (λ j u e. let o = old j u e in (o.0, (λ p. absurd (o.1 p)), o.2)) ((λ p. no p), (λ _. (refl, (mine.1 b).1)), λ p. no p),
    )

pub merges : (pass : ℕ) (v : Tally) (other : ℕ) (u : Tally) → v.sends ≡ true → u.counts ≡ true → Merges IsTallied pass v other u (together v u) spent
merges pass v other u a b state views h at two at' = let both = together v u in let mine = h.6 pass v at in let vs : List Tally = set views pass both in
    let theirs = h.6 other u (at_other views pass other both u two at') in
    let Now : ℕ → Tally → Type 0 = λ j y. j ≢ other → Knows state.messages state.closed h.0 pass h.2 h.3 j y in
    let now : Each Now vs = each_set Now views pass both (λ _. ((λ _. mine.0 a), (λ _. (refl, (theirs.1 b).1)), theirs.2)) (λ j y _ e apart. let third = h.6 j y e in (third.0, (λ p. absurd (apart ((third.1 p).0 ∙ sym (theirs.1 b).0))), third.2)) in (
      h.0,
      pass,
      h.2,
      h.3,
      h.4,
      h.5,
      each_set (Knows state.messages state.closed h.0 pass h.2 h.3) vs other spent ((λ p. no p), (λ p. no p), λ p. no p) (λ j y apart e. now j y e apart),
    )

pub learns : (pass : ℕ) (v : Tally) → v.sends ≡ true → v.counts ≡ true → v.ended ≡ true → Learns IsTallied pass v (λ state. v.counted ≡ v.sent)
learns pass v a b c state views h at = let mine = h.6 pass v at in (mine.1 b).1 ∙ sym (append-nil h.3) ∙ ap (λ l. h.3 ++ l) (sym (mine.2 c).1) ∙ sym h.4 ∙ sym (mine.0 a).1
