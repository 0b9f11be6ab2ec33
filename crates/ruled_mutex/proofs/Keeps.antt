-- Each step of a ruled mutex keeps its rule.
use Rattle.std.proofs.Common.{◌≡◌, ℕ, eqb, ◌≢◌, List, [], ◌∷◌, ◌++◌, map, get_or, set, sym, refl, ap, ◌∙◌, subst, ⊎_elim, arith, length-set, get_or-set_same}
use mathlib.Core.Logic.{dite}
use mathlib.Core.Option.{none, some}
use mathlib.Core.List.{map-append}
use native.Mathlib.Decide.{ℕ_discrete}
use lib.ListN.{get_elem?}
use lib.Seq.{map-set}
use prog.Atomic.{either}
use Rattle.atomic_table.specs.Table.{State, Me, Act, step, keeps, takes, gives, put_back, rest, Valid, homes_after, carried_after, stepped, Allows, Enters, Splits, Joins}
use Rattle.atomic_table.proofs.Lists.{at_set, set_again, set_here, at_snoc, at_map, exchanged}
use Rattle.crossbeam_utils.specs.Register.{Admits, TurnsAt, Forks, Merges}
use Rattle.ruled_mutex.specs.declared.pass.Doing.{Doing}
use Rattle.ruled_mutex.specs.declared.pass.Stage.{Stage}
use Rattle.ruled_mutex.specs.declared.pass.Stage.TheVariants.{Outside, Holding, OwesWake}
use Rattle.ruled_mutex.specs.Rule.{Knows, OwesIf, client, Guarded, doing, outside, HasMade, locked, learned, unlocked, paid}
use Rattle.ruled_mutex.specs.Passes.{Learns}

module _ {T : Type 0} where
  -- nobody holds a free lock
  free_knows : (word holder holder' word' : ℕ) (value value' : T) (j : ℕ) (st : Stage T) → word ≡ 0 → Knows word holder value j st → Knows word' holder' value' j st
  free_knows word holder holder' word' value value' j Outside z k = tt
  free_knows word holder holder' word' value value' j OwesWake z k = tt
  free_knows word holder holder' word' value value' j (Holding x) z k = absurd (k.0 z)

  -- while the lock is held its word may change
  held_knows : (word word' holder : ℕ) (value : T) (j : ℕ) (st : Stage T) → word' ≢ 0 → Knows word holder value j st → Knows word' holder value j st
  held_knows word word' holder value j Outside nz k = tt
  held_knows word word' holder value j OwesWake nz k = tt
  held_knows word word' holder value j (Holding x) nz k = (nz, k.1, k.2)

  -- none but one holds the lock
  others_know : (word holder word' holder' : ℕ) (value value' : T) (j : ℕ) (st : Stage T) → j ≢ holder → Knows word holder value j st → Knows word' holder' value' j st
  others_know word holder word' holder' value value' j Outside other k = tt
  others_know word holder word' holder' value value' j OwesWake other k = tt
  others_know word holder word' holder' value value' j (Holding x) other k = absurd (other k.1)

module _ {T V : Type 0} (holds : T → List V → Type 0) where
  abbrev D : Type 0
  D = Doing T V

  abbrev St : Type 0
  St = State T D

  abbrev M : Type 0
  M = Me T D

  abbrev Rule : St → Type 0
  Rule = Guarded holds

  abbrev word : St → ℕ
  word s = get_or s.words 8 0

  passes_stay : (K : ℕ → Stage T → Type 0) (vs : List D) (me : ℕ) (w : D) → K me w.stage → ((j : ℕ) (d : D) → j ≢ me → get_elem? vs j ≡ some d → K j d.stage)
      → (j : ℕ) (d : D) → get_elem? (set vs me w) j ≡ some d → K j d.stage
  passes_stay K vs me w mine others j d e = ⊎_elim (λ (t : (j ≡ me) × (w ≡ d)). subst (λ (x : ℕ × D). K x.0 x.1.stage) (λ i. (sym t.0 i, t.1 i)) mine)
      (λ (t : (j ≢ me) × (get_elem? vs j ≡ some d)). others j d t.0 t.1) (at_set vs me j w d e)

  same_clients : (x : T) (vs : List D) (me : ℕ) (v w : D) → get_elem? vs me ≡ some v → w.client ≡ v.client → holds x (map client vs) → holds x (map client (set vs me w))
  same_clients x vs me v w at e = subst (holds x) (sym (map-set client vs me w ∙ (ap (set (map client vs) me) e ∙ set_again (map client vs) me v.client (at_map client vs me v at))))

  word_after : (s : St) (r : Rule s) (n : ℕ) → get_or (set s.words 8 n) 8 0 ≡ n
  word_after s r n = let size = r.size in get_or-set_same s.words 8 n 0 (omega arith)

  -- a step that finds the lock held, and leaves it so
  missed : (s : St) (r : Rule s) (n id : ℕ) (cs : List (ℕ × T)) (d : D) → get_elem? s.views id ≡ some d → n ≢ 0 → Rule (stepped s 8 n id cs d keeps)
  missed s r n id cs d at nz = let now = word_after s r n in record {
    value = r.value;
    holder = r.holder;
    size = length-set s.words 8 n ∙ r.size;
    home = λ z. absurd (nz (sym now ∙ z));
    each_pass = subst (λ (z : ℕ). (j : ℕ) (e : D) → get_elem? (set s.views id d) j ≡ some e → Knows z r.holder r.value j e.stage) (sym now)
        (passes_stay (Knows n r.holder r.value) s.views id d (held_knows (word s) n r.holder r.value id d.stage nz (r.each_pass id d at)) (λ j e _ p. held_knows (word s) n r.holder r.value j e.stage nz (r.each_pass j e p)));
    kept = same_clients r.value s.views id d d at refl r.kept;
  }

  -- a step that finds the lock free, and takes it
  taken : (s : St) (r : Rule s) (n id : ℕ) (cs : List (ℕ × T)) (d : D) → get_elem? s.views id ≡ some d → word s ≡ 0 → n ≢ 0 → Rule (stepped s 8 n id cs (doing (Holding r.value) d.client) (takes 0 r.value))
  taken s r n id cs d at free nz = let now = word_after s r n in let w : D = doing (Holding r.value) d.client in record {
    value = r.value;
    holder = id;
    size = length-set s.words 8 n ∙ r.size;
    home = λ z. absurd (nz (sym now ∙ z));
    each_pass = subst (λ (z : ℕ). (j : ℕ) (e : D) → get_elem? (set s.views id w) j ≡ some e → Knows z id r.value j e.stage) (sym now)
        (passes_stay (Knows n id r.value) s.views id w (nz, refl, refl) (λ j e _ p. free_knows (word s) r.holder id n r.value r.value j e.stage free (r.each_pass j e p)));
    kept = same_clients r.value s.views id d w at refl r.kept;
  }

  hit : (s : St) (r : Rule s) (id slots a b n : ℕ) (me : M) → get_elem? s.views id ≡ some me.0 → word s ≡ 0 → n ≢ 0
      → (w : D) × (c : Act T) × Valid s.homes me.1 c × Rule (stepped s 8 n id me.1 w c) × locked (step slots 8 a b none) me (word s) (w, carried_after me.1 c)
  hit s r id slots a b n me at free nz = (doing (Holding r.value) me.0.client, takes 0 r.value, r.home free, taken s r n id me.1 me.0 at free nz, ((λ _. (r.value, refl)), λ held. absurd (held free)))

  miss : (s : St) (r : Rule s) (id slots a b n : ℕ) (me : M) → get_elem? s.views id ≡ some me.0 → word s ≢ 0 → n ≢ 0
      → (w : D) × (c : Act T) × Valid s.homes me.1 c × Rule (stepped s 8 n id me.1 w c) × locked (step slots 8 a b none) me (word s) (w, carried_after me.1 c)
  miss s r id slots a b n me at held nz = (me.0, keeps, tt, missed s r n id me.1 me.0 at nz, ((λ free. absurd (held free)), λ _. refl))

  pub swaps : (slots id : ℕ) (me : M) → Allows Rule slots id me 8 (λ _. 2) (locked (step slots 8 2 0 none) me)
  swaps slots id me s r _ at _ = dite (ℕ_discrete (word s) 0) (λ free. hit s r id slots 2 0 2 me at free (λ e. omega arith)) (λ held. miss s r id slots 2 0 2 me at held (λ e. omega arith))

  pub tries : (slots id : ℕ) (me : M) → Allows Rule slots id me 8 (λ n. either (eqb n 0) 1 n) (locked (step slots 8 0 1 none) me)
  tries slots id me s r _ at _ =
      exchanged (word s) 0 1 (λ n. (w : D) × (c : Act T) × Valid s.homes me.1 c × Rule (stepped s 8 n id me.1 w c) × locked (step slots 8 0 1 none) me (word s) (w, carried_after me.1 c))
      (λ free. hit s r id slots 0 1 1 me at free (λ e. omega arith)) (λ held. miss s r id slots 0 1 (word s) me at held held)

  -- a new pass comes with a view
  arrived : (s : St) (r : Rule s) (w : D) → ((j : ℕ) → Knows (word s) r.holder r.value j w.stage) → holds r.value (map client s.views ++ w.client ∷ []) → Rule record { words = s.words; homes = s.homes; views = s.views ++ w ∷ [] }
  arrived s r w knows kept = record {
    value = r.value;
    holder = r.holder;
    size = r.size;
    home = r.home;
    each_pass = λ j d e. ⊎_elim (r.each_pass j d) (λ (t : w ≡ d). subst (λ (z : D). Knows (word s) r.holder r.value j z.stage) t (knows j)) (at_snoc s.views w d j e);
    kept = subst (holds r.value) (sym (map-append client s.views (w ∷ []))) kept;
  }

  pub sits : (slots : ℕ) (v : V) → Admits holds v → Enters Rule slots 0 (λ r w. w ≡ outside v)
  sits slots v admits s r _ _ = (outside v, arrived s r (outside v) (λ _. tt) (admits r.value (map client s.views) r.kept), refl)

  pub splits : (id : ℕ) (d : D) (left right : V) → Forks holds id d.client left right → Splits Rule id d (doing d.stage left) (outside right)
  splits id d left right asked s r at = let w : D = doing d.stage left in let K = Knows (word s) r.holder r.value in record {
    value = r.value;
    holder = r.holder;
    size = r.size;
    home = r.home;
    each_pass = λ j e p. ⊎_elim (passes_stay K s.views id w (r.each_pass id d at) (λ i x _. r.each_pass i x) j e) (λ (t : outside right ≡ e). subst (λ (z : D). K j z.stage) t tt)
        (at_snoc (set s.views id w) (outside right) e j p);
    kept = subst (holds r.value) (sym (map-append client (set s.views id w) (outside right ∷ []) ∙ ap (λ l. l ++ right ∷ []) (map-set client s.views id w)))
        (asked r.value (map client s.views) r.kept (at_map client s.views id d at));
  }

  pub joins : (id : ℕ) (d : D) (other : ℕ) (e : D) (both spent : V) → Merges holds id d.client other e.client both spent → Joins Rule id d other e (doing d.stage both) (outside spent)
  joins id d other e both spent asked s r at apart there = let w : D = doing d.stage both in let K = Knows (word s) r.holder r.value in let vs : List D = set s.views id w in let same = map-set client s.views id w in record {
    value = r.value;
    holder = r.holder;
    size = r.size;
    home = r.home;
    each_pass = passes_stay K vs other (outside spent) tt (λ j x _. passes_stay K s.views id w (r.each_pass id d at) (λ i y _. r.each_pass i y) j x);
    kept = subst (holds r.value) (sym (map-set client vs other (outside spent) ∙ ap (λ l. set l other spent) same))
        (asked r.value (map client s.views) r.kept (at_map client s.views id d at) apart (subst (λ l. get_elem? l other ≡ some e.client) same (at_map client vs other e there)));
  }

  -- who owes a wake, and who does not, knows nothing else
  Freed : ℕ → Type 0
  Freed n = (st : Stage T) × (OwesIf n st × ((word holder : ℕ) (value : T) (j : ℕ) → Knows word holder value j st))

  freed : (n : ℕ) → Freed n
  unfolding Freed
  freed n = dite (ℕ_discrete n 2) (λ e. (OwesWake, (((λ _. refl), λ ne. absurd (ne e)), λ _ _ _ _. tt))) (λ ne. (Outside, (((λ e. absurd (ne e)), λ _. refl), λ _ _ _ _. tt)))

  -- a step that changes nothing but what its pass knows, to less
  stays : (s : St) (r : Rule s) (id : ℕ) (cs : List (ℕ × T)) (d : D) → get_elem? s.views id ≡ some d → Rule (stepped s 8 (word s) id cs (outside d.client) keeps)
  stays s r id cs d at = let now = word_after s r (word s) in let w : D = outside d.client in record {
    value = r.value;
    holder = r.holder;
    size = length-set s.words 8 (word s) ∙ r.size;
    home = λ z. r.home (sym now ∙ z);
    each_pass = subst (λ (z : ℕ). (j : ℕ) (e : D) → get_elem? (set s.views id w) j ≡ some e → Knows z r.holder r.value j e.stage) (sym now)
        (passes_stay (Knows (word s) r.holder r.value) s.views id w tt (λ j e _ p. r.each_pass j e p));
    kept = same_clients r.value s.views id d w at refl r.kept;
  }

  -- the wake is paid
  pub pays : (slots id : ℕ) (me : M) → Allows Rule slots id me 8 (λ n. n) (paid (step slots 8 0 0 none) me)
  pays slots id me s r _ at _ = (outside me.0.client, keeps, tt, stays s r id me.1 me.0 at, refl)

  -- who holds the lock learns of the value
  pub tells : (fact : V → T → Type 0) (slots id : ℕ) (me : M) (x : T) → me.0.stage ≡ Holding x → Learns holds id me.0.client x (fact me.0.client x)
      → Allows Rule slots id me 8 (λ n. n) (learned fact (step slots 8 0 0 none) me)
  tells fact slots id me x holding asked s r _ at _ = let knows = r.each_pass id me.0 at in let known = subst (Knows (word s) r.holder r.value id) holding knows in
      let told = asked (map client s.views) (subst (λ (z : T). holds z (map client s.views)) (sym known.2) r.kept) (at_map client s.views id me.0 at) in (
        me.0,
        keeps,
        tt,
        missed s r (word s) id me.1 me.0 at known.0,
        (refl, λ x' holding'. subst (fact me.0.client) (known.2 ∙ sym ((subst (Knows (word s) r.holder r.value id) holding' knows).2)) told),
      )

  module _ (then : V → T → T → V → Type 0) where
    found : T → Stage T → T
    found d (Holding x) = x
    found d Outside = d
    found d OwesWake = d

    made : T → List (ℕ × T) → T
    made d (x ∷ _) = x.1
    made d [] = d

    -- the lock is given back, and the value goes home
    pub releases : (id : ℕ) (me : M) (x y : T) → HasMade me x y → TurnsAt holds id me.0.client x y then → Allows Rule 1 id me 8 (λ _. 0) (unlocked then (step 1 8 0 0 none) me)
    unfolding found made Freed
    releases id me x y has asked s r wide at _ = let known = subst (Knows (word s) r.holder r.value id) has.0 (r.each_pass id me.0 at) in
        let t = asked (map client s.views) (subst (λ (z : T). holds z (map client s.views)) (sym known.2) r.kept) (at_map client s.views id me.0 at) in
        let o : Freed (word s) = freed (word s) in let w : D = doing o.0 t.0 in
        let back : homes_after s.homes me.1 gives ≡ set s.homes 0 (some y) = ap (put_back s.homes) has.1 in let now = word_after s r 0 in (
          w,
          gives,
          tt,
          record {
            value = y;
            holder = id;
            size = length-set s.words 8 0 ∙ r.size;
            home = λ _. ap (λ l. get_elem? l 0) back ∙ set_here s.homes 0 (some y) (omega arith);
            each_pass = subst (λ (z : ℕ). (j : ℕ) (e : D) → get_elem? (set s.views id w) j ≡ some e → Knows z id y j e.stage) (sym now)
                (passes_stay (Knows 0 id y) s.views id w (o.1.1 0 id y id) (λ j e other p. others_know (word s) r.holder 0 id r.value y j e.stage (λ h. other (h ∙ sym known.1)) (r.each_pass j e p)));
            kept = subst (holds y) (sym (map-set client s.views id w)) t.1;
          },
          λ x' y' has'. (
            ap rest has.1,
            o.1.0,
            subst (λ (z : T × T). then me.0.client z.0 z.1 t.0) (λ i. (ap (found x) (sym has.0 ∙ has'.0) i, ap (made y) (sym has.1 ∙ has'.1) i)) t.2,
          ),
        )
