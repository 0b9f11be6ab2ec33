-- What a caller shows of its views is shown of what the mutex knows of its passes.
use Rattle.std.proofs.Common.{◌≡◌, ◌≢◌, ℕ, List, [], ◌∷◌, ◌++◌, map, set, Option, Some, None, IfSome, sym, refl, ap, ◌∙◌, subst}
use mathlib.Core.List.{map-append}
use mathlib.Core.Option.{some, some-ne-none}
use lib.ListN.{get_elem?}
use lib.Seq.{map-set}
use Rattle.atomic_table.proofs.Lists.{at_map}
use Rattle.crossbeam_utils.specs.Register.{Admits, Forks as MutexForks, Merges as MutexMerges, TurnsAt}
use Rattle.channel_core.specs.Channel.{Channel}
use Rattle.ruled_channel.specs.State.{State, state_of}
use Rattle.ruled_channel.specs.Rule.{Forks, Merges}
use Rattle.ruled_channel.specs.Guarded.{at_capacity, caller_view, guarded, knowing, within}
use Rattle.ruled_channel.specs.declared.protocol.Known.{Known}
use Rattle.ruled_channel.proofs.Views.{Each, each_more, each_set}

-- what a pass knows of the capacity is true of the channel that it found
finds : (capacity found : Option ℕ) (known : Option (Option ℕ)) → IfSome known (λ c. c ≡ capacity) → found ≡ capacity → IfSome known (λ c. found ≡ c)
finds capacity found None agrees is = tt
finds capacity found (Some c) agrees is = is ∙ sym agrees

module _ {V : Type 0} (capacity : Option ℕ) where
  abbrev Agrees : ℕ → Known V → Type 0
  Agrees pass v = IfSome v.capacity (λ c. c ≡ capacity)

  -- one view changes
  agree_after : (views : List (Known V)) (pass : ℕ) (w : Known V) → Agrees pass w → Each Agrees views → Each Agrees (set views pass w)
  agree_after views pass w agrees all = each_set Agrees views pass w agrees (λ j u _ at. all j u at)

module _ {T V W : Type 0} (capacity : Option ℕ) (holds : State T → List V → Type 0) where
  pub begins : (core : Channel T W) (first : V) → core.capacity ≡ capacity → capacity ≢ Some 0 → holds (state_of core) (first ∷ [])
      → guarded capacity holds core (knowing first (Some capacity) ∷ [])
  begins core first is place held = ((is, place, held), each_more (Agrees capacity) [] (knowing first (Some capacity)) (λ j u at. absurd (some-ne-none u (sym at))) refl)

  pub admits : (first : V) → ((state : State T) (views : List V) → holds state views → holds state (views ++ first ∷ []))
      → Admits (guarded {T = T} {V = V} {W = W} capacity holds) (knowing first (Some capacity))
  admits first asked core views h = let new = knowing first (Some capacity) in (
    (h.0.0, h.0.1, subst (holds (state_of core)) (sym (map-append caller_view views (new ∷ []))) (asked (state_of core) (map caller_view views) h.0.2)),
    each_more (Agrees capacity) views new h.1 refl,
  )

  -- a step of the caller's rule that leaves the capacity
  pub turns_in_mutex : (then : V → Channel T W → Channel T W → V → Type 0) (pass : ℕ) (v : Known V) (found now : Channel T W)
      → TurnsAt (within found.capacity holds) pass v.view found now then → TurnsAt (guarded capacity holds) pass v found now (at_capacity then)
  turns_in_mutex then pass v found now turns = λ views h at.
      let t = turns (map caller_view views) (refl, subst (λ c. c ≢ Some 0) (sym h.0.0) h.0.1, h.0.2) (at_map caller_view views pass v at) in
      let w = knowing t.0 v.capacity in let agrees = h.1 pass v at in (
        w,
        (
          (t.1.0 ∙ h.0.0, h.0.1, subst (holds (state_of now)) (sym (map-set caller_view views pass w)) t.1.2),
          agree_after capacity views pass w agrees h.1,
        ),
        (t.2, refl, finds capacity found.capacity v.capacity agrees h.0.0),
      )

  pub forks_in_mutex : (pass : ℕ) (v : Known V) (left right : V) → Forks holds pass v.view left right
      → MutexForks (guarded {T = T} {V = V} {W = W} capacity holds) pass v (knowing left v.capacity) (knowing right v.capacity)
  forks_in_mutex pass v left right asked core views h at =
      let l = knowing left v.capacity in let r = knowing right v.capacity in let agrees = h.1 pass v at in (
        (
          h.0.0,
          h.0.1,
          subst (holds (state_of core)) (sym (map-append caller_view (set views pass l) (r ∷ []) ∙ ap (λ vs. vs ++ right ∷ []) (map-set caller_view views pass l)))
              (asked (state_of core) (map caller_view views) h.0.2 (at_map caller_view views pass v at)),
        ),
        each_more (Agrees capacity) (set views pass l) r (agree_after capacity views pass l agrees h.1) agrees,
      )

  pub merges_in_mutex : (pass : ℕ) (v : Known V) (other : ℕ) (w : Known V) (both spent : V) → Merges holds pass v.view other w.view both spent
      → MutexMerges (guarded {T = T} {V = V} {W = W} capacity holds) pass v other w (knowing both v.capacity) (knowing spent None)
  merges_in_mutex pass v other w both spent asked core views h at apart there =
      let b = knowing both v.capacity in let s = knowing spent None in let vs = set views pass b in
      let same = map-set caller_view views pass b in (
        (
          h.0.0,
          h.0.1,
          subst (holds (state_of core)) (sym (map-set caller_view vs other s ∙ ap (λ l. set l other spent) same))
              (asked (state_of core) (map caller_view views) h.0.2 (at_map caller_view views pass v at) apart
              (subst (λ l. get_elem? l other ≡ some w.view) same (at_map caller_view vs other w there))),
        ),
        agree_after capacity vs other s tt (agree_after capacity views pass b (h.1 pass v at) h.1),
      )
