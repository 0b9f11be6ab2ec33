-- What is shown at a pass and its view is shown at the same pass and view.
use Rattle.std.proofs.Common.{◌≡◌, ℕ, List, Option, Some, refl, sym, subst}
use Rattle.ruled_channel.specs.State.{State}
use Rattle.ruled_channel.specs.Rule.{Sends, Receives, Ends, Learns}
use Rattle.ruled_channel.specs.declared.channel.RuledChannel.{RuledChannel}
use Rattle.ruled_channel.specs.declared.pass.Pass.{Pass}
use Rattle.ruled_channel.specs.Passes.{IsPassOf, IsSamePass, key_of, view}
use Rattle.ruled_channel.specs.Receiving.{MayPoll}

module _ {T V : Type 0} (holds : State T → List V → Type 0) (pass pass' : ℕ) (v v' : V) (p : pass' ≡ pass) (q : v' ≡ v) where
  pub sends_same : (then : V → T → V → Type 0) (m m' : T) → m' ≡ m → Sends holds pass v m then → Sends holds pass' v' m' then
  sends_same then m m' e t = subst (λ (z : ℕ × (V × T)). Sends holds z.0 z.1.0 z.1.1 then) (λ i. (sym p i, (sym q i, sym e i))) t

  pub receives_same : (then : V → T → V → Type 0) → Receives holds pass v then → Receives holds pass' v' then
  receives_same then t = subst (λ (z : ℕ × V). Receives holds z.0 z.1 then) (λ i. (sym p i, sym q i)) t

  pub ends_same : (then : V → V → Type 0) → Ends holds pass v then → Ends holds pass' v' then
  ends_same then t = subst (λ (z : ℕ × V). Ends holds z.0 z.1 then) (λ i. (sym p i, sym q i)) t

  pub learns_same : (fact : V → State T → Type 0) → Learns holds pass v (fact v) → Learns holds pass' v' (fact v')
  learns_same fact t = subst (λ (z : ℕ × V). Learns holds z.0 z.1 (fact z.1)) (λ i. (sym p i, sym q i)) t

-- a receive that waits may be polled again
pub may_poll_again : {T V P K : Type 0} (holds : K → State T → List V → Type 0) (then : V → T → V → Type 0) (at_end : V → V → Type 0) (channel : RuledChannel T V P K)
    (held : Option (Pass T V)) (p q : Pass T V) → held ≡ Some p → IsPassOf channel q → IsSamePass p q → view q ≡ view p
    → MayPoll holds then at_end channel held → MayPoll holds then at_end channel (Some q)
may_poll_again holds then at_end channel held p q is own same seen may = let old = subst (MayPoll holds then at_end channel) is may in
    (refl, (own, receives_same (holds (key_of channel)) _ _ _ _ same.1 seen then old.1.1, ends_same (holds (key_of channel)) _ _ _ _ same.1 seen at_end old.1.2))
