use Rattle.std.proofs.Common.{◌≡◌, ◌∙◌, ◌+◌, ◌∷◌, ℕ, Option, Some, None, sym, ap, length, subst}
use Rattle.std.specs.Prelude.{List}
use Rattle.channel_run.specs.declared.operations.Operation.{Operation as Started}
use Rattle.channel_model.specs.Capacity.{capacity_of}
use Rattle.channel_model.specs.View.{AreSameNames}
use Rattle.channel_core.specs.Channel.{new_channel}
use Rattle.channel_run.specs.RunShown.{AreCounted, Changed}
use Rattle.channel_run.proofs.Tables.NewRun.{stands-new, whole-new}
use Rattle.channel_run.proofs.Tables.ShownNames.{when_ok}
use Rattle.channel_run.proofs.run.Run.new.Goals as goal
use Rattle.channel_run.proofs.run.Run.new.Goals.{in-Bounded+in_ok-core-in-Bounded, in-Unbounded}

pub bounded-requires : goal.bounded-requires
bounded-requires g c = c.requires c.in-Bounded.capacity (ap capacity_of c.in-Bounded.is)

pub invariant_of-result : goal.invariant_of-result
invariant_of-result g c =
    let core : c.match-kind.core ≡ new_channel (capacity_of c.args.kind) = elim c.match-kind.branch [
      | in-Bounded+in_ok-core-in-Bounded w ↦ w.core-is ∙ w.in_ok-core-in-Bounded.ensures
          ∙ sym (ap (λ k. new_channel (capacity_of k)) w.in-Bounded.is)
      | in-Unbounded w ↦ w.core-is ∙ w.unbounded-core.ensures
          ∙ sym (ap (λ k. new_channel (capacity_of k)) w.in-Unbounded.is)
    ] in
    let senders = subst (λ (names : List ℕ). AreSameNames c.add.new.self (0 ∷ names)) c.new-senders.ensures
    c.in_ok-add.ensures.added in
    let first = when_ok c.put_receiver.result (Changed 0 c.new-receivers.result.entries c.put_receiver.new.receivers.entries (Some None))
    (sym c.is_err.ensures.value ∙ c.if-is_err.false) c.put_receiver.ensures.added in
    let count = when_ok c.put_receiver.result (length c.put_receiver.new.receivers.entries ≡ length c.new-receivers.result.entries + 1)
    (sym c.is_err.ensures.value ∙ c.if-is_err.false) c.put_receiver.ensures.more in
    let change = subst (λ (entries : List (ℕ × Option ℕ)). Changed 0 entries c.put_receiver.new.receivers.entries (Some None))
    c.new-receivers.ensures.empty first in
    let one = count ∙ ap (λ (entries : List (ℕ × Option ℕ)). length entries + 1) c.new-receivers.ensures.empty in
    rw (core, c.new-3.ensures.empty) (
      whole-new g.row.T.Denot (Unit {0}) c.args.kind c.add.new.self senders c.put_receiver.new.receivers.entries change one
          (capacity_of c.args.kind),
      subst (λ (operations : List (ℕ × Started g.row.T.Denot)). AreCounted c.new-3.result.by_sender
          c.new-3.result.by_receiver operations) c.new-3.ensures.empty c.new-3.ensures.counted,
    )

pub returns : goal.returns
returns g c =
    let core : c.match-kind.core ≡ new_channel (capacity_of c.args.kind) = elim c.match-kind.branch [
      | in-Bounded+in_ok-core-in-Bounded w ↦ w.core-is ∙ w.in_ok-core-in-Bounded.ensures
          ∙ sym (ap (λ k. new_channel (capacity_of k)) w.in-Bounded.is)
      | in-Unbounded w ↦ w.core-is ∙ w.unbounded-core.ensures
          ∙ sym (ap (λ k. new_channel (capacity_of k)) w.in-Unbounded.is)
    ] in
    let senders = subst (λ (names : List ℕ). AreSameNames c.add.new.self (0 ∷ names)) c.new-senders.ensures
    c.in_ok-add.ensures.added in
    let first = when_ok c.put_receiver.result (Changed 0 c.new-receivers.result.entries c.put_receiver.new.receivers.entries (Some None))
    (sym c.is_err.ensures.value ∙ c.if-is_err.false) c.put_receiver.ensures.added in
    let count = when_ok c.put_receiver.result (length c.put_receiver.new.receivers.entries ≡ length c.new-receivers.result.entries + 1)
    (sym c.is_err.ensures.value ∙ c.if-is_err.false) c.put_receiver.ensures.more in
    let change = subst (λ (entries : List (ℕ × Option ℕ)). Changed 0 entries c.put_receiver.new.receivers.entries (Some None))
    c.new-receivers.ensures.empty first in
    let one = count ∙ ap (λ (entries : List (ℕ × Option ℕ)). length entries + 1) c.new-receivers.ensures.empty in
    rw (core, c.new.ensures, c.new-2.ensures, c.new-3.ensures.empty)
    (stands-new g.row.T.Denot
    (Unit {0}) c.args.kind c.add.new.self senders c.put_receiver.new.receivers.entries change one c.requires)
