use Rattle.std.proofs.Common.{◌≡◌, ◌∙◌, sym, ap}
use Rattle.channel_model.specs.Capacity.{capacity_of}
use Rattle.channel_core.specs.Channel.{new_channel}
use Rattle.channel_record.proofs.Kept.{kept_new}
use Rattle.channel_record.proofs.journal.Journal.new.Goals as goal
use Rattle.channel_record.proofs.journal.Journal.new.Goals.{in-Bounded+in_ok-core-in-Bounded, in-Unbounded}

pub bounded-requires : goal.bounded-requires
bounded-requires g c = c.requires c.in-Bounded.cap (ap capacity_of c.in-Bounded.is)

pub invariant_of-result : goal.invariant_of-result
invariant_of-result g c =
    let kind : c.match-kind.kind ≡ c.args.kind = elim c.match-kind.branch [
      | in-Bounded+in_ok-core-in-Bounded w ↦ w.kind-is ∙ sym w.in-Bounded.is
      | in-Unbounded w ↦ w.kind-is
    ] in
    let core : c.match-kind.core ≡ new_channel (capacity_of c.args.kind) = elim c.match-kind.branch [
      | in-Bounded+in_ok-core-in-Bounded w ↦ w.core-is ∙ w.in_ok-core-in-Bounded.ensures
          ∙ sym (ap (λ k. new_channel (capacity_of k)) w.in-Bounded.is)
      | in-Unbounded w ↦ w.core-is ∙ w.unbounded-core.ensures
          ∙ sym (ap (λ k. new_channel (capacity_of k)) w.in-Unbounded.is)
    ] in
    rw (kind, core, c.new.ensures.items) (kept_new c.args.kind c.requires)
