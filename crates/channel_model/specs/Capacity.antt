-- How much a channel may hold, and when it is full.
use Rattle.std.specs.Prelude.{◌<◌, ℕ, Option, Some, None, Bool, false, nat_le}
use Rattle.std.specs.Option.{ForSome}
use Rattle.channel_model.specs.declared.step.Kind.{Kind}
use Rattle.channel_model.specs.declared.step.Kind.TheVariants.{Bounded, Unbounded}

-- how many messages a channel of this kind may hold, if there is a limit
abbrev pub capacity_of : Kind → Option ℕ
capacity_of (Bounded capacity) = Some capacity
capacity_of Unbounded = None

-- A capacity is at least 1. A channel of any other kind can't be made.
abbrev pub HasPositiveCapacity : Kind → Type 0
HasPositiveCapacity kind = ForSome (capacity_of kind) (λ capacity. 0 < capacity)

-- It holds as many messages as its capacity; one without a capacity is never full.
abbrev pub full_at : (capacity : Option ℕ) (held : ℕ) → Bool
full_at (Some capacity) held = nat_le capacity held
full_at None held = false
