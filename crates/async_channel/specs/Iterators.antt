-- What a clause reads of an iterator over what a channel has.
use Rattle.std.specs.Prelude.{ℕ}
use Rattle.std.specs.Sync.Forever.{forever_left}
use Rattle.async_channel.specs.declared.iter.TryIter.{TryIter}

-- how many turns it has left, more than any run uses up
abbrev pub try_iter_left : {T R : Type 0} → TryIter T R → ℕ
try_iter_left iterator = forever_left iterator.turns
