-- What the store of a queue holds. No public clause cites this module.
use Rattle.std.specs.Prelude.{◌<◌, ◌≤◌, Some, None, length}
use Rattle.channel_core.specs.declared.queue.Store.{Store}
use Rattle.channel_core.specs.declared.queue.Store.TheVariants.{Ring, Deque}
use Rattle.channel_core.specs.Queue.{Contents, contents}

module _ {T : Type 0} where
  abbrev pub contents_of : Store T → Contents T
  contents_of (Ring ring) = contents (Some ring.capacity) ring.items
  contents_of (Deque deque) = contents None deque.items

  -- a ring has a place, and holds no more than it has places
  abbrev pub HasPlaces : Store T → Type 0
  HasPlaces (Ring ring) = (0 < ring.capacity) × (length ring.items ≤ ring.capacity)
  HasPlaces (Deque deque) = Unit {0}
