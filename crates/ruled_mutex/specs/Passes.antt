-- What a clause says of a mutex, of its passes, and of who holds its lock.
use Rattle.std.specs.Prelude.{◌≡◌, ℕ, List, [], ◌∷◌}
use mathlib.Core.Option.{Option, none, some}
use lib.ListN.{get_elem?}
use Rattle.atomic_table.specs.Table.{rest}
use Rattle.atomic_table.specs.Lent.{seat_with}
use Rattle.ruled_mutex.specs.declared.mutex.RuledMutex.{RuledMutex}
use Rattle.ruled_mutex.specs.declared.pass.Held.{Held}
use Rattle.ruled_mutex.specs.declared.pass.Pass.{Pass}
use Rattle.ruled_mutex.specs.declared.pass.Stage.TheVariants.{Outside, Holding, OwesWake}

-- the value that lay in the mutex when the lock was taken
abbrev pub found : {T : Type 0} → Held T → T
found h = h.found.value

-- the slot that was taken last
abbrev pub first_slot : {T : Type 0} → List (ℕ × T) → Option ℕ
first_slot [] = none
first_slot (x ∷ xs) = some x.0

-- what is in it
abbrev pub first_value : {T : Type 0} → T → List (ℕ × T) → T
first_value y [] = y
first_value y (x ∷ xs) = x.1

module _ {T V : Type 0} where
  -- what the pass knows
  abbrev pub view : Pass T V → V
  view p = p.seat.me.0.client

  -- the place of its view among the views of all passes
  abbrev pub number : Pass T V → ℕ
  number p = p.seat.id

  -- it is a pass of the same mutex, with the same number
  abbrev pub IsSamePass : Pass T V → Pass T V → Type 0
  IsSamePass old new = (new.seat.table_id ≡ old.seat.table_id) × (new.seat.id ≡ old.seat.id)

  -- what has been made of the value since
  abbrev pub made : Held T → Pass T V → T
  made h p = first_value (found h) p.seat.me.1

  -- the pass, after w was written through `value_mut`
  abbrev pub pass_with : Pass T V → T → Pass T V
  pass_with p w = record p { seat = seat_with p.seat 0 w }

module _ {T V P A K : Type 0} where
  -- what it was made with
  abbrev pub key_of : RuledMutex T V P A K → K
  key_of m = m.table.shared.key

  -- it is a pass of this mutex, and does not hold its lock
  abbrev pub IsPassOf : RuledMutex T V P A K → Pass T V → Type 0
  IsPassOf m p =
      (p.seat.table_id ≡ m.table.shared.table_id) × (p.seat.me.0.stage ≡ Outside)
      × (p.seat.me.1 ≡ [])

  -- it is a pass of this mutex
  abbrev pub IsIn : RuledMutex T V P A K → Pass T V → Type 0
  IsIn m p = p.seat.table_id ≡ m.table.shared.table_id

  -- it gave the lock back while somebody slept, and has woken nobody yet
  abbrev pub Owes : RuledMutex T V P A K → Pass T V → Type 0
  Owes m p =
      (p.seat.table_id ≡ m.table.shared.table_id) × (p.seat.me.0.stage ≡ OwesWake)
      × (p.seat.me.1 ≡ [])

  -- it is a pass of this mutex, and holds its lock
  abbrev pub Holds : RuledMutex T V P A K → Held T → Pass T V → Type 0
  Holds m h p =
      (p.seat.table_id ≡ m.table.shared.table_id) × (p.seat.me.0.stage ≡ Holding (found h))
      × (first_slot p.seat.me.1 ≡ some 0) × (rest p.seat.me.1 ≡ [])

-- whatever the others know, the fact is true of the view v and the value x
abbrev pub Learns : {T V : Type 0} → (T → List V → Type 0) → ℕ → V → T → Type 0 → Type 0
Learns {T} {V} holds pass v x fact =
    (views : List V) → holds x views → get_elem? views pass ≡ some v → fact
