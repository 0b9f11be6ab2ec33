-- The rule of the lock's word and its slot, and what each step tells.
-- The word is 0 while nobody holds the lock, 1 while somebody does, and 2 while somebody may sleep
-- besides. Slot 0 has the value, and is out with the pass that holds the lock.
use Rattle.std.specs.Prelude.{◌≡◌, ◌≢◌, ℕ, List, [], ◌∷◌, map, length, slice_index}
use mathlib.Core.Option.{some}
use lib.ListN.{get_elem?}
use Rattle.atomic_table.specs.Table.{State, Me, Step}
use Rattle.ruled_mutex.specs.declared.pass.Doing.{Doing}
use Rattle.ruled_mutex.specs.declared.pass.Stage.{Stage}
use Rattle.ruled_mutex.specs.declared.pass.Stage.TheVariants.{Outside, Holding, OwesWake}

-- what a pass knows by its stage: who holds the lock knows the value as it was found
module _ {T : Type 0} (word holder : ℕ) (value : T) (pass : ℕ) where
  abbrev pub Knows : Stage T → Type 0
  Knows Outside = Unit {0}
  Knows (Holding x) = (word ≢ 0) × (pass ≡ holder) × (x ≡ value)
  Knows OwesWake = Unit {0}

-- who finds 2 owes somebody a wake
abbrev pub OwesIf : {T : Type 0} → ℕ → Stage T → Type 0
OwesIf r stage = (r ≡ 2 → stage ≡ OwesWake) × (r ≢ 2 → stage ≡ Outside)

abbrev pub client : {T V : Type 0} → Doing T V → V
client d = d.client

abbrev pub word_of : List ℕ → ℕ
word_of words = slice_index words 8

-- the caller's rule holds of the value, which is at home while the lock is free
pub record Guarded {T V : Type 0} (holds : T → List V → Type 0)
    (s : State T (Doing T V)) : Type 0 where
  pub value : T
  pub holder : ℕ
  pub size : length s.words ≡ 16
  pub home : word_of s.words ≡ 0 → get_elem? s.homes 0 ≡ some (some value)
  pub each_pass : (j : ℕ) (d : Doing T V) → get_elem? s.views j ≡ some d
      → Knows (word_of s.words) holder value j d.stage
  pub kept : holds value (map client s.views)

module _ {T V : Type 0} where
  abbrev pub doing : Stage T → V → Doing T V
  doing stage v = record { stage = stage; client = v }

  abbrev pub outside : V → Doing T V
  outside v = doing Outside v

  -- the pass found x when it took the lock, and has made y of it
  abbrev pub HasMade : Me T (Doing T V) → T → T → Type 0
  HasMade m x y = (m.0.stage ≡ Holding x) × (m.1 ≡ (0, y) ∷ [])

  -- the pass has just taken the lock
  abbrev pub Took : V → Me T (Doing T V) → Type 0
  Took v m = (x : T) × (m ≡ (doing (Holding x) v, (0, x) ∷ []))

  abbrev pub sat : Step T → Me T (Doing T V) → ℕ → Me T (Doing T V) → Type 0
  sat st m r m' = m'.0 ≡ m.0

  -- who finds 0 has the lock, and the value
  abbrev pub locked : Step T → Me T (Doing T V) → ℕ → Me T (Doing T V) → Type 0
  locked st m r m' =
      (r ≡ 0 → (x : T) × (m' ≡ (doing (Holding x) m.0.client, (0, x) ∷ m.1)))
      × (r ≢ 0 → m' ≡ m)

  -- who holds the lock learns of the value that it found
  abbrev pub learned : (V → T → Type 0) → Step T → Me T (Doing T V) → ℕ → Me T (Doing T V) → Type 0
  learned fact st m r m' = (m' ≡ m) × ((x : T) → m.0.stage ≡ Holding x → fact m.0.client x)

  abbrev pub unlocked : (V → T → T → V → Type 0) → Step T → Me T (Doing T V) → ℕ
      → Me T (Doing T V) → Type 0
  unlocked then st m r m' =
      (x y : T) → HasMade m x y
      → (m'.1 ≡ []) × OwesIf r m'.0.stage × then m.0.client x y m'.0.client

  -- the wake is paid
  abbrev pub paid : Step T → Me T (Doing T V) → ℕ → Me T (Doing T V) → Type 0
  paid st m r m' = m' ≡ (outside m.0.client, m.1)
