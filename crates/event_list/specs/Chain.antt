-- The list that the entries of a slab make: each names the one before and the one behind it.
-- No public clause cites this module.
use Rattle.std.specs.Prelude.{◌≡◌, ℕ, zero, suc, ◌+◌, ◌-◌, List, [], ◌∷◌, ◌++◌, map, length, Option, Some, None, false}
use Rattle.std.specs.Global.{Box}
use Rattle.slab.specs.Slab.{Slab, get, slab_len}
use Rattle.event_list.specs.Keys.{is_among, AreDifferent}
use Rattle.event_list.specs.Waiting.{Waiting, nobody, keys}
use Rattle.event_list.specs.declared.entries.Entry.{Entry}
use Rattle.event_list.specs.declared.ends.Ends.{Ends}
use Rattle.event_list.specs.declared.entries.EntryState.{EntryState}
use Rattle.event_list.specs.declared.entries.EntryState.TheVariants.{Told, Untold}

module _ {A : Type 0} where
  -- the key of the first item, or this one if there is none
  abbrev pub first_key : List (ℕ × A) → Option ℕ → Option ℕ
  first_key [] behind = behind
  first_key (item ∷ rest) behind = Some item.0

  -- the key of the last item, or this one if there is none
  abbrev pub last_key : Option ℕ → List (ℕ × A) → Option ℕ
  last_key before [] = before
  last_key before (item ∷ rest) = last_key (Some item.0) rest

module _ {W : Type 0} where
  -- what the entry of a told key holds, beside its neighbours
  abbrev pub told_item : ℕ → ℕ × EntryState W
  told_item key = (key, Told)

  -- and the entry of an untold one
  abbrev pub untold_item : ℕ × W → ℕ × EntryState W
  untold_item entry = (entry.0, Untold entry.1)

  -- the entries of a list: a told front, and the untold ones behind it
  abbrev pub items : Waiting W → List (ℕ × EntryState W)
  items list = map told_item list.told ++ map untold_item list.untold

  -- These items stand in the slab, one behind the other, between these two neighbours.
  abbrev pub IsChain : Slab (Entry W) → Option ℕ → List (ℕ × EntryState W) → Option ℕ → Type 0
  IsChain slab before [] behind = Unit {0}
  IsChain slab before (item ∷ rest) behind =
      (get slab item.0 ≡ Some (record {
        before = before;
        behind = first_key rest behind;
        notice = item.1;
      }))
      × IsChain slab (Some item.0) rest behind

  -- an entry, if there is one under this key, and what is read from its neighbour on
  abbrev step : (Option ℕ → List (ℕ × EntryState W)) → ℕ → Option (Entry W)
      → List (ℕ × EntryState W)
  step rest key None = []
  step rest key (Some entry) = (key, entry.notice) ∷ rest entry.behind

  -- the same, if there is a key
  abbrev step_from : Slab (Entry W) → (Option ℕ → List (ℕ × EntryState W)) → Option ℕ
      → List (ℕ × EntryState W)
  step_from slab rest None = []
  step_from slab rest (Some key) = step rest key (get slab key)

  -- this many entries, from this one on, each behind the other
  abbrev pub walk : Slab (Entry W) → ℕ → Option ℕ → List (ℕ × EntryState W)
  walk slab zero = λ _. []
  walk slab (suc n) = λ start. step_from slab (walk slab n) start

  -- a key and its payload, if it is untold, in front of the others
  abbrev with_payload : ℕ → EntryState W → List (ℕ × W) → List (ℕ × W)
  with_payload key Told rest = rest
  with_payload key (Untold payload) rest = (key, payload) ∷ rest

  -- the items that hold a payload
  abbrev pub untold_of : List (ℕ × EntryState W) → List (ℕ × W)
  untold_of [] = []
  untold_of (item ∷ rest) = with_payload item.0 item.1 (untold_of rest)

  -- The list that the fields of a `WaitList` show: the told ones are read from the first entry on,
  -- the untold ones from the cursor on.
  abbrev pub shown : Slab (Entry W) → Ends → ℕ → ℕ → Waiting W
  shown slab ends len told = record {
    told = map (λ item. item.0) (walk slab told ends.first);
    untold = untold_of (walk slab (len - told) ends.cursor);
  }

  -- The entries of the slab, and the three keys beside them, keep this list: they stand one behind
  -- the other, nothing else is in the slab, and the keys name the first, the last and the first
  -- untold one.
  pub record IsLinked (slab : Slab (Entry W)) (ends : Ends) (list : Waiting W) : Type 0 where
    pub linked : IsChain slab None (items list) None
    pub only : (key : ℕ) → is_among key (keys list) ≡ false → get slab key ≡ None
    pub first_is : ends.first ≡ first_key (items list) None
    pub last_is : ends.last ≡ last_key None (items list)
    pub cursor_is : ends.cursor ≡ first_key list.untold None
    pub different : AreDifferent (keys list)

  -- So do the two numbers, the length and the number told.
  pub record Keeps (slab : Slab (Entry W)) (ends : Ends) (len told : ℕ) (list : Waiting W)
      : Type 0 where
    pub links : IsLinked slab ends list
    pub counted : told ≡ length list.told
    pub total : len ≡ length list.told + length list.untold
    pub held : len ≡ slab_len slab

  -- The fields of a `WaitList` keep the list that they show.
  abbrev pub KeepShown : Slab (Entry W) → Ends → ℕ → ℕ → Type 0
  KeepShown slab ends len told = Keeps slab ends len told (shown slab ends len told)

  -- The list that is kept in memory of its own: without that memory nobody waits.
  abbrev pub kept_list : Option (Box (Waiting W)) → Waiting W
  kept_list None = nobody
  kept_list (Some kept) = kept.value
