-- What one call on the entries in the slab changes. No public clause cites this module.
use Rattle.std.specs.Prelude.{◌≡◌, ◌≢◌, ◌==◌, ℕ, Bool, false, Option, Some, None, is_some, if◌then◌else◌}
use Rattle.std.specs.Option.{option_map, option_or}
use Rattle.slab.specs.Slab.{Slab, get, slab_len}
use Rattle.event_list.specs.declared.entries.Entry.{Entry}
use Rattle.event_list.specs.declared.ends.Ends.{Ends}
use Rattle.event_list.specs.declared.entries.EntryState.{EntryState}
use Rattle.event_list.specs.declared.entries.EntryState.TheVariants.{Told, Untold}

-- whether this is the key
abbrev pub is_at : Option ℕ → ℕ → Bool
is_at None key = false
is_at (Some other) key = other == key

-- the three keys, once the entry of a key with these neighbours has left
abbrev pub ends_without : Ends → ℕ → Option ℕ → Option ℕ → Ends
ends_without ends key before behind = record {
  first = if is_some before then ends.first else behind;
  last = if is_some behind then ends.last else before;
  cursor = if is_at ends.cursor key then behind else ends.cursor;
}

-- the three keys, once a new untold entry has come last
abbrev pub ends_with : Ends → ℕ → Ends
ends_with ends key = record {
  first = option_or ends.first (Some key);
  last = Some key;
  cursor = option_or ends.cursor (Some key);
}

module _ {W : Type 0} where
  -- the notice under a key, if there is an entry
  abbrev pub notice_at : Slab (Entry W) → ℕ → Option (EntryState W)
  notice_at slab key = option_map (λ entry. entry.notice) (get slab key)

  -- an entry with another neighbour behind
  abbrev pub with_behind : Option ℕ → Entry W → Entry W
  with_behind behind entry = record entry { behind = behind }

  -- an entry with another neighbour before
  abbrev pub with_before : Option ℕ → Entry W → Entry W
  with_before before entry = record entry { before = before }

  -- an entry with another notice
  abbrev pub with_notice : EntryState W → Entry W → Entry W
  with_notice notice entry = record entry { notice = notice }

  -- the payload of a notice, if it is untold, beside a key
  abbrev payload_beside : Option ℕ → EntryState W → Option (W × Option ℕ)
  payload_beside behind Told = None
  payload_beside behind (Untold payload) = Some (payload, behind)

  -- the payload of an entry, if it is untold, and its neighbour behind
  abbrev pub payload_at : Entry W → Option (W × Option ℕ)
  payload_at entry = payload_beside entry.behind entry.notice

  -- one slot has this entry or nothing, every other slot is as it was, and so are room and count
  pub record Rewrites (old new : Slab (Entry W)) (key : ℕ) (slot : Option (Entry W)) : Type 0 where
    pub changed : get new key ≡ slot
    pub others : (other : ℕ) → other ≢ key → get new other ≡ get old other
    pub held : slab_len new ≡ slab_len old
    pub next : new.vacant_key ≡ old.vacant_key
    pub capacity : new.capacity ≡ old.capacity

  -- one slot changes, if a key is given
  abbrev pub MayRewrite : (Entry W → Entry W) → Slab (Entry W) → Slab (Entry W) → Option ℕ → Type 0
  MayRewrite change old new None = new ≡ old
  MayRewrite change old new (Some key) = Rewrites old new key (option_map change (get old key))
