-- What each call makes of the entries, the three keys and the two numbers of a `WaitList`.
use Rattle.std.proofs.Common.{◌≡◌, ℕ, ◌+◌, ◌-◌, ◌<◌, ◌==◌, Bool, true, false, cond, List, [], ◌∷◌, ◌++◌, map, length, take, Option, Some, None, is_some, OnSome, refl, sym, ap, ◌∙◌, subst, arith}
use Rattle.std.specs.Option.{option_map, option_and_then}
use Rattle.std.proofs.lemmas.List.{length-map, length-append}
use Rattle.slab.specs.Slab.{Slab, get, slab_len}
use Rattle.event_list.specs.Keys.{is_among, AreDifferent}
use Rattle.event_list.specs.Waiting.{Waiting, LosesOne, IsWaiting, keys, untold_keys, is_told, payload_of, told_flag, payload_in, joined, without, renewed, told_one, payloads, RingsEach}
use Rattle.event_list.specs.Calls.{IsEntryAt}
use Rattle.event_list.specs.Entries.{notice_at, with_notice, payload_at, Rewrites}
use Rattle.event_list.specs.Chain.{first_key, IsChain, untold_item, items, shown, IsLinked, Keeps}
use Rattle.event_list.specs.declared.entries.Entry.{Entry}
use Rattle.event_list.specs.declared.ends.Ends.{Ends}
use Rattle.event_list.specs.declared.entries.EntryState.{EntryState}
use Rattle.event_list.specs.declared.entries.EntryState.TheVariants.{Told, Untold}
use Rattle.event_list.proofs.Splits.{payload_told, without_told, without_untold, without_absent, renewed_absent, loses_one, joined_waits, renewed_waits}
use Rattle.event_list.proofs.ChainLemmas.{Keeps-shown}
use Rattle.event_list.proofs.KeptEntries.{entry_is, told_entry, untold_entry, told_from_flag, untold_from_flag}
use Rattle.event_list.proofs.Writes.{linked_renewed, FirstUntold, first_untold, linked_told_one}

module _ {W : Type 0} where
  -- a fact of the entry that left, if one did
  pub there : (result : Option (EntryState W)) {told : Bool} {P : Type 0} → option_map is_told result ≡ Some told
      → OnSome result P → P
  there None is holds = absurd (cc)
  there (Some state) is holds = holds

  -- what the fields keep while the value is seen as this list
  pub opened : {slab : Slab (Entry W)} {ends : Ends} {len told : ℕ} {list : Waiting W}
      → Keeps slab ends len told (shown slab ends len told) → shown slab ends len told ≡ list
      → Keeps slab ends len told list
  opened {slab} {ends} {len} {told} keeps view = subst (Keeps slab ends len told) view keeps

  -- the fields show the list that they keep
  pub shows : {slab : Slab (Entry W)} {ends : Ends} {len told : ℕ} {list : Waiting W} → Keeps slab ends len told list
      → shown slab ends len told ≡ list
  shows {slab} {ends} {len} {told} {list} keeps = Keeps-shown slab ends len told list keeps

  -- so the value may be closed over them
  pub closed : {slab : Slab (Entry W)} {ends : Ends} {len told : ℕ} {list : Waiting W} → Keeps slab ends len told list
      → Keeps slab ends len told (shown slab ends len told)
  closed {slab} {ends} {len} {told} keeps = subst (Keeps slab ends len told) (sym (shows keeps)) keeps

  -- one entry leaves with its key, and no other
  pub loses : {slab : Slab (Entry W)} {ends : Ends} {len told : ℕ} {list : Waiting W} (key : ℕ)
      → Keeps slab ends len told list → LosesOne list key
  loses {list = list} key keeps = loses_one list key keeps.links.different

  -- the notice under a key is the list's entry
  pub entry_of : {slab : Slab (Entry W)} {ends : Ends} {len told key name : ℕ} {list : Waiting W}
      {entry : Option (EntryState W)} → Keeps slab ends len told list → key ≡ name → entry ≡ notice_at slab key
      → IsEntryAt list name entry
  entry_of {slab} {ends} {key = key} {list = list} {entry} keeps same is =
      subst (λ (k : ℕ). IsEntryAt list k entry) same (entry_is slab ends list key keeps.links is)

  -- and so it gives the told flag
  pub flag_is : {list : Waiting W} {key : ℕ} {entry : Option (EntryState W)} {state : EntryState W} {told : Bool}
      → IsEntryAt list key entry → entry ≡ Some state → is_told state ≡ told → told_flag list key ≡ Some told
  flag_is here is marked = sym here.was_told ∙ ap (option_map is_told) is ∙ ap Some marked

  -- a told entry has no payload, as the list says
  pub no_payload : {slab : Slab (Entry W)} {ends : Ends} {len told key name : ℕ} {list : Waiting W}
      → Keeps slab ends len told list → key ≡ name → told_flag list key ≡ Some true
      → None ≡ payload_in name list.untold
  no_payload {key = key} {list = list} keeps same is =
      sym (payload_told list key keeps.links.different (told_from_flag list key is))
      ∙ ap (λ k. payload_in k list.untold) same

  -- the payload that an entry had is the list's
  pub had : {slab : Slab (Entry W)} {ends : Ends} {len told key name : ℕ} {list : Waiting W} {result : Option W}
      → Keeps slab ends len told list → key ≡ name → result ≡ option_and_then payload_of (notice_at slab key)
      → result ≡ payload_in name list.untold
  had keeps same is = is ∙ (entry_of keeps same refl).payload

  chain_same : (old new : Slab (Entry W)) (before behind : Option ℕ) (xs : List (ℕ × EntryState W))
      → ((key : ℕ) → get new key ≡ get old key) → IsChain old before xs behind → IsChain new before xs behind
  chain_same old new before behind [] same h = tt
  chain_same old new before behind (x ∷ xs) same h = (same x.0 ∙ h.0, chain_same old new (Some x.0) behind xs same h.1)

  -- more room changes nothing
  pub keeps_same : {old new : Slab (Entry W)} {ends : Ends} {len told : ℕ} {list : Waiting W} → new.slots ≡ old.slots
      → Keeps old ends len told list → Keeps new ends len told list
  keeps_same {old} {new} {ends} {list = list} slots keeps =
      let same : (key : ℕ) → get new key ≡ get old key = λ key. rw slots refl in
      let linked : IsLinked new ends list = record {
        linked = chain_same old new None None (items list) same keeps.links.linked;
        only = λ key absent. same key ∙ keeps.links.only key absent;
        first_is = keeps.links.first_is;
        last_is = keeps.links.last_is;
        cursor_is = keeps.links.cursor_is;
        different = keeps.links.different;
      } in
      record { links = linked; counted = keeps.counted; total = keeps.total; held = rw slots keeps.held }

  -- a new entry goes last
  pub keeps_joined : {old new : Slab (Entry W)} {ends left : Ends} {len told : ℕ} {list : Waiting W} (key : ℕ)
      (payload : W) → Keeps old ends len told list → IsLinked new left (joined list key payload)
      → slab_len new ≡ slab_len old + 1 → Keeps new left (len + 1) told (joined list key payload)
  keeps_joined {list = list} key payload keeps linked held =
      record {
        links = linked;
        counted = keeps.counted;
        total = omega (arith, keeps.total, length-append list.untold ((key, payload) ∷ []));
        held = omega (arith, keeps.held, held);
      }

  -- how many are left of a list once a told key has left it
  told_left : (slab : Slab (Entry W)) (ends : Ends) (list : Waiting W) (key : ℕ) → IsLinked slab ends list
      → told_flag list key ≡ Some true → (length (without list key).told + 1 ≡ length list.told)
      × (length (without list key).untold ≡ length list.untold)
  told_left slab ends list key linked marked =
      let at = told_entry slab ends list key linked (told_from_flag list key marked) in
      let is = without_told list key at.front at.back at.cut in (
        omega (
          arith,
          ap (λ (v : Waiting W). length v.told) is,
          ap length at.cut.is_here,
          length-append at.front
              at.back,
          length-append at.front (key ∷ at.back),
        ),
        ap (λ (v : Waiting W). length v.untold) is,
      )

  -- and once an untold one has
  untold_left : (slab : Slab (Entry W)) (ends : Ends) (list : Waiting W) (key : ℕ) → IsLinked slab ends list
      → told_flag list key ≡ Some false → (length (without list key).told ≡ length list.told)
      × (length (without list key).untold + 1 ≡ length list.untold)
  untold_left slab ends list key linked marked =
      let at = untold_entry slab ends list key linked (untold_from_flag list key marked).1 in
      let is = without_untold list key at.payload at.front at.back at.cut in (
        ap (λ (v : Waiting W). length v.told) is,
        omega (
          arith,
          ap (λ (v : Waiting W). length v.untold) is,
          ap length at.cut.is_here,
          length-append at.front
              at.back,
          length-append at.front ((key, at.payload) ∷ at.back),
        ),
      )

  -- somebody is told if a told key is in the list
  pub some_told : {slab : Slab (Entry W)} {ends : Ends} {len told : ℕ} {list : Waiting W} (key : ℕ)
      → Keeps slab ends len told list → told_flag list key ≡ Some true → 0 < told
  some_told {slab} {ends} {list = list} key keeps marked =
      omega (arith, keeps.counted, (told_left slab ends list key keeps.links marked).0)

  -- a told key leaves
  pub keeps_without_told : {old new : Slab (Entry W)} {ends left : Ends} {len told : ℕ} {list : Waiting W} (key : ℕ)
      → Keeps old ends len told list → told_flag list key ≡ Some true → IsLinked new left (without list key)
      → slab_len new + 1 ≡ slab_len old → Keeps new left (len - 1) (told - 1) (without list key)
  keeps_without_told {old} {ends = ends} {list = list} key keeps marked linked held =
      let sizes = told_left old ends list key keeps.links marked in
      record {
        links = linked;
        counted = omega (arith, keeps.counted, sizes.0);
        total = omega (arith, keeps.total, sizes.0, sizes.1);
        held = omega (arith, keeps.held, held);
      }

  -- an untold key leaves
  pub keeps_without_untold : {old new : Slab (Entry W)} {ends left : Ends} {len told : ℕ} {list : Waiting W} (key : ℕ)
      → Keeps old ends len told list → told_flag list key ≡ Some false → IsLinked new left (without list key)
      → slab_len new + 1 ≡ slab_len old → Keeps new left (len - 1) told (without list key)
  keeps_without_untold {old} {ends = ends} {list = list} key keeps marked linked held =
      let sizes = untold_left old ends list key keeps.links marked in
      record {
        links = linked;
        counted = omega (arith, keeps.counted, sizes.0);
        total = omega (arith, keeps.total, sizes.0, sizes.1);
        held = omega (arith, keeps.held, held);
      }

  -- a told key leaves, and comes again as the last one, untold
  pub keeps_moved : {old new : Slab (Entry W)} {ends left : Ends} {len told at : ℕ} {list : Waiting W} (key : ℕ)
      (payload : W) → Keeps old ends len told list → told_flag list key ≡ Some true → at ≡ key
      → IsLinked new left (joined (without list key) at payload) → slab_len new ≡ slab_len old
      → Keeps new left len (told - 1) (renewed list key payload)
  keeps_moved {old} {new} {ends} {left} {list = list} key payload keeps marked same linked held =
      let sizes = told_left old ends list key keeps.links marked in
      rw (told_from_flag list key marked) (record {
        links = subst (λ (k : ℕ). IsLinked new left (joined (without list key) k payload)) same linked;
        counted = omega (arith, keeps.counted, sizes.0);
        total = omega (
          arith,
          keeps.total,
          sizes.0,
          sizes.1,
          length-append (without list key).untold
              ((key, payload) ∷ []),
        );
        held = omega (arith, keeps.held, held);
      })

  -- an untold key keeps its place, with another payload
  pub keeps_repaid : {old new : Slab (Entry W)} {ends : Ends} {len told : ℕ} {list : Waiting W} (key : ℕ) (payload : W)
      → Keeps old ends len told list → told_flag list key ≡ Some false
      → Rewrites old new key (option_map (with_notice (Untold payload)) (get old key))
      → Keeps new ends len told (renewed list key payload)
  keeps_repaid {old} {new} {ends} {list = list} key payload keeps marked writes =
      let marks = untold_from_flag list key marked in
      let size : length (map (λ (entry : ℕ × W). cond (entry.0 == key) (key, payload) entry) list.untold)
      ≡ length list.untold = length-map list.untold
      (λ (entry : ℕ × W). cond (entry.0 == key) (key, payload) entry) in
      record {
        links = linked_renewed old new ends list key payload keeps.links marked writes;
        counted = rw marks.0 keeps.counted;
        total = rw marks.0 (omega (arith, keeps.total, size));
        held = keeps.held ∙ sym writes.held;
      }

  absent_from_flag : (list : Waiting W) (key : ℕ) → told_flag list key ≡ None
      → (is_among key list.told ≡ false) × (is_among key (untold_keys list) ≡ false)
  absent_from_flag list key h = by_tests (is_among key list.told) (is_among key (untold_keys list)) h
    where
      by_tests : (told untold : Bool) → cond told (Some true) (cond untold (Some false) None) ≡ None
          → (told ≡ false) × (untold ≡ false)
      by_tests true untold h = absurd (cc)
      by_tests false true h = absurd (cc)
      by_tests false false h = (refl, refl)

  -- a key that isn't in the list changes nothing
  pub without_none : {list : Waiting W} (key : ℕ) → told_flag list key ≡ None → without list key ≡ list
  without_none {list} key h = let parts = absent_from_flag list key h in without_absent list key parts.0 parts.1

  -- nor does it if it is to wait again
  pub renewed_none : {list : Waiting W} (key : ℕ) (payload : W) → told_flag list key ≡ None → renewed list key payload ≡ list
  renewed_none {list} key payload h = let parts = absent_from_flag list key h in
      renewed_absent list key payload parts.0 parts.1

  -- a key that isn't in the list leaves
  pub keeps_untouched : {old new : Slab (Entry W)} {ends left : Ends} {len told : ℕ} {list : Waiting W} (key : ℕ)
      → Keeps old ends len told list → told_flag list key ≡ None → IsLinked new left (without list key) → new ≡ old
      → Keeps new left len told list
  keeps_untouched {old} {new} {ends} {left} key keeps marked linked same =
      record {
        links = subst (IsLinked new left) (without_none key marked) linked;
        counted = keeps.counted;
        total = keeps.total;
        held = keeps.held ∙ ap slab_len (sym same);
      }

  -- a key that was in the list waits again, with its payload
  pub waits_again : {after : Waiting W} (list : Waiting W) (key : ℕ) (payload : W) (told : Bool)
      → AreDifferent (keys list) → told_flag list key ≡ Some told → after ≡ renewed list key payload
      → IsWaiting after key payload
  waits_again list key payload told different marked is =
      subst (λ (v : Waiting W). IsWaiting v key payload) (sym is)
      (renewed_waits list key payload different (ap is_some marked))

  -- a new key waits, with its payload
  pub waits_newly : {after : Waiting W} (list : Waiting W) (key : ℕ) (payload : W) → is_among key (keys list) ≡ false
      → after ≡ joined list key payload → IsWaiting after key payload
  waits_newly list key payload absent is =
      subst (λ (v : Waiting W). IsWaiting v key payload) (sym is) (joined_waits list key payload absent)

  -- what telling the entry at the cursor does: the first untold one has this payload, and is told now
  pub record TellsFirst (new : Slab (Entry W)) (ends : Ends) (len told : ℕ) (list : Waiting W)
      (payload : W) : Type 0 where
    pub rest : List W
    pub payloads_are : payloads list ≡ payload ∷ rest
    pub keeps : Keeps new ends len (told + 1) (told_one list)

  -- the list, once its first untold one is told
  told_one_is : (slab : Slab (Entry W)) (ends : Ends) (list : Waiting W) (key : ℕ)
      (first : FirstUntold slab ends list key)
      → told_one list ≡ record { told = list.told ++ key ∷ []; untold = first.rest }
  told_one_is slab ends list key first = rw first.untold refl

  some_pair : (one other : W × Option ℕ) → Some one ≡ Some other → (one.0 ≡ other.0) × (one.1 ≡ other.1)
  some_pair one other h = let same : one ≡ other = (cc) in (ap (λ p. p.0) same, ap (λ p. p.1) same)

  -- so it is if the entries answer with this payload
  pub tells_first : {old new : Slab (Entry W)} {ends : Ends} {len told key : ℕ} {list : Waiting W} {payload : W}
      {behind : Option ℕ} {result : Option (W × Option ℕ)} → Keeps old ends len told list → ends.cursor ≡ Some key
      → result ≡ option_and_then payload_at (get old key) → result ≡ Some (payload, behind)
      → Rewrites old new key (option_map (with_notice Told) (get old key))
      → TellsFirst new (record ends { cursor = behind }) len told list payload
  tells_first {old} {new} {ends} {len} {told} {key} {list} {payload} {behind} keeps at gives is writes =
      let first = first_untold old ends list key keeps.links at in
      let answer = some_pair (payload, behind) (first.payload, first_key (map untold_item first.rest) None)
      (sym is ∙ gives ∙ ap (option_and_then payload_at) first.entry) in
      let left = told_one_is old ends list key first in
      record {
        rest = map (λ (entry : ℕ × W). entry.1) first.rest;
        payloads_are = ap (map (λ (entry : ℕ × W). entry.1)) first.untold
            ∙ ap (λ (w : W). w ∷ map (λ (entry : ℕ × W). entry.1) first.rest) (sym answer.0);
        keeps = record {
          links = linked_told_one old new ends list key behind first keeps.links answer.1 writes;
          counted = omega (
            arith,
            keeps.counted,
            ap (λ (v : Waiting W). length v.told) left,
            length-append list.told
                (key ∷ []),
          );
          total = omega (
            arith,
            keeps.total,
            ap (λ (v : Waiting W). length v.told) left,
            ap
                (λ (v : Waiting W). length v.untold) left,
            length-append list.told (key ∷ []),
            ap length first.untold,
          );
          held = keeps.held ∙ sym writes.held;
        };
      }

  none_some : (one : W × Option ℕ) → None ≡ Some one → ⊥
  none_some one h = cc

  -- the entry at the cursor is there, and untold
  pub is_untold_there : {slab : Slab (Entry W)} {ends : Ends} {len told key : ℕ} {list : Waiting W}
      {result : Option (W × Option ℕ)} → Keeps slab ends len told list → ends.cursor ≡ Some key
      → result ≡ option_and_then payload_at (get slab key) → result ≡ None → ⊥
  is_untold_there {slab} {ends} {key = key} {list = list} keeps at gives is =
      let first = first_untold slab ends list key keeps.links at in
      none_some (first.payload, first_key (map untold_item first.rest) None)
      (sym is ∙ gives ∙ ap (option_and_then payload_at) first.entry)

  -- one ring with the first payload
  pub rings_first : {B : Type 0} (rings : B → W → B → Type 0) {before after : B} {new : Slab (Entry W)} {ends : Ends}
      {len told : ℕ} {list : Waiting W} {payload : W} → TellsFirst new ends len told list payload
      → rings before payload after → RingsEach rings before (take 1 (payloads list)) after
  rings_first rings {after = after} tells rung = rw tells.payloads_are (after, rung, refl)
