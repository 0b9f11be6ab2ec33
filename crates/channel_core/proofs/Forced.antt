-- The law of notices after a forced message.
use Rattle.std.proofs.Common.{◌≡◌, ◌+◌, ◌<◌, ◌≤◌, ℕ, List, [], ◌∷◌, length, Bool, true, false, refl, sym, ◌∙◌, ap, arith, length-append, length-drop}
use Rattle.event_list.specs.Waiting.{Waiting, told_one, told_all, told_count, untold_count}
use Rattle.channel_core.specs.Queue.{Contents, contents, is_full, force_pushed, IsWithin}
use Rattle.channel_core.specs.Covered.{IsCovered}
use Rattle.channel_core.specs.Channel.{Channel, standing_of}

module _ {T : Type 0} where
  -- a forced message is one more, or takes the place of the oldest
  pub length-force_pushed : (queue : Contents T) (message : T)
      → (length queue.messages ≤ length (force_pushed queue message).messages)
      × (length (force_pushed queue message).messages ≤ length queue.messages + 1)
  length-force_pushed queue message = go (is_full queue.capacity queue.messages) refl
    where
      go : (full : Bool) → is_full queue.capacity queue.messages ≡ full
          → (length queue.messages ≤ length (force_pushed queue message).messages)
          × (length (force_pushed queue message).messages ≤ length queue.messages + 1)
      go true full = rw full (grind (arith, length-append, length-drop))
      go false full = rw full (grind (arith, length-append))

  -- and the capacity stays
  pub capacity-force_pushed : (queue : Contents T) (message : T)
      → (force_pushed queue message).capacity ≡ queue.capacity
  capacity-force_pushed queue message = go (is_full queue.capacity queue.messages) refl
    where
      go : (full : Bool) → is_full queue.capacity queue.messages ≡ full
          → (force_pushed queue message).capacity ≡ queue.capacity
      go true full = rw full refl
      go false full = rw full refl

module _ {W : Type 0} where
  -- if somebody is left untold, another one was told
  pub told_one-untold : (told : List ℕ) (untold : List (ℕ × W))
      → let list : Waiting W = record { told = told; untold = untold } in
      0 < untold_count (told_one list) → (told_count (told_one list) ≡ told_count list + 1) × (0 < untold_count list)
  told_one-untold told [] some = absurd (omega (arith, some))
  told_one-untold told (entry ∷ rest) some = (rw length-append refl, omega arith)

module _ {T W : Type 0} where
  -- a forced message, and one receive and all streams told
  pub IsCovered-forced : (now : Channel T W) (message : T) (queue : Contents T) → IsCovered (standing_of now)
      → now.closed ≡ false
      → queue ≡ force_pushed (contents now.capacity now.messages) message → IsWithin queue
      → IsCovered (standing_of (record now {
        capacity = queue.capacity;
        messages = queue.messages;
        receives = told_one now.receives;
        streams = told_all now.streams;
      }))
  IsCovered-forced now message queue covered opened pushed within =
      let sizes = length-force_pushed (contents now.capacity now.messages) message in
      let more : length now.messages ≤ length queue.messages = rw pushed sizes.0 in
      let most : length queue.messages ≤ length now.messages + 1 = rw pushed sizes.1 in
      let same : queue.capacity ≡ now.capacity = ap (λ q. q.capacity) pushed
      ∙ capacity-force_pushed (contents now.capacity now.messages) message in
      record {
        receives = λ untold.
            let told = told_one-untold now.receives.told now.receives.untold untold in
            let enough : length now.messages ≤ told_count now.receives = covered.receives told.1 in
            omega arith;
        sends = λ capacity is untold. let enough = covered.sends capacity (sym same ∙ is) untold in omega arith;
        unbounded = λ is. covered.unbounded (sym same ∙ is);
        streams = λ untold. absurd (omega (arith, untold));
        closeds = covered.closeds;
        closed = λ closed. cc;
        open_senders = covered.open_senders;
        open_receivers = covered.open_receivers;
        within = within;
      }
