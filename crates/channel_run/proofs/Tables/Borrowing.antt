-- How many operations borrow a handle, after each change of one operation.
use Rattle.std.proofs.Common.{rules, ◌≡◌, ℕ, ◌+◌, ◌-◌, ◌^◌, ◌<◌, ◌≤◌, List, [], ◌∷◌, Bool, true, false, ◌||◌, cond, Some, None, refl, sym, ◌∙◌, ap, length, filter, map, arith}
use Rattle.std.specs.Prelude.{nat_lt}
use Rattle.std.specs.List.{list_any}
use Rattle.std.specs.Map.{remove_entry, set_value}
use Rattle.std.specs.BTreeMap.{insert_entry, is_at}
use Rattle.std.specs.Ordering.{is_eq, match_ordering, nat_cmp}
use Rattle.std.specs.declared.cmp.Ordering.{Ordering}
use Rattle.std.specs.declared.cmp.Ordering.TheVariants.{Less, Equal, Greater}
use Rattle.channel_run.specs.declared.operations.Operation.{Operation as Started}
use Rattle.channel_model.specs.Operations.{Operation, borrows_receiver, borrows_sender}
use Rattle.channel_run.specs.RunShown.{AreCounted, count_of, entry_at, number_at, one_if, operation_shown}

-- ---- sums

swap_in : (a b c d x y : ℕ) → a ≡ b + x → b ≡ d + y → c ≡ d + x → a ≡ c + y
swap_in a b c d x y e f g = omega arith

back_again : (a b c d : ℕ) → a ≡ b - d → b ≡ c + d → a ≡ c
back_again a b c d e f = omega arith

small : (a b c : ℕ) → a ≡ b → b ≤ c → c < 2 ^ 63 → a + 1 < 2 ^ 64
small a b c e f g = omega arith

positive_test : (n : ℕ) → 0 < n → true ≡ nat_lt 0 n
positive_test n p = search rules

-- ---- how many pass a test

module _ {T : Type 0} (test : Operation T → Bool) where
  count-cons : (entry : ℕ × Started T) (entries : List (ℕ × Started T))
      → count_of test (entry ∷ entries) ≡ count_of test entries + one_if (test (operation_shown entry.1))
  count-cons entry entries = go (test (operation_shown entry.1)) (filter (λ e. test (operation_shown e.1)) entries)
    where
      go : (passes : Bool) (rest : List (ℕ × Started T))
          → length (cond passes (entry ∷ rest) rest) ≡ length rest + one_if passes
      go true rest = omega arith
      go false rest = omega arith

  pub count-inserted : (op : ℕ) (operation : Started T) (entries : List (ℕ × Started T))
      → entry_at entries op ≡ None
      → count_of test (insert_entry nat_cmp entries op operation)
      ≡ count_of test entries + one_if (test (operation_shown operation))
  count-inserted op operation [] absent = count-cons (op, operation) []
  count-inserted op operation (entry ∷ entries) absent =
      go (nat_cmp op entry.0) absent (λ rest. count-inserted op operation entries rest)
    where
      go : (order : Ordering) → cond (is_eq order) (Some entry.1) (entry_at entries op) ≡ None
          → (entry_at entries op ≡ None → count_of test (insert_entry nat_cmp entries op operation)
          ≡ count_of test entries + one_if (test (operation_shown operation)))
          → count_of test (match_ordering order ((op, operation) ∷ entry ∷ entries) ((entry.0, operation) ∷ entries)
          (entry ∷ insert_entry nat_cmp entries op operation))
          ≡ count_of test (entry ∷ entries) + one_if (test (operation_shown operation))
      go Less e later = count-cons (op, operation) (entry ∷ entries)
      go Equal e later = cc
      go Greater e later = swap_in _ _ _ _ _ _ (count-cons entry (insert_entry nat_cmp entries op operation)) (later e)
          (count-cons entry entries)

  pub count-removed : (op : ℕ) (operation : Started T) (entries : List (ℕ × Started T))
      → entry_at entries op ≡ Some operation
      → count_of test entries ≡ count_of test (remove_entry (is_at (nat_cmp op)) entries)
      + one_if (test (operation_shown operation))
  count-removed op operation [] there = cc
  count-removed op operation (entry ∷ entries) there =
      go (is_eq (nat_cmp op entry.0)) there (λ rest. count-removed op operation entries rest)
    where
      go : (at : Bool) → cond at (Some entry.1) (entry_at entries op) ≡ Some operation
          → (entry_at entries op ≡ Some operation → count_of test entries
          ≡ count_of test (remove_entry (is_at (nat_cmp op)) entries) + one_if (test (operation_shown operation)))
          → count_of test (entry ∷ entries)
          ≡ count_of test (cond at entries (entry ∷ remove_entry (is_at (nat_cmp op)) entries))
          + one_if (test (operation_shown operation))
      go true e later =
          let same : entry.1 ≡ operation = cc in
          count-cons entry entries
          ∙ ap (λ (o : Started T). count_of test entries + one_if (test (operation_shown o))) same
      go false e later = swap_in _ _ _ _ _ _ (count-cons entry entries) (later e)
          (count-cons entry (remove_entry (is_at (nat_cmp op)) entries))

  count-set : (op : ℕ) (was now : Started T) (entries : List (ℕ × Started T))
      → entry_at entries op ≡ Some was
      → test (operation_shown now) ≡ test (operation_shown was)
      → count_of test (set_value (is_at (nat_cmp op)) entries now) ≡ count_of test entries
  count-set op was now [] there same = cc
  count-set op was now (entry ∷ entries) there same =
      go (is_eq (nat_cmp op entry.0)) there (λ rest. count-set op was now entries rest same)
    where
      go : (at : Bool) → cond at (Some entry.1) (entry_at entries op) ≡ Some was
          → (entry_at entries op ≡ Some was
          → count_of test (set_value (is_at (nat_cmp op)) entries now) ≡ count_of test entries)
          → count_of test (cond at ((entry.0, now) ∷ entries) (entry ∷ set_value (is_at (nat_cmp op)) entries now))
          ≡ count_of test (entry ∷ entries)
      go true e later =
          let before : was ≡ entry.1 = cc in
          count-cons (entry.0, now) entries
          ∙ ap (λ passes. count_of test entries + one_if passes)
          (same ∙ ap (λ (o : Started T). test (operation_shown o)) before)
          ∙ sym (count-cons entry entries)
      go false e later = count-cons entry (set_value (is_at (nat_cmp op)) entries now)
          ∙ ap (λ n. n + one_if (test (operation_shown entry.1))) (later e) ∙ sym (count-cons entry entries)

  -- some operation passes if the number isn't 0
  pub list_any-count : (entries : List (ℕ × Started T))
      → list_any (λ operation. test (operation_shown operation)) (map (λ entry. entry.1) entries)
      ≡ nat_lt 0 (count_of test entries)
  list_any-count [] = refl
  list_any-count (entry ∷ entries) =
      go (test (operation_shown entry.1)) (filter (λ e. test (operation_shown e.1)) entries) (list_any-count entries)
    where
      go : (passes : Bool) (rest : List (ℕ × Started T))
          → list_any (λ operation. test (operation_shown operation)) (map (λ e. e.1) entries) ≡ nat_lt 0 (length rest)
          → (passes || list_any (λ operation. test (operation_shown operation)) (map (λ e. e.1) entries))
          ≡ nat_lt 0 (length (cond passes (entry ∷ rest) rest))
      go true rest later = positive_test (length (entry ∷ rest)) (omega arith)
      go false rest later = later

  -- no more pass than there are
  pub le-count : (entries : List (ℕ × Started T)) → count_of test entries ≤ length entries
  le-count [] = omega arith
  le-count (entry ∷ entries) =
      go (test (operation_shown entry.1)) (filter (λ e. test (operation_shown e.1)) entries) (le-count entries)
    where
      go : (passes : Bool) (rest : List (ℕ × Started T)) → length rest ≤ length entries
          → length (cond passes (entry ∷ rest) rest) ≤ length (entry ∷ entries)
      go true rest le = omega arith
      go false rest le = omega arith

-- so one more can be counted
pub few_borrow_sender : {T : Type 0} (by_sender by_receiver : List (ℕ × ℕ)) (operations : List (ℕ × Started T))
    → AreCounted by_sender by_receiver operations → length operations < 2 ^ 63 → (name : ℕ)
    → number_at by_sender name + 1 < 2 ^ 64
few_borrow_sender by_sender by_receiver operations were few name =
    small _ _ _ (were.each_sender name) (le-count (borrows_sender name) operations) few

pub few_borrow_receiver : {T : Type 0} (by_sender by_receiver : List (ℕ × ℕ)) (operations : List (ℕ × Started T))
    → AreCounted by_sender by_receiver operations → length operations < 2 ^ 63 → (name : ℕ)
    → number_at by_receiver name + 1 < 2 ^ 64
few_borrow_receiver by_sender by_receiver operations were few name =
    small _ _ _ (were.each_receiver name) (le-count (borrows_receiver name) operations) few

-- ---- who borrows what, after each change

module _ {T : Type 0} (op : ℕ) (operations operations' : List (ℕ × Started T))
    (operation : Started T) where
  -- an operation was started
  pub counted_put : entry_at operations op ≡ None
      → operations' ≡ insert_entry nat_cmp operations op operation
      → (by_sender by_receiver by_sender' by_receiver' : List (ℕ × ℕ)) → AreCounted by_sender by_receiver operations
      → ((name : ℕ) → number_at by_sender' name
      ≡ number_at by_sender name + one_if (borrows_sender name (operation_shown operation)))
      → ((name : ℕ) → number_at by_receiver' name
      ≡ number_at by_receiver name + one_if (borrows_receiver name (operation_shown operation)))
      → AreCounted by_sender' by_receiver' operations'
  counted_put absent is by_sender by_receiver by_sender' by_receiver' were senders receivers = record {
    each_sender = λ name. senders name
        ∙ ap (λ n. n + one_if (borrows_sender name (operation_shown operation))) (were.each_sender name)
        ∙ sym (ap (λ all. count_of (borrows_sender name) all) is
        ∙ count-inserted (borrows_sender name) op operation operations absent);
    each_receiver = λ name. receivers name
        ∙ ap (λ n. n + one_if (borrows_receiver name (operation_shown operation))) (were.each_receiver name)
        ∙ sym (ap (λ all. count_of (borrows_receiver name) all) is
        ∙ count-inserted (borrows_receiver name) op operation operations absent);
  }

  -- an operation was given up
  pub counted_taken : entry_at operations op ≡ Some operation
      → operations' ≡ remove_entry (is_at (nat_cmp op)) operations
      → (by_sender by_receiver by_sender' by_receiver' : List (ℕ × ℕ)) → AreCounted by_sender by_receiver operations
      → ((name : ℕ) → number_at by_sender' name
      ≡ number_at by_sender name - one_if (borrows_sender name (operation_shown operation)))
      → ((name : ℕ) → number_at by_receiver' name
      ≡ number_at by_receiver name - one_if (borrows_receiver name (operation_shown operation)))
      → AreCounted by_sender' by_receiver' operations'
  counted_taken there is by_sender by_receiver by_sender' by_receiver' were senders receivers = record {
    each_sender = λ name. back_again _ _ _ _ (senders name)
        (were.each_sender name ∙ count-removed (borrows_sender name) op operation operations there)
        ∙ sym (ap (λ all. count_of (borrows_sender name) all) is);
    each_receiver = λ name. back_again _ _ _ _ (receivers name)
        (were.each_receiver name ∙ count-removed (borrows_receiver name) op operation operations there)
        ∙ sym (ap (λ all. count_of (borrows_receiver name) all) is);
  }

-- an operation that couldn't be started is counted no more
pub counted_back : {T : Type 0} (operations : List (ℕ × Started T)) (operation : Started T)
    (by_sender by_receiver more_senders more_receivers by_sender' by_receiver' : List (ℕ × ℕ))
    → AreCounted by_sender by_receiver operations
    → ((name : ℕ) → number_at more_senders name
    ≡ number_at by_sender name + one_if (borrows_sender name (operation_shown operation)))
    → ((name : ℕ) → number_at more_receivers name
    ≡ number_at by_receiver name + one_if (borrows_receiver name (operation_shown operation)))
    → ((name : ℕ) → number_at by_sender' name
    ≡ number_at more_senders name - one_if (borrows_sender name (operation_shown operation)))
    → ((name : ℕ) → number_at by_receiver' name
    ≡ number_at more_receivers name - one_if (borrows_receiver name (operation_shown operation)))
    → AreCounted by_sender' by_receiver' operations
counted_back operations operation by_sender by_receiver more_senders more_receivers by_sender' by_receiver' were
    up up_too down down_too =
    record {
      each_sender = λ name. back_again _ _ _ _ (down name) (up name) ∙ were.each_sender name;
      each_receiver = λ name. back_again _ _ _ _ (down_too name) (up_too name) ∙ were.each_receiver name;
    }

-- an operation was polled, and borrows what it did
pub counted_set : {T : Type 0} (op : ℕ) (operations operations' : List (ℕ × Started T)) (was now : Started T)
    → entry_at operations op ≡ Some was
    → ((name : ℕ) → borrows_sender name (operation_shown now) ≡ borrows_sender name (operation_shown was))
    → ((name : ℕ) → borrows_receiver name (operation_shown now) ≡ borrows_receiver name (operation_shown was))
    → operations' ≡ set_value (is_at (nat_cmp op)) operations now
    → (by_sender by_receiver : List (ℕ × ℕ)) → AreCounted by_sender by_receiver operations
    → AreCounted by_sender by_receiver operations'
counted_set op operations operations' was now there senders receivers is by_sender by_receiver were = record {
  each_sender = λ name. were.each_sender name
      ∙ sym (ap (λ all. count_of (borrows_sender name) all) is
      ∙ count-set (borrows_sender name) op was now operations there (senders name));
  each_receiver = λ name. were.each_receiver name
      ∙ sym (ap (λ all. count_of (borrows_receiver name) all) is
      ∙ count-set (borrows_receiver name) op was now operations there (receivers name));
}
