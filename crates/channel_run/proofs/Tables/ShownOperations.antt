-- The operations that a table shows after one entry changed.
use Rattle.std.proofs.Common.{◌≡◌, ℕ, ◌+◌, List, [], ◌∷◌, ◌++◌, false, ◌==◌, Some, Option, sym, ◌∙◌, ap, length, map}
use Rattle.std.specs.Prelude.{is_some, option_map}
use Rattle.std.proofs.lemmas.List.{length-map}
use Rattle.channel_run.specs.declared.operations.Operation.{Operation as Started}
use Rattle.channel_model.specs.Operations.{Operation, finished, operation_in, with_finished}
use Rattle.channel_model.specs.View.{AreSameOperations}
use Rattle.channel_run.specs.RunShown.{Changed, entry_at, operation_shown}
use Rattle.channel_run.proofs.Tables.Entries.{is_some-shown, operation_in-entry_at}
use Rattle.channel_run.proofs.Alike.ChangedLists.{AreSameOperations-changed, AreSameOperations-inserted}
use Rattle.channel_run.proofs.Tables.OneEntry.{by_counts, by_name}

abbrev pub operations_shown : {T : Type 0} → List (ℕ × Started T) → List (ℕ × Operation T)
operations_shown operations = map (λ entry. (entry.0, operation_shown entry.1)) operations

module _ {T : Type 0} (op : ℕ) (operations operations' : List (ℕ × Started T)) where
  pub shown-here : (now : Option (Started T)) → Changed op operations operations' now
      → operation_in (operations_shown operations') op ≡ option_map operation_shown now
  shown-here now change = operation_in-entry_at operations' op
      ∙ ap (λ (found : Option (Started T)). option_map operation_shown found) change.here

  pub shown-elsewhere : (now : Option (Started T)) → Changed op operations operations' now
      → (name : ℕ)
      → (op == name) ≡ false → operation_in (operations_shown operations') name
      ≡ operation_in (operations_shown operations) name
  shown-elsewhere now change name apart =
      operation_in-entry_at operations' name ∙ ap (λ (found : Option (Started T)). option_map operation_shown found)
      (change.elsewhere name apart) ∙ sym (operation_in-entry_at operations name)

  lengths : length operations' ≡ length operations
      → length (operations_shown operations') ≡ length (operations_shown operations)
  lengths same = length-map operations' _ ∙ same ∙ sym (length-map operations _)

  pub operations-inserted : (operation : Started T)
      → Changed op operations operations' (Some operation)
      → is_some (entry_at operations op) ≡ false → length operations' ≡ length operations + 1
      → AreSameOperations (operations_shown operations')
      (operations_shown operations ++ (op, operation_shown operation) ∷ [])
  operations-inserted operation change fresh more =
      AreSameOperations-inserted (operations_shown operations) (operations_shown operations') op
      (operation_shown operation)
      (by_counts (length (operations_shown operations')) (length operations') (length (operations_shown operations))
      (length operations) (length-map operations' _) (length-map operations _) more)
      (is_some-shown operations op ∙ fresh)
      (shown-here (Some operation) change)
      (shown-elsewhere (Some operation) change)

  -- an entry that shows the same, but for its ticket
  pub operations-same : (was now : Started T) → entry_at operations op ≡ Some was
      → Changed op operations operations' (Some now) → operation_shown now ≡ operation_shown was
      → length operations' ≡ length operations
      → AreSameOperations (operations_shown operations') (operations_shown operations)
  operations-same was now before change shows same = record {
    count = lengths same;
    each = λ name. by_name op name (λ n. operation_in (operations_shown operations') n
        ≡ operation_in (operations_shown operations) n)
        (shown-here (Some now) change ∙ ap (λ (o : Operation T). Some o) shows
        ∙ sym (operation_in-entry_at operations op
        ∙ ap (λ (found : Option (Started T)). option_map operation_shown found) before))
        (shown-elsewhere (Some now) change name);
  }

  -- a send that has finished
  pub operations-finished : (was now : Started T) → entry_at operations op ≡ Some was
      → Changed op operations operations' (Some now) → operation_shown now ≡ finished (operation_shown was)
      → length operations' ≡ length operations
      → AreSameOperations (operations_shown operations') (with_finished op (operations_shown operations))
  operations-finished was now before change shows same =
      AreSameOperations-changed (operations_shown operations) (operations_shown operations') op (lengths same)
      (shown-here (Some now) change ∙ ap (λ (o : Operation T). Some o) shows
      ∙ sym (ap (λ (found : Option (Operation T)). option_map finished found)
      (operation_in-entry_at operations op ∙ ap
      (λ (found : Option (Started T)). option_map operation_shown found) before)))
      (shown-elsewhere (Some now) change)
