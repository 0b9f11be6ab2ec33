-- What an operation that is started or given up leaves of a view.
use Rattle.std.proofs.Common.{◌≡◌, ℕ, [], ◌∷◌, ◌++◌, false, Some, refl}
use Rattle.channel_model.specs.declared.step.Step.TheVariants.{StartSend, StartRecv, StartClosed, DropOp}
use Rattle.channel_model.specs.declared.step.Reply.TheVariants.{Done}
use Rattle.channel_model.specs.Operations.{awaiting_close, receiving, sending, without_operation}
use Rattle.channel_model.specs.Rosters.{hand_on, leave}
use Rattle.channel_model.specs.View.{View}
use Rattle.channel_run.specs.RunSteps.{IsMade}
use Rattle.channel_model.specs.Refusals.{is_operation}
use Rattle.channel_run.proofs.Alike.SameOperations.{AreSameOperations-refl, AreSameOperations-added}
use Rattle.channel_run.proofs.Alike.SameViews.{AreAlike-refl, alike-operations}
use Rattle.channel_run.proofs.Outcomes.Tellings.{is_made}

pub made-start_send : {T : Type 0} (run : View T) (op sender : ℕ) (message : T)
    → is_operation run op ≡ false → IsMade run (StartSend op sender message) Done
    (record run { operations = run.operations ++ (op, sending sender (Some message)) ∷ [] })
made-start_send run op sender message fresh = is_made run (StartSend op sender message) Done
    (record run { operations = run.operations ++ (op, sending sender (Some message)) ∷ [] }) refl
    (alike-operations run (run.operations ++ (op, sending sender (Some message)) ∷ [])
    ((op, sending sender (Some message)) ∷ run.operations)
    (AreSameOperations-added run.operations run.operations op (sending sender (Some message)) fresh
    (AreSameOperations-refl run.operations)))

pub made-start_recv : {T : Type 0} (run : View T) (op receiver : ℕ)
    → is_operation run op ≡ false → IsMade run (StartRecv op receiver) Done
    (record run { operations = run.operations ++ (op, receiving receiver) ∷ [] })
made-start_recv run op receiver fresh = is_made run (StartRecv op receiver) Done
    (record run { operations = run.operations ++ (op, receiving receiver) ∷ [] }) refl
    (alike-operations run (run.operations ++ (op, receiving receiver) ∷ []) ((op, receiving receiver) ∷ run.operations)
    (AreSameOperations-added run.operations run.operations op (receiving receiver) fresh
    (AreSameOperations-refl run.operations)))

pub made-start_closed : {T : Type 0} (run : View T) (op sender : ℕ)
    → is_operation run op ≡ false → IsMade run (StartClosed op sender) Done
    (record run { operations = run.operations ++ (op, awaiting_close sender) ∷ [] })
made-start_closed run op sender fresh = is_made run (StartClosed op sender) Done
    (record run { operations = run.operations ++ (op, awaiting_close sender) ∷ [] }) refl
    (alike-operations run (run.operations ++ (op, awaiting_close sender) ∷ [])
    ((op, awaiting_close sender) ∷ run.operations)
    (AreSameOperations-added run.operations run.operations op (awaiting_close sender) fresh
    (AreSameOperations-refl run.operations)))

pub made-drop_op : {T : Type 0} (run : View T) (op : ℕ)
    → IsMade run (DropOp op) Done (record run {
      operations = without_operation op run.operations;
      rosters = record run.rosters {
        sends = hand_on op run.rosters.sends;
        receives = hand_on op run.rosters.receives;
        closeds = leave op run.rosters.closeds;
      };
    })
made-drop_op run op = is_made run (DropOp op) Done
    (record run {
      operations = without_operation op run.operations;
      rosters = record run.rosters {
        sends = hand_on op run.rosters.sends;
        receives = hand_on op run.rosters.receives;
        closeds = leave op run.rosters.closeds;
      };
    }) refl
    (AreAlike-refl (record run {
      operations = without_operation op run.operations;
      rosters = record run.rosters {
        sends = hand_on op run.rosters.sends;
        receives = hand_on op run.rosters.receives;
        closeds = leave op run.rosters.closeds;
      };
    }))
