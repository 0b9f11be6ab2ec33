-- What each stage of a script leaves: reading, and then answering.
use Rattle.std.specs.Prelude.{◌≡◌, ℕ, ◌+◌, List, length, None, Some, Option, Result, Ok, Err}
use Rattle.std.specs.Io.KnownBytes.{Consumes, Appends}
use Rattle.chanrun.specs.Device.{one_more, AppendsFront}
use Rattle.chanrun.specs.declared.script.TheConstants.{SCRIPT_LIMIT}
use Rattle.chanrun.specs.declared.grammar.fault.Fault.{Fault}
use Rattle.chanrun.specs.declared.script.ScriptError.{ScriptError}
use Rattle.chanrun.specs.declared.script.ScriptError.TheVariants.{Fault as FaultAt, Read, Write, OutOfMemory, TooLong}

-- what a script that isn't read whole leaves: the reader's count of failures was old, and is new
abbrev pub IsUnread : ScriptError → (left left' : Option (List ℕ)) (old new : ℕ) → Type 0
IsUnread Read left left' old new = new ≡ one_more old
IsUnread TooLong left left' old new =
    (input : List ℕ) × Consumes left left' input × (length input ≡ SCRIPT_LIMIT + 1)
IsUnread OutOfMemory left left' old new = (input : List ℕ) × Consumes left left' input
IsUnread (FaultAt line fault) left left' old new = ⊥
IsUnread Write left left' old new = ⊥

-- what answering leaves, if this text is due, and this fault: the writer's count of failures was
-- old, and is new
abbrev pub IsAnswered : Option (ℕ × Fault) → List ℕ → Result Unit ScriptError
    → (written written' : Option (List ℕ)) (old new : ℕ) → Type 0
IsAnswered fault text (Ok done) written written' old new =
    (fault ≡ None) × Appends written written' text × (new ≡ old)
IsAnswered fault text (Err (FaultAt line what)) written written' old new =
    (fault ≡ Some (line, what)) × Appends written written' text × (new ≡ old)
IsAnswered fault text (Err Write) written written' old new =
    AppendsFront written written' text × (new ≡ one_more old)
IsAnswered fault text (Err OutOfMemory) written written' old new =
    AppendsFront written written' text
IsAnswered fault text (Err Read) written written' old new = ⊥
IsAnswered fault text (Err TooLong) written written' old new = ⊥
