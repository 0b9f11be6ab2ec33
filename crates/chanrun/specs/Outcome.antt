-- What each end of a script says.
use Rattle.std.specs.Prelude.{◌≡◌, ℕ, ◌≤◌, Bool, true, List, ◌++◌, length, codes, None, Some, Option, Result, Ok, Err}
use Rattle.std.specs.Io.KnownBytes.{Consumes, IsAtEnd, Appends}
use Rattle.chanrun.specs.Device.{AppendsFront}
use Rattle.std.specs.Fmt.{decimal}
use Rattle.chanrun.specs.Texts.{fault_text}
use Rattle.chanrun.specs.Script.{script_text, script_fault}
use Rattle.chanrun.specs.declared.script.TheConstants.{SCRIPT_LIMIT}
use Rattle.chanrun.specs.declared.grammar.fault.Fault.{Fault}
use Rattle.chanrun.specs.declared.script.ScriptError.{ScriptError}
use Rattle.chanrun.specs.declared.script.ScriptError.TheVariants.{Fault as FaultAt, Read, Write, OutOfMemory, TooLong}

-- the line that says how a script ended, without its end
abbrev pub error_text : ScriptError → List ℕ
error_text (FaultAt line fault) = codes "line " ++ decimal line ++ codes ": " ++ fault_text fault
error_text Read = codes "reading failed"
error_text Write = codes "writing failed"
error_text OutOfMemory = codes "out of memory"
error_text TooLong = codes "input is too long"

-- the exit status for it
abbrev pub status_of : ScriptError → ℕ
status_of (FaultAt line fault) = 2
status_of Read = 1
status_of Write = 1
status_of OutOfMemory = 1
status_of TooLong = 1

-- a reader met its end, and these bytes are what it passed
pub record HasRead (left left' : Option (List ℕ)) (ended : Bool) (input : List ℕ) : Type 0 where
  pub bytes : Consumes left left' input
  pub at_end : IsAtEnd left'
  pub met : ended ≡ true
  pub within : length input ≤ SCRIPT_LIMIT

-- the fault with which a script ended that was done as far as it goes, or that it had none
abbrev pub ending : Result Unit ScriptError → Option (Option (ℕ × Fault))
ending (Ok done) = Some None
ending (Err (FaultAt line fault)) = Some (Some (line, fault))
ending (Err Read) = None
ending (Err Write) = None
ending (Err OutOfMemory) = None
ending (Err TooLong) = None

-- A script was read whole, and its text was written up to its first fault, if it has one.
pub record IsDone (left left' : Option (List ℕ)) (ended : Bool) (written written' : Option (List ℕ))
    (fault : Option (ℕ × Fault)) : Type 0 where
  pub input : List ℕ
  pub read : HasRead left left' ended input
  pub first : script_fault input ≡ fault
  pub text : Appends written written' (script_text input)

-- A script was read whole, and a beginning of its text was written.
pub record IsBegun (left left' : Option (List ℕ)) (ended : Bool)
    (written written' : Option (List ℕ)) : Type 0 where
  pub input : List ℕ
  pub read : HasRead left left' ended input
  pub text : AppendsFront written written' (script_text input)
