-- What the lines of a script are as values.
use Rattle.std.specs.Prelude.{◌≡◌, List, ℕ, [], ◌∷◌, map, None, Some, Option, Result, Ok, Err}
use Rattle.channel_model.specs.declared.step.Kind.{Kind}
use Rattle.chanrun.specs.Grammar.{command_of, kind_of, lines_of}
use Rattle.chanrun.specs.declared.grammar.command.Command.{Command}
use Rattle.chanrun.specs.Script.{fault_of_lines, script_fault, script_text, text_of_lines, texts_after}
use Rattle.chanrun.specs.declared.grammar.fault.Fault.{Fault}
use Rattle.chanrun.specs.declared.parse.lines.Lines.{Lines}
use Rattle.chanrun.specs.declared.parse.lines.Script.{Script}

-- The channel of a script, the line that makes it, and each other line with its command, up to the
-- first faulty one.
pub record Said : Type 0 where
  pub kind : Kind
  pub first : List ℕ
  pub lines : List (List ℕ × Command)

abbrev pub line_before : List ℕ → Result Command Fault → List (List ℕ × Command)
    → List (List ℕ × Command)
line_before line (Ok command) others = (line, command) ∷ others
line_before line (Err fault) others = []

-- lines with their commands, up to the first faulty one
abbrev pub lines_said : List (List ℕ) → List (List ℕ × Command)
lines_said [] = []
lines_said (line ∷ lines) = line_before line (command_of line) (lines_said lines)

abbrev pub said_by : (first : List ℕ) → Result Kind Fault → List (List ℕ) → Option Said
said_by first (Ok kind) lines =
    Some (record { kind = kind; first = first; lines = lines_said lines })
said_by first (Err fault) lines = None

abbrev pub said_in_lines : List (List ℕ) → Option Said
said_in_lines [] = None
said_in_lines (first ∷ lines) = said_by first (kind_of first) lines

-- What these bytes say, if their first line makes a channel.
abbrev pub said_in : List ℕ → Option Said
said_in input = said_in_lines (lines_of input)

-- These are the lines of the input, and the first one makes this channel; or it has this fault.
abbrev pub IsCut : List ℕ → Result Lines Fault → Type 0
IsCut input (Ok cut) =
    (lines_of input ≡ cut.first.now ∷ map (λ text. text.now) cut.others.items)
    × (kind_of cut.first.now ≡ Ok cut.kind)
IsCut input (Err fault) =
    (script_fault input ≡ Some (1, fault)) × (script_text input ≡ []) × (said_in input ≡ None)

-- The script has the lines, the commands and the fault of the input; or its first line has this
-- fault.
abbrev pub IsParsed : List ℕ → Result Script Fault → Type 0
IsParsed input (Ok script) =
    (script_fault input ≡ script.fault)
    × (script_text input ≡ texts_after script.kind [] (map (λ line. line.command) script.lines.items))
    × (said_in input ≡ Some (record {
      kind = script.kind;
      first = script.first.now;
      lines = map (λ line. (line.text.now, line.command)) script.lines.items;
    }))
IsParsed input (Err fault) =
    (script_fault input ≡ Some (1, fault)) × (script_text input ≡ []) × (said_in input ≡ None)
