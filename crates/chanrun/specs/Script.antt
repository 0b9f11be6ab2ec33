-- What is written for a script: the replies that the model decides, line by line, up to the first
-- faulty one.
use Rattle.std.specs.Prelude.{ℕ, ◌+◌, List, [], ◌∷◌, ◌++◌, length, flat_map, codes, Option, None, Some, Result, Ok, Err}
use Rattle.std.specs.Fmt.{decimal}
use Rattle.channel_model.specs.declared.step.Kind.{Kind}
use Rattle.channel_model.specs.declared.step.Reply.{Reply}
use Rattle.channel_model.specs.declared.step.Who.{Who}
use Rattle.channel_model.specs.Past.{Past}
use Rattle.channel_model.specs.Answers.{answer_of, past_made}
use Rattle.channel_model.specs.Notices.{notice_of}
use Rattle.channel_model.specs.Polling.{finished_polls, settling_polls}
use Rattle.chanrun.specs.declared.grammar.command.Command.{Command}
use Rattle.chanrun.specs.declared.grammar.command.Command.TheVariants.{Make, Notice, Settle}
use Rattle.chanrun.specs.declared.grammar.fault.Fault.{Fault}
use Rattle.chanrun.specs.declared.grammar.fault.Fault.TheVariants.{ChannelMissing}
use Rattle.chanrun.specs.Grammar.{command_of, kind_of, lines_of}
use Rattle.chanrun.specs.Texts.{notice_text, reply_text, who_text}

-- ---- texts

-- a text as a line
abbrev pub as_line : List ℕ → List ℕ
as_line text = text ++ 10 ∷ []

-- a line for a poll that was ready: whose it was, and its reply
abbrev pub finished_line : Who × Reply ℕ → List ℕ
finished_line (who, reply) = who_text who ++ (codes " " ++ as_line (reply_text reply))

-- the line that says how many polls were made, and how many of them were ready
abbrev pub settled_line : (polls finished : ℕ) → List ℕ
settled_line polls finished =
    codes "settled " ++ (decimal polls ++ (codes " " ++ as_line (decimal finished)))

-- this line, and a line for each poll that was ready
abbrev pub settled_text : (polls : ℕ) (finished : List (Who × Reply ℕ)) → List ℕ
settled_text polls finished =
    settled_line polls (length finished) ++ flat_map finished_line finished

-- the text that a command is answered by, after this past
abbrev pub command_text : Kind → Past ℕ → Command → List ℕ
command_text kind past (Make step) = as_line (reply_text (answer_of kind past step))
command_text kind past (Notice who) = as_line (notice_text (notice_of past who))
command_text kind past Settle =
    settled_text (length (settling_polls kind past)) (finished_polls (settling_polls kind past))

-- the past after a command
abbrev pub past_after_command : Kind → Past ℕ → Command → Past ℕ
past_after_command kind past (Make step) = past_made kind past step
past_after_command kind past (Notice who) = past
past_after_command kind past Settle = settling_polls kind past ++ past

-- the past after commands, in order
abbrev pub past_after_all : Kind → Past ℕ → List Command → Past ℕ
past_after_all kind past [] = past
past_after_all kind past (command ∷ commands) =
    past_after_all kind (past_after_command kind past command) commands

-- the texts that commands are answered by, in order, after this past
abbrev pub texts_after : Kind → Past ℕ → List Command → List ℕ
texts_after kind past [] = []
texts_after kind past (command ∷ commands) =
    command_text kind past command
    ++ texts_after kind (past_after_command kind past command) commands

-- ---- scripts

abbrev pub command_before : Result Command Fault → List Command → List Command
command_before (Ok command) others = command ∷ others
command_before (Err fault) others = []

-- the commands of lines, up to the first faulty one
abbrev pub commands_of : List (List ℕ) → List Command
commands_of [] = []
commands_of (line ∷ lines) = command_before (command_of line) (commands_of lines)

abbrev pub fault_before : ℕ → Result Command Fault → Option (ℕ × Fault) → Option (ℕ × Fault)
fault_before number (Ok command) others = others
fault_before number (Err fault) others = Some (number, fault)

-- the number and the fault of the first faulty line, if the first of these lines has this number
abbrev pub fault_from : ℕ → List (List ℕ) → Option (ℕ × Fault)
fault_from number [] = None
fault_from number (line ∷ lines) =
    fault_before number (command_of line) (fault_from (number + 1) lines)

abbrev pub text_by : Result Kind Fault → List (List ℕ) → List ℕ
text_by (Ok kind) lines = texts_after kind [] (commands_of lines)
text_by (Err fault) lines = []

abbrev pub fault_by : Result Kind Fault → List (List ℕ) → Option (ℕ × Fault)
fault_by (Ok kind) lines = fault_from 2 lines
fault_by (Err fault) lines = Some (1, fault)

-- what is written for lines, the first of which asks for a channel
abbrev pub text_of_lines : List (List ℕ) → List ℕ
text_of_lines [] = []
text_of_lines (first ∷ lines) = text_by (kind_of first) lines

-- the number and the fault of the first faulty line; if there is no line the channel is missing
abbrev pub fault_of_lines : List (List ℕ) → Option (ℕ × Fault)
fault_of_lines [] = Some (1, ChannelMissing)
fault_of_lines (first ∷ lines) = fault_by (kind_of first) lines

-- What is written for these bytes.
abbrev pub script_text : List ℕ → List ℕ
script_text bytes = text_of_lines (lines_of bytes)

-- Their first faulty line and its fault, if there is one.
abbrev pub script_fault : List ℕ → Option (ℕ × Fault)
script_fault bytes = fault_of_lines (lines_of bytes)
