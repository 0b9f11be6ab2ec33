-- What is written for a trace of a script: each line with its reply, and what the channel shows then.
use Rattle.std.specs.Prelude.{◌≡◌, Bool, false, ◌==◌, ℕ, List, [], ◌∷◌, ◌++◌, length, map, flat_map, codes, if◌then◌else◌, Option, None, Some}
use Rattle.std.specs.Fmt.{decimal}
use Rattle.std.specs.Io.KnownBytes.{Appends}
use Rattle.std.specs.List.{list_any}
use Rattle.channel_model.specs.declared.step.Kind.{Kind}
use Rattle.channel_model.specs.declared.step.Notice.{Notice as Told}
use Rattle.channel_model.specs.declared.step.Notice.TheVariants.{Absent, Untold, Told as WasTold}
use Rattle.channel_model.specs.declared.step.Step.{Step}
use Rattle.channel_model.specs.declared.step.Step.TheVariants.{Poll, PollNext}
use Rattle.channel_model.specs.declared.step.Who.{Who}
use Rattle.channel_model.specs.declared.step.Who.TheVariants.{Op, Receiver}
use Rattle.channel_model.specs.Past.{Past}
use Rattle.channel_model.specs.Answers.{answer_of}
use Rattle.channel_model.specs.Messages.{held_messages}
use Rattle.channel_model.specs.Notices.{notice_of}
use Rattle.channel_model.specs.Polling.{finished_polls, settling_polls}
use Rattle.chanrun.specs.declared.grammar.command.Command.{Command}
use Rattle.chanrun.specs.declared.grammar.command.Command.TheVariants.{Make, Notice, Settle}
use Rattle.chanrun.specs.declared.grammar.fault.Fault.{Fault}
use Rattle.chanrun.specs.Outcome.{HasRead}
use Rattle.chanrun.specs.Parsed.{Said, said_in}
use Rattle.chanrun.specs.Script.{as_line, past_after_command, script_fault}
use Rattle.chanrun.specs.Texts.{notice_text, reply_text, who_text}

-- ---- who can wait

abbrev pub is_same : Who → Who → Bool
is_same (Op name) (Op other) = name == other
is_same (Receiver name) (Receiver other) = name == other
is_same who other = false

-- whom a command polls
abbrev pub polled : Command → Option Who
polled (Make (Poll op)) = Some (Op op)
polled (Make (PollNext receiver)) = Some (Receiver receiver)
polled command = None

-- somebody behind these, who isn't one of them
abbrev pub with_new : List Who → Option Who → List Who
with_new names None = names
with_new names (Some who) =
    if list_any (λ name. is_same name who) names then names else names ++ who ∷ []

-- These, and whoever is polled by commands, each once: nobody else may ever wait.
abbrev pub polled_by : List Who → List Command → List Who
polled_by names [] = names
polled_by names (command ∷ commands) = polled_by (with_new names (polled command)) commands

-- ---- a row

abbrev pub message_word : ℕ → List ℕ
message_word message = codes " " ++ decimal message

-- the name of who waits, and behind it a mark if they were told
abbrev pub waiting_word : Who → Told → List ℕ
waiting_word who Absent = []
waiting_word who Untold = codes " " ++ who_text who
waiting_word who WasTold = codes " " ++ who_text who ++ codes "!"

-- A line and its reply, and after it the messages held, and who of these waits.
abbrev pub row : (names : List Who) → (line reply : List ℕ) → Past ℕ → List ℕ
row names line reply past =
    line ++ codes " => " ++ reply
    ++ codes " | held" ++ flat_map message_word (held_messages past)
    ++ codes " | waiting" ++ flat_map (λ who. waiting_word who (notice_of past who)) names
    ++ codes "\n"

-- the line of a poll that settling makes
abbrev pub polled_line : Step ℕ → List ℕ
polled_line (Poll op) = codes "polled " ++ who_text (Op op)
polled_line (PollNext receiver) = codes "polled " ++ who_text (Receiver receiver)
polled_line step = []

-- a row for each of these polls, which were made after the past; the newest stands first
abbrev pub polls_rows : (names : List Who) → (polls past : Past ℕ) → List ℕ
polls_rows names [] past = []
polls_rows names ((step, reply) ∷ polls) past =
    polls_rows names polls past
    ++ row names (polled_line step) (reply_text reply) ((step, reply) ∷ (polls ++ past))

-- ---- a script

-- what settling says: how many polls it made, and how many of them were ready
abbrev pub settled_reply : (polls : Past ℕ) → List ℕ
settled_reply polls =
    codes "settled "
    ++ (decimal (length polls) ++ (codes " " ++ decimal (length (finished_polls polls))))

-- the reply in the row of a command
abbrev pub command_reply : Kind → Past ℕ → Command → List ℕ
command_reply kind past (Make step) = reply_text (answer_of kind past step)
command_reply kind past (Notice who) = notice_text (notice_of past who)
command_reply kind past Settle = settled_reply (settling_polls kind past)

-- the polls of a command
abbrev pub command_polls : Kind → Past ℕ → Command → Past ℕ
command_polls kind past Settle = settling_polls kind past
command_polls kind past command = []

-- The rows of a line: first those of the polls that it makes, then its own.
abbrev pub line_rows : (names : List Who) → Kind → Past ℕ → List ℕ × Command → List ℕ
line_rows names kind past (line, command) =
    polls_rows names (command_polls kind past command) past
    ++ row names line (command_reply kind past command) (past_after_command kind past command)

-- the rows of lines, in order, after this past
abbrev pub rows_after : (names : List Who) → Kind → Past ℕ → List (List ℕ × Command) → List ℕ
rows_after names kind past [] = []
rows_after names kind past (line ∷ lines) =
    line_rows names kind past line
    ++ rows_after names kind (past_after_command kind past line.1) lines

-- The line that makes the channel, and the rows of the others.
abbrev pub trace_by : Option Said → List ℕ
trace_by None = []
trace_by (Some said) =
    as_line said.first
    ++ rows_after (polled_by [] (map (λ line. line.1) said.lines)) said.kind [] said.lines

-- What is written for these bytes.
abbrev pub trace_text : List ℕ → List ℕ
trace_text input = trace_by (said_in input)

-- A script was read whole, and its trace was written up to its first fault, if it has one.
pub record IsTraced (left left' : Option (List ℕ)) (ended : Bool)
    (written written' : Option (List ℕ)) (fault : Option (ℕ × Fault)) : Type 0 where
  pub input : List ℕ
  pub read : HasRead left left' ended input
  pub first : script_fault input ≡ fault
  pub text : Appends written written' (trace_text input)
