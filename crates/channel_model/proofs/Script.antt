-- Worked rows: lines with the answers that are expected, and what the definitions alone answer to them.
use Rattle.std.specs.Prelude.{◌≡◌, ℕ, List, [], ◌∷◌, ◌++◌, Bool, length}
use Rattle.channel_model.specs.declared.step.Kind.{Kind}
use Rattle.channel_model.specs.declared.step.Who.{Who}
use Rattle.channel_model.specs.declared.step.Notice.{Notice}
use Rattle.channel_model.specs.declared.step.Step.{Step}
use Rattle.channel_model.specs.declared.step.Reply.{Reply}
use Rattle.channel_model.specs.Past.{Past}
use Rattle.channel_model.specs.Notices.{notice_of}
use Rattle.channel_model.specs.Answers.{answer_of, past_made}
use Rattle.channel_model.specs.Memory.{may_want_memory}
use Rattle.channel_model.specs.Able.{is_able}
use Rattle.channel_model.specs.Legal.{IsLegal}
use Rattle.channel_model.specs.Polling.{finished_polls, settling_polls}

-- A line, and what is expected of it: a step and its reply, somebody and the notice, settling with the number of
-- its polls and those that were ready, a step and whether it may want memory, somebody and whether they wait and could
-- go on. Neither of the last two makes a step.
pub data Line : Type 0 where
  does : Step ℕ → Reply ℕ → Line
  notes : Who → Notice → Line
  settles : ℕ → List (Who × Reply ℕ) → Line
  wants : Step ℕ → Bool → Line
  able : Who → Bool → Line

-- The lines with what the definitions answer to them.
abbrev pub answered : Kind → Past ℕ → List Line → List Line
answered kind past [] = []
answered kind past (does step expected ∷ lines) =
    does step (answer_of kind past step) ∷ answered kind (past_made kind past step) lines
answered kind past (notes who expected ∷ lines) = notes who (notice_of past who) ∷ answered kind past lines
answered kind past (settles expected finished ∷ lines) =
    settles (length (settling_polls kind past)) (finished_polls (settling_polls kind past))
    ∷ answered kind (settling_polls kind past ++ past) lines
answered kind past (wants step expected ∷ lines) =
    wants step (may_want_memory kind past step) ∷ answered kind past lines
answered kind past (able who expected ∷ lines) = able who (is_able kind past who) ∷ answered kind past lines

-- the past after the lines
abbrev pub past_after_lines : Kind → Past ℕ → List Line → Past ℕ
past_after_lines kind past [] = past
past_after_lines kind past (does step expected ∷ lines) =
    past_after_lines kind (past_made kind past step) lines
past_after_lines kind past (notes who expected ∷ lines) = past_after_lines kind past lines
past_after_lines kind past (settles expected finished ∷ lines) = past_after_lines kind (settling_polls kind past ++ past) lines
past_after_lines kind past (wants step expected ∷ lines) = past_after_lines kind past lines
past_after_lines kind past (able who expected ∷ lines) = past_after_lines kind past lines

-- A row: the kind of the channel, and the lines.
pub record Row : Type 0 where
  pub kind : Kind
  pub lines : List Line

-- Each answer is the expected one.
abbrev pub IsRow : Row → Type 0
IsRow row = answered row.kind [] row.lines ≡ row.lines

-- The past after the lines is one that can come about.
abbrev pub EndsLegal : Row → Type 0
EndsLegal row = IsLegal row.kind (past_after_lines row.kind [] row.lines)
