-- The past after a row's lines can come about.
use Rattle.std.proofs.Common.{◌≡◌, ℕ, inl, List, [], ◌∷◌, ◌++◌, Bool, ◌<◌, refl, true}
use Rattle.std.specs.Prelude.{nat_lt}
use Rattle.std.proofs.lemmas.Bool.{ltb-true}
use Rattle.channel_model.specs.declared.step.Kind.{Kind}
use Rattle.channel_model.specs.declared.step.Kind.TheVariants.{Bounded, Unbounded}
use Rattle.channel_model.specs.declared.step.Step.{Step}
use Rattle.channel_model.specs.Past.{Past}
use Rattle.channel_model.specs.Capacity.{HasPositiveCapacity}
use Rattle.channel_model.specs.Answers.{IsAnswer, answer_of, past_made}
use Rattle.channel_model.specs.Legal.{IsLegal}
use Rattle.channel_model.specs.Polling.{settling_polls}
use Rattle.channel_model.proofs.LegalAnswers.{IsLegal-IsAnswer}
use Rattle.channel_model.proofs.Settling.{IsComplete-IsLegal}
use Rattle.channel_model.proofs.Script.{Line, does, notes, settles, wants, able, past_after_lines, Row, EndsLegal}

-- what a line answers is an answer
pub answer-IsAnswer : (kind : Kind) (past : Past ℕ) (step : Step ℕ) → IsAnswer kind past step (answer_of kind past step)
answer-IsAnswer kind past step = inl refl

pub IsLegal-past_after_lines : (kind : Kind) (past : Past ℕ) (lines : List Line) → IsLegal kind past
    → IsLegal kind (past_after_lines kind past lines)
IsLegal-past_after_lines kind past [] legal = legal
IsLegal-past_after_lines kind past (does step expected ∷ lines) legal =
    IsLegal-past_after_lines kind (past_made kind past step) lines
    (IsLegal-IsAnswer kind past step (answer_of kind past step) legal (answer-IsAnswer kind past step))
IsLegal-past_after_lines kind past (notes who expected ∷ lines) legal = IsLegal-past_after_lines kind past lines legal
IsLegal-past_after_lines kind past (settles expected finished ∷ lines) legal =
    IsLegal-past_after_lines kind (settling_polls kind past ++ past) lines (IsComplete-IsLegal kind past legal).legal
IsLegal-past_after_lines kind past (wants step expected ∷ lines) legal = IsLegal-past_after_lines kind past lines legal
IsLegal-past_after_lines kind past (able who expected ∷ lines) legal = IsLegal-past_after_lines kind past lines legal

-- the capacity is positive, by a test that computes
abbrev pub is_positive : Kind → Bool
is_positive (Bounded capacity) = nat_lt 0 capacity
is_positive Unbounded = true

HasPositiveCapacity-is_positive : (kind : Kind) → is_positive kind ≡ true → HasPositiveCapacity kind
HasPositiveCapacity-is_positive (Bounded capacity) positive most e =
    let some : 0 < capacity = ltb-true 0 capacity positive in
    let same : capacity ≡ most = cc in
    rw (← same) some
HasPositiveCapacity-is_positive Unbounded positive most e = cc

pub legal : (row : Row) → is_positive row.kind ≡ true → EndsLegal row
legal row positive = IsLegal-past_after_lines row.kind [] row.lines (HasPositiveCapacity-is_positive row.kind positive)
