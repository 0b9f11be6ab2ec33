-- The lines that are written for an answer.
use Rattle.std.specs.Prelude.{ℕ, List, String, flat_map, string_bytes}
use Rattle.chanrun.specs.Script.{as_line, settled_text}
use Rattle.chanrun.specs.Texts.{notice_text, reply_text}
use Rattle.chanrun.specs.declared.replay.Answer.{Answer}
use Rattle.chanrun.specs.declared.replay.Answered.{Answered}
use Rattle.chanrun.specs.declared.replay.Answer.TheVariants.{Noticed, Replied, Settled}

-- a text as a line
abbrev pub text_line : {A : Type 0} → String A → List ℕ
text_line text = as_line (string_bytes text)

abbrev pub answer_text : Answer → List ℕ
answer_text (Replied reply) = as_line (reply_text reply)
answer_text (Noticed notice) = as_line (notice_text notice)
answer_text (Settled settled) = settled_text settled.polls settled.finished.items

-- the lines that are written for lines that were answered, in order
abbrev pub answers_text : List Answered → List ℕ
answers_text answered = flat_map (λ one. answer_text one.answer) answered
