-- Settling makes the polls that the model computes.
use Rattle.std.proofs.Common.{◌≡◌, ℕ, List, ◌++◌, length, refl, sym, subst}
use Rattle.channel_model.specs.declared.step.Kind.{Kind}
use Rattle.channel_model.specs.declared.step.Reply.{Reply}
use Rattle.channel_model.specs.declared.step.Who.{Who}
use Rattle.channel_model.specs.Past.{Past}
use Rattle.channel_model.specs.Polling.{Settles, finished_polls, settling_polls}
use Rattle.channel_model.specs.View.{View}
use Rattle.channel_run.specs.Runs.{SettlesTo}
use Rattle.channel_run.specs.StandsFor.{StandsFor}
use Rattle.channel_model.specs.Legal.{IsLegal}
use Rattle.channel_model.proofs.Settling.{settling_polls-Settles}
use Rattle.chanrun.specs.Script.{settled_text}

-- Their text is what settling is answered by
pub text-Settles : (kind : Kind) (past polls : Past ℕ) (count : ℕ) (finished : List (Who × Reply ℕ))
    → IsLegal kind past → Settles kind past polls count finished
    → settled_text count finished ≡ settled_text (length (settling_polls kind past)) (finished_polls (settling_polls kind past))
text-Settles kind past polls count finished legal settles =
    rw (settling_polls-Settles kind past polls count finished legal settles, settles.counted, settles.listed) refl

-- and the past after them is the one that the model decides
pub settled_after : (kind : Kind) (past : Past ℕ) (count : ℕ) (finished : List (Who × Reply ℕ)) (run : View ℕ)
    → IsLegal kind past → SettlesTo kind past count finished run
    → StandsFor kind (settling_polls kind past ++ past) run
settled_after kind past count finished run legal to =
    subst (λ (polls : Past ℕ). StandsFor kind (polls ++ past) run)
    (sym (settling_polls-Settles kind past to.polls count finished legal to.settles)) to.stands
