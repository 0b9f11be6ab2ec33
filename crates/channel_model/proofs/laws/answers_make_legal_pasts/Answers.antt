use Rattle.channel_model.proofs.LegalAnswers.{IsLegal-AreAnswers}
use Rattle.channel_model.proofs.laws.answers_make_legal_pasts.Goals as goal

pub returns : goal.returns
returns g c = λ kind past after steps replies legal answers. IsLegal-AreAnswers kind past steps replies after legal
    answers
