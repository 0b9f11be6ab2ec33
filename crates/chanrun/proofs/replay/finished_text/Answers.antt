use Rattle.std.proofs.Common.{◌∷◌, [], ◌++◌, append_assoc, ap, ◌∙◌}
use Rattle.std.proofs.lemmas.Result.{IfOk-weaker}
use Rattle.chanrun.specs.Texts.{reply_text, who_text}
use Rattle.chanrun.proofs.replay.finished_text.Goals as goal

pub returns : goal.returns
returns c =
    IfOk-weaker c.format.result _ _
    (λ text is. ap (λ bytes. bytes ++ 10 ∷ []) is ∙ append_assoc (who_text c.args.who) (32 ∷ reply_text c.args.reply) (10 ∷ []))
    c.format.ensures.ok
