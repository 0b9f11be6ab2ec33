use Rattle.std.proofs.Common.{◌∷◌, [], ◌++◌, codes, append_assoc, ap, ◌∙◌}
use Rattle.std.specs.Fmt.{decimal}
use Rattle.std.proofs.lemmas.Result.{IfOk-weaker}
use Rattle.chanrun.proofs.replay.settled_text.Goals as goal

pub returns : goal.returns
returns c =
    IfOk-weaker c.format.result _ _
    (λ text is.
    ap (λ bytes. bytes ++ 10 ∷ []) is
    ∙ ap (λ rest. codes "settled " ++ rest) (append_assoc (decimal c.args.polls) (32 ∷ decimal c.args.finished) (10 ∷ [])))
    c.format.ensures.ok
