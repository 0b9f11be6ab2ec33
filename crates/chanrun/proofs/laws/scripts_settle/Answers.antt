use Rattle.std.proofs.Common.{[]}
use Rattle.chanrun.proofs.LegalScripts.{legal-after_all, settled}
use Rattle.chanrun.proofs.laws.scripts_settle.Goals as goal

pub returns-clause-legal : goal.returns-clause-legal
returns-clause-legal c =
    λ kind commands positive. legal-after_all c.answers_make_legal_pasts.ensures c.any_order.ensures c.can_be_settled.ensures kind [] commands positive

pub returns-clause-settled : goal.returns-clause-settled
returns-clause-settled c = λ kind past legal. settled c.can_be_settled.ensures kind past legal
