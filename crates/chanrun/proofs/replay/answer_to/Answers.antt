use Rattle.chanrun.proofs.SettlingPolls.{settled_after, text-Settles}
use Rattle.chanrun.proofs.replay.answer_to.Goals as goal

pub returns-in_ok-settle-in-Settle : goal.returns-in_ok-settle-in-Settle
returns-in_ok-settle-in-Settle c = λ kind past stands.
    let to = c.in_ok-settle-in-Settle.ensures.settled kind past stands in
    rw c.in-Settle.is (text-Settles kind past to.polls _ _ stands.legal to.settles, settled_after kind past _ _ _ stands.legal to)
