use Rattle.channel_run.proofs.Settling.PastOfPolls.{polled_first}
use Rattle.channel_run.proofs.run.Run.poll_first_told.Goals as goal

pub returns : goal.returns
returns g c = λ kind past stands.
    let first = rw c.in_ok-who.was at c.first_told.ensures in
    polled_first kind past c.args.self.now c.poll_told-reply.new.self c.in_ok-who.who c.poll_told-reply.result stands
    first c.poll_told-reply.ensures.polled
