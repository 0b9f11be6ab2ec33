use Rattle.channel_model.specs.declared.step.Who.TheVariants.{Op, Receiver}
use Rattle.channel_run.proofs.Settling.FewerWait.{lowers-PollsTo, told_receiver}
use Rattle.channel_run.proofs.Tables.Kept.{kept_of}
use Rattle.channel_run.proofs.run.Run.poll_told.Goals as goal

pub poll_stream-requires : goal.poll_stream-requires
poll_stream-requires g c =
    let run = c.self.inside in
    let first = rw (← c.self.view_is, c.in-Receiver.is) at c.requires in
    rw (← c.self.view_is) (told_receiver (kept_of run) c.self.invariant.0 c.in-Receiver.receiver first)

pub returns-in-Op-clause-left : goal.returns-in-Op-clause-left
returns-in-Op-clause-left g c =
    let run = c.self.inside in
    let first = rw (← c.self.view_is, c.in-Op.is) at c.requires in
    let polled = rw (← c.self.view_is) at c.poll.ensures in
    rw (← c.self.view_is)
    (lowers-PollsTo (kept_of run) c.self.invariant.0 (Op c.in-Op.op) c.poll.result c.poll.new.self first polled)

pub returns-in-Receiver-clause-left : goal.returns-in-Receiver-clause-left
returns-in-Receiver-clause-left g c =
    let run = c.self.inside in
    let first = rw (← c.self.view_is, c.in-Receiver.is) at c.requires in
    let polled = rw (← c.self.view_is) at c.poll_stream.ensures in
    rw (← c.self.view_is)
    (lowers-PollsTo (kept_of run) c.self.invariant.0 (Receiver c.in-Receiver.receiver) c.poll_stream.result
    c.poll_stream.new.self first polled)
