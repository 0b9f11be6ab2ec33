use Rattle.channel_core.proofs.Forced.{IsCovered-forced}
use Rattle.channel_core.proofs.state.Core.force_send.Goals as goal

pub invariant_of-self-2 : goal.invariant_of-self-2
invariant_of-self-2 g c =
    let i = c.self.inside in
    let pushed = c.in_ok-displaced.ensures in
    rw c.tell_accepted.ensures.after (IsCovered-forced (record {
      capacity = i.queue.capacity;
      messages = i.queue.messages;
      closed = i.closed;
      senders = i.senders;
      receivers = i.receivers;
      sends = i.lists.sends;
      receives = i.lists.receives;
      streams = i.lists.streams;
      closeds = i.lists.closeds;
    }) c.args.m c.force_push.new.self c.self.invariant c.if-self.false pushed.after pushed.within)
