use Rattle.std.proofs.Common.{rules}
use Rattle.ruled_channel_rules.specs.Sending.{MaySend}
use Rattle.ruled_channel_rules.proofs.sending.SendFuture.poll.Goals as goal

pub returns-in-Ready-clause-value : goal.returns-in-Ready-clause-value
returns-in-Ready-clause-value g c =
    let may : MaySend c.args.self.now.channel.now c.args.self.now.sender.value c.args.self.now.message.value c.in-Some.inner.channel.now c.in-Some.inner.parts = search rules in
    may.1 (c.in-Ready.pass, c.in-Ready.sent) c.in-Ready.ensures.value

pub returns-in-Pending-clause-again : goal.returns-in-Pending-clause-again
returns-in-Pending-clause-again g c =
    let may : MaySend c.args.self.now.channel.now c.args.self.now.sender.value c.args.self.now.message.value c.in-Some.inner.channel.now c.in-Some.inner.parts = search rules in
    (c.in-Pending.ensures.again, λ x gives. may.1 x (c.in-Pending.ensures.same x gives))
