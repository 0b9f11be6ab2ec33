use Rattle.std.proofs.Common.{rules}
use Rattle.ruled_channel_rules.proofs.Received.{may_poll, tells}
use Rattle.ruled_channel_rules.proofs.receiving.RecvFuture.poll.Goals as goal

pub returns-in-Ready-clause-value : goal.returns-in-Ready-clause-value
returns-in-Ready-clause-value g c = tells c.args.self.now.channel.now c.args.self.now.receiver.value c.in-Some.inner.channel.now c.in-Some.inner.pass c.in-Ready.pass c.in-Ready.got (search rules) c.in-Ready.ensures.value

pub poll-requires : goal.poll-requires
poll-requires g c = may_poll c.args.self.now.channel.now c.args.self.now.receiver.value c.in-Some.inner.channel.now c.in-Some.inner.pass (search rules)
