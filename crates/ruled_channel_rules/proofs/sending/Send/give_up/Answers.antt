use Rattle.std.proofs.Common.{rules}
use Rattle.ruled_channel_rules.proofs.GivenUp.{send_back}
use Rattle.ruled_channel_rules.proofs.sending.Send.give_up.Goals as goal

pub returns-clause-own : goal.returns-clause-own
returns-clause-own g c = (send_back c.args.self.now.channel.now c.args.self.now.sender.value c.args.self.now.message.value c.in-Some.inner.channel.now c.in-Some.inner.parts c.in-Some-into_parts.pass c.in-Some-into_parts.message (search rules) c.in-Some-into_parts.ensures.back).0

pub returns-clause-same : goal.returns-clause-same
returns-clause-same g c = (send_back c.args.self.now.channel.now c.args.self.now.sender.value c.args.self.now.message.value c.in-Some.inner.channel.now c.in-Some.inner.parts c.in-Some-into_parts.pass c.in-Some-into_parts.message (search rules) c.in-Some-into_parts.ensures.back).1

pub returns-clause-message : goal.returns-clause-message
returns-clause-message g c = (send_back c.args.self.now.channel.now c.args.self.now.sender.value c.args.self.now.message.value c.in-Some.inner.channel.now c.in-Some.inner.parts c.in-Some-into_parts.pass c.in-Some-into_parts.message (search rules) c.in-Some-into_parts.ensures.back).2
