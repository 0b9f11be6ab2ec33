use Rattle.ruled_channel.specs.Passes.{key_of}
use Rattle.ruled_channel.proofs.Same.{receives_same}
use Rattle.ruled_channel.proofs.channel.RuledChannel.recv_blocking_as.Goals as goal

pub try_recv_as-requires-clause-rule : goal.try_recv_as-requires-clause-rule
try_recv_as-requires-clause-rule g c = let same = c.loop-look.invariant in
    receives_same (g.P.Protocol.holds (key_of c.args.self.now)) _ _ _ _ same.1.1 same.2 g.M.Received.then c.requires.rule

pub recv_or_wait_as-polled-requires-clause-rule : goal.recv_or_wait_as-polled-requires-clause-rule
recv_or_wait_as-polled-requires-clause-rule g c = let same = c.loop-turn.invariant in
    receives_same (g.P.Protocol.holds (key_of c.args.self.now)) _ _ _ _ same.1.1 same.2 g.M.Received.then c.requires.rule
