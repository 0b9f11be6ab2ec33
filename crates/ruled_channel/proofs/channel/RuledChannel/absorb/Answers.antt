use Rattle.ruled_mutex.specs.Passes.{key_of as key_of_mutex}
use Rattle.ruled_channel.specs.Passes.{key_of}
use Rattle.ruled_channel.proofs.InMutex.{merges_in_mutex}
use Rattle.ruled_channel.proofs.channel.RuledChannel.absorb.Goals as goal

pub absorb-requires-clause-rule : goal.absorb-requires-clause-rule
absorb-requires-clause-rule g c = rw c.into_lock-other.ensures (merges_in_mutex (key_of_mutex c.args.self.now.mutex).capacity (g.P.Protocol.holds (key_of c.args.self.now)) _ _ _ _ _ _ c.requires.rule)
