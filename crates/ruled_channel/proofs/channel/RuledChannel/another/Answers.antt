use Rattle.ruled_mutex.specs.Passes.{key_of as key_of_mutex}
use Rattle.ruled_channel.specs.Passes.{key_of}
use Rattle.ruled_channel.proofs.InMutex.{forks_in_mutex}
use Rattle.ruled_channel.proofs.channel.RuledChannel.another.Goals as goal

pub another-lock-requires-clause-rule : goal.another-lock-requires-clause-rule
another-lock-requires-clause-rule g c = forks_in_mutex (key_of_mutex c.args.self.now.mutex).capacity (g.P.Protocol.holds (key_of c.args.self.now)) _ _ _ _ c.requires.rule
