use Rattle.ruled_mutex.specs.Passes.{found, key_of as key_of_mutex, made}
use Rattle.ruled_channel.specs.Passes.{key_of}
use Rattle.ruled_channel.proofs.InMutex.{turns_in_mutex}
use Rattle.ruled_channel.proofs.channel.RuledChannel.give_back.Goals as goal

pub unlock_as-requires-clause-rule : goal.unlock_as-requires-clause-rule
unlock_as-requires-clause-rule g c = rw c.value_mut.ensures.value (turns_in_mutex (key_of_mutex c.args.self.now.mutex).capacity (g.P.Protocol.holds (key_of c.args.self.now)) g.O.Outcome.then _ _ (found c.args.held) (made c.args.held c.args.pass.now.lock) c.requires.rule)
