use Rattle.ruled_mutex.specs.Passes.{key_of as key_of_mutex}
use Rattle.ruled_channel.proofs.InMutex.{admits}
use Rattle.ruled_channel.proofs.channel.RuledChannel+T+unit+Unruled.pass.Goals as goal

pub pass-requires : goal.pass-requires
pass-requires g c = admits (key_of_mutex c.args.self.now.mutex).capacity (λ _ _. Unit {0}) tt (λ _ _ held. held)
