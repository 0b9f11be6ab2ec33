use Rattle.std.proofs.Common.{rules}
use Rattle.ruled_mutex.specs.Passes.{found}
use Rattle.ruled_mutex.proofs.Keeps.{tells}
use Rattle.ruled_mutex.proofs.mutex.RuledMutex.learn_as.Goals as goal

pub load-requires : goal.load-requires
load-requires g c = (search rules, search rules, tells _ g.L.Lesson.fact _ _ _ (found c.args.held.now) c.requires.own.1 c.requires.rule)
