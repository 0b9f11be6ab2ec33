use Rattle.std.proofs.Common.{sym, ◌∙◌}
use Rattle.ruled_channel.proofs.receiving.RecvAs.leave.Goals as goal

pub give_up-requires : goal.give_up-requires
give_up-requires g c = c.args.self.now.owns _ (sym c.take.ensures.value ∙ c.in-Some.is)
