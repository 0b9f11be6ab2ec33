use Rattle.std.proofs.Common.{rules}
use Rattle.chanrun.proofs.Traced.{nobody_new}
use Rattle.chanrun.proofs.trace.add_new.Goals as goal

pub returns-else-not-is_among : goal.returns-else-not-is_among
returns-else-not-is_among c =
    nobody_new c.args.names.now.items c.args.who c.in-Some.who c.in-Some.is (search rules)
