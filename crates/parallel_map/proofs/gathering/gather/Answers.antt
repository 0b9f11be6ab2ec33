use Rattle.parallel_map.proofs.Faults.{comes_whole, comes_faulty}
use Rattle.parallel_map.proofs.gathering.gather.Goals as goal

pub returns-clause-answered : goal.returns-clause-answered
returns-clause-answered g c = comes_whole c.args.inputs.now c.args.pieces.items _
    c.gathered.ensures.fault

pub returns-clause-named : goal.returns-clause-named
returns-clause-named g c = λ error.
    comes_faulty c.args.inputs.now c.args.pieces.items _ error c.gathered.ensures.whole
    c.gathered.ensures.fault
