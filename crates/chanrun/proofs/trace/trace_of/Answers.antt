use Rattle.chanrun.proofs.Traced.{trace_said}
use Rattle.chanrun.proofs.trace.trace_of.Goals as goal

pub returns-in_ok-trace_by-in-Ok-clause-text : goal.returns-in_ok-trace_by-in-Ok-clause-text
returns-in_ok-trace_by-in-Ok-clause-text c =
    let parsed = rw c.in-Ok.is at c.in_ok-script.ensures in
    trace_said c.args.input.now c.in-Ok.script c.in_ok-trace_by-in-Ok.field-0.items parsed c.in_ok-trace_by-in-Ok.ensures
