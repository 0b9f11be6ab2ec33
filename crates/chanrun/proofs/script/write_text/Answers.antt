use Rattle.std.proofs.Common.{length, refl, ap, sym, ◌∙◌}
use Rattle.chanrun.specs.Device.{one_more}
use Rattle.std.proofs.lemmas.List.{take_rest}
use Rattle.chanrun.proofs.Known.{written_more, front_of, appends_kept, took_some, took_none}
use Rattle.chanrun.proofs.script.write_text.Goals as goal

pub loop-rest-preserved : goal.loop-rest-preserved
loop-rest-preserved g c =
    let i = c.loop-rest.invariant in
    let more = written_more _ _ _ c.args.text.now i.0 c.loop-rest.rest.now c.in-Ok.count i.1 i.2 c.in-Ok.ensures.bytes in
    (more.0, rw take_rest more.1, more.2, took_some c.in-Ok.count (length c.loop-rest.rest.now) _ _ c.if-count-gt0.true c.in-Ok.ensures.failures ∙ i.3)

pub returns-in_default-clause-err : goal.returns-in_default-clause-err
returns-in_default-clause-err g c =
    let i = c.loop-rest.invariant in
    let more = written_more _ _ _ c.args.text.now i.0 c.loop-rest.rest.now c.in-Ok.count i.1 i.2 c.in-Ok.ensures.bytes in (
      refl,
      front_of _ _ c.args.text.now more.0 _ more.1 more.2,
      took_none c.in-Ok.count (length c.loop-rest.rest.now) _ _ c.if-count-gt0.false (sym c.loop-rest-test.ensures) c.in-Ok.ensures.failures ∙ ap one_more i.3,
    )

pub returns-in_default-2-clause-err : goal.returns-in_default-2-clause-err
returns-in_default-2-clause-err g c =
    let i = c.loop-rest.invariant in
    (refl, front_of _ _ c.args.text.now i.0 _ i.1 (appends_kept _ _ _ i.0 i.2 c.in_default.ensures.bytes), c.in_default.ensures.failures ∙ ap one_more i.3)
