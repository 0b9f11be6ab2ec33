use Rattle.std.proofs.Common.{length, Some, refl, sym, ap, ◌∙◌, arith}
use Rattle.std.proofs.lemmas.Option.{slice_get_read}
use Rattle.parallel_map.proofs.Filling.{none_emptied, one_emptied, vacant_is_fault, all_emptied, later_more}
use Rattle.parallel_map.proofs.gathering.answers_of.Goals as goal

pub returns-in-None-clause-err : goal.returns-in-None-clause-err
returns-in-None-clause-err g c = λ pieces sound h.
    let i = c.loop-place.invariant in
    let read = slice_get_read c.loop-place.slots.items
    (length c.args.inputs.now) c.loop-place.place c.index_mut.result.now (sym i.long
    ∙ c.loop-place.slots.ok.0) (omega arith) c.index_mut.ensures.value in
    vacant_is_fault g.J.Job.answer c.args.inputs.now pieces c.args.slots.items c.loop-place.place _
    sound h (omega arith)
    (sym (i.later c.loop-place.place (omega arith))
    ∙ (read ∙ ap Some (sym c.in-None.ensures.value))) (i.emptied pieces sound h)

pub loop-place-init : goal.loop-place-init
loop-place-init g c = record {
  emptied = λ pieces sound h.
      none_emptied g.J.Job.answer c.args.inputs.now pieces _ c.requires.empty;
  later = λ i low. refl;
  long = c.requires.long;
  count = c.args.answers.ok.0 ∙ ap length c.requires.empty;
  room = c.requires.room;
}

pub loop-place-preserved : goal.loop-place-preserved
loop-place-preserved g c =
    let i = c.loop-place.invariant in
    let read = slice_get_read c.loop-place.slots.items
    (length c.args.inputs.now) c.loop-place.place c.index_mut.result.now (sym i.long
    ∙ c.loop-place.slots.ok.0) (omega arith) c.index_mut.ensures.value in
    record {
      emptied = λ pieces sound h.
          let on = one_emptied g.J.Job.answer c.args.inputs.now pieces c.args.slots.items
          c.loop-place.place c.loop-place.answers.items c.in-Some.answer sound h (omega arith)
          (sym (i.later c.loop-place.place (omega arith))
          ∙ (read ∙ ap Some (sym c.in-Some.ensures.value))) (i.emptied pieces sound h) in
          record { mapped = c.push_reserved.ensures.items ∙ on.mapped; each = on.each };
      later = later_more c.loop-place.slots.items c.args.slots.items c.loop-place.place _ i.later;
      long = i.long;
      count = omega (arith, c.push_reserved.ensures.len, i.count);
      room = omega (arith, c.push_reserved.ensures.capacity, i.room);
    }

pub returns-clause-ok : goal.returns-clause-ok
returns-clause-ok g c = λ pieces sound h.
    let i = c.loop-place.invariant in
    all_emptied g.J.Job.answer c.args.inputs.now pieces c.loop-place.place _ sound (omega arith)
    (i.emptied pieces sound h)
