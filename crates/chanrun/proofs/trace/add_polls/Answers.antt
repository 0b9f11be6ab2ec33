use Rattle.std.proofs.Common.{rules, arith, ◌∙◌}
use Rattle.std.proofs.lemmas.Result.{IfOk-weaker}
use Rattle.channel_model.specs.Replies.{is_pending}
use Rattle.chanrun.proofs.Traced.{none_polled, one_more_polled, all_polled, few_more}
use Rattle.chanrun.proofs.trace.add_polls.Goals as goal

pub loop-polls-init : goal.loop-polls-init
loop-polls-init c = record {
  came = λ kind past stands. none_polled kind past _ _ _ stands;
  few = omega arith;
}

pub returns-in_default : goal.returns-in_default
returns-in_default c = λ kind past stands.
    let at = c.loop-polls in
    let so = at.invariant.came kind past stands in
    IfOk-weaker c.format.result _ _
    (λ text is. all_polled kind past c.args.names.now c.args.rows.now.items at.polls-counter at.ready at.rows.items at.run
    c.poll_first_told.new.self c.poll_first_told.result _ stands.legal so c.in_default.is
    (c.poll_first_told.ensures kind _ so.stands) is)
    c.format.ensures.ok

pub with_ready-ready-requires : goal.with_ready-ready-requires
with_ready-ready-requires c =
    let few = c.loop-polls.invariant.few in
    let less = c.loop-polls-test.true in
    omega (arith, few, less)

pub loop-polls-preserved : goal.loop-polls-preserved
loop-polls-preserved c =
    let at = c.loop-polls in
    record {
      came = λ kind past stands.
          let so = at.invariant.came kind past stands in
          one_more_polled kind past c.args.names.now c.args.rows.now.items at.polls-counter at.ready c.with_ready-ready.result
          at.rows.items c.extend_from_slice.new.self.items at.run c.poll_first_told.new.self c.poll_first_told.result
          c.in-Some.who c.in-Some.reply c.as_bytes.result.now c.as_str.result.now c.as_slice.result.now
          so (search rules) (c.poll_first_told.ensures kind _ so.stands) (search rules) (search rules) (search rules)
          (λ after stands. c.as_slice.ensures.value ∙ c.in_ok-row.ensures kind after stands)
          c.in_ok-extend_from_slice.ensures.items;
      few = few_more (is_pending c.in-Some.reply) at.ready c.with_ready-ready.result at.polls-counter (search rules) at.invariant.few;
    }
