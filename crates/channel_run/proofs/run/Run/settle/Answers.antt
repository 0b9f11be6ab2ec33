use Rattle.std.proofs.Common.{arith}
use Rattle.channel_run.proofs.Settling.SoFar.{SettlesSoFar-more, SettlesTo-IsQuiet, never}
use Rattle.channel_run.proofs.run.Run.settle.Goals as goal

pub returns-in_default-clause-settled : goal.returns-in_default-clause-settled
returns-in_default-clause-settled g c = λ kind past stands.
    let at = c.loop-polls in
    let quiet = rw c.in_default.is at c.first_told.ensures in
    SettlesTo-IsQuiet kind past at.polls at.finished.items c.args.self.now at.self stands
    (at.invariant.came kind past stands) quiet

pub loop-polls-preserved : goal.loop-polls-preserved
loop-polls-preserved g c =
    let at = c.loop-polls in
    record {
      came = λ kind past stands. rw c.keep_ready.ensures.kept
          (SettlesSoFar-more kind past at.polls at.finished.items at.self c.poll_told-reply.new.self c.in-Some.who
          c.poll_told-reply.result (at.invariant.came kind past stands) c.in-Some.ensures
          c.poll_told-reply.ensures.polled);
      room = (let room = at.invariant.room in let left = c.poll_told-reply.ensures.left in
          let count = c.keep_ready.ensures.count in let kept = c.keep_ready.ensures.room in omega arith);
    }

pub returns-clause-settled : goal.returns-clause-settled
returns-clause-settled g c = λ kind past stands.
    let at = c.loop-polls in
    absurd (never kind past at.polls at.finished.items c.args.self.now at.self stands
    (at.invariant.came kind past stands) c.room_for_replies.ensures.few (omega arith))
