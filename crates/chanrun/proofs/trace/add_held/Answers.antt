use Rattle.std.proofs.Common.{rules}
use Rattle.chanrun.specs.Trace.{message_word}
use Rattle.chanrun.proofs.Traced.{word_at}
use Rattle.chanrun.proofs.trace.add_held.Goals as goal

pub loop-place-preserved : goal.loop-place-preserved
loop-place-preserved c =
    word_at message_word c.args.run.now.messages c.loop-place.place c.in-Some.message.now
    c.loop-place.text.items c.extend_from_slice.new.self.items c.as_bytes.result.now _
    (search rules) c.in_ok-extend_from_slice.ensures.items (search rules) c.loop-place.invariant
