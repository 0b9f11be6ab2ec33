use Rattle.std.proofs.Common.{◌∙◌}
use Rattle.std.specs.String.{string_bytes}
use Rattle.chanrun.proofs.Traced.{line_done}
use Rattle.chanrun.proofs.trace.add_line.Goals as goal

pub returns : goal.returns
returns c = λ kind past stands.
    let done = c.in_ok-reply.ensures kind past stands in (
      line_done c.args.names.now kind past c.args.line.now.text.now c.args.line.now.command
          c.args.rows.now.items c.reply_to.new.rows.items c.extend_from_slice.new.self.items
          c.as_slice.result.now c.as_str.result.now (string_bytes c.in_ok-reply.reply)
          done.0 done.1 c.as_str.ensures.value
          (c.as_slice.ensures.value ∙ c.in_ok-row.ensures kind _ done.2)
          c.in_ok-extend_from_slice.ensures.items,
      done.2,
    )
