use Rattle.std.proofs.Common.{◌+◌, drop, ap, ◌∙◌}
use Rattle.std.proofs.lemmas.List.{drop-drop}
use Rattle.channel_core.specs.Batches.{moved_count}
use Rattle.async_channel.proofs.handles.Sender.send_some_blocking.Goals as goal

pub returns-in-Ok-Ok-clause-rest : goal.returns-in-Ok-Ok-clause-rest
returns-in-Ok-Ok-clause-rest g c =
    let more = moved_count c.try_send_many-refused.result in (
      1 + more,
      c.try_send_many-refused.ensures.rest ∙ ap (drop more) c.pop_front.ensures.rest
          ∙ drop-drop more 1 c.args.from.now.items,
    )
