use Rattle.ruled_channel.proofs.Waits.{waits_in_twice}
use Rattle.ruled_channel.proofs.channel.RuledChannel.wait.Goals as goal

pub returns-then-is_untold-clause-waits : goal.returns-then-is_untold-clause-waits
returns-then-is_untold-clause-waits g c = (
  c.mark-mark.result,
  c.mark-mark.ensures.made,
  waits_in_twice _ _ _ _ _ _ _ _ _ c.in_ok-held.ensures.waits c.in_ok-wait_by.ensures.waits,
)
