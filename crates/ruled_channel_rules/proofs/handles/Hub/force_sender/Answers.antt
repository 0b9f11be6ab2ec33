use Rattle.ruled_channel_rules.proofs.Keeps.{makes_force_sender}
use Rattle.ruled_channel_rules.proofs.handles.Hub.force_sender.Goals as goal

pub another-pass-requires-clause-rule : goal.another-pass-requires-clause-rule
another-pass-requires-clause-rule g c = makes_force_sender _ _ c.requires.own.1
