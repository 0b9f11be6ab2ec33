use Rattle.ruled_channel_rules.proofs.Keeps.{makes_receiver}
use Rattle.ruled_channel_rules.proofs.handles.Hub.receiver.Goals as goal

pub another-pass-requires-clause-rule : goal.another-pass-requires-clause-rule
another-pass-requires-clause-rule g c = makes_receiver _ _ c.requires.own.1
