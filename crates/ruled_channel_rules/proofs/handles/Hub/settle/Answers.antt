use Rattle.std.proofs.Common.{ap}
use Rattle.ruled_channel.specs.declared.look.Status.{Status}
use Rattle.ruled_channel_rules.proofs.Keeps.{settles}
use Rattle.ruled_channel_rules.proofs.Merging.{each_once}
use Rattle.ruled_channel_rules.proofs.handles.Hub.settle.Goals as goal

pub learn_as-requires-clause-rule : goal.learn_as-requires-clause-rule
learn_as-requires-clause-rule g c = settles _ _ c.requires.own.1 c.requires.senders c.requires.receivers

pub returns-clause-held : goal.returns-clause-held
returns-clause-held g c = (_, ap (λ (status : Status). status.len) c.learn_as.ensures.reply, c.learn_as.ensures.learned.0)

pub returns-clause-arrived : goal.returns-clause-arrived
returns-clause-arrived g c = c.learn_as.ensures.learned.1

pub returns-clause-each_once : goal.returns-clause-each_once
returns-clause-each_once g c ended = each_once _ _ (c.learn_as.ensures.learned.1 ended)
