use Rattle.std.proofs.Common.{◌≡◌}
use Rattle.ruled_channel_rules.specs.Handles.{IsReceiverOf, receiver_closed}
use Rattle.ruled_channel_rules.specs.Receiving.{HasAdded}
use Rattle.ruled_channel_rules.proofs.handles.Receiver.recv_all.Given as goal

abbrev pub invariant-loop : goal.invariant-loop
invariant-loop g l = IsReceiverOf l.channel l.self × HasAdded l.initial.self l.initial.all.items l.self l.all.items × (receiver_closed l.self ≡ receiver_closed l.initial.self)
