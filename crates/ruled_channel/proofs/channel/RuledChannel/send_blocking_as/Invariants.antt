use Rattle.std.proofs.Common.{◌≡◌}
use Rattle.ruled_channel.specs.Passes.{IsPassOf, IsSamePass, view}
use Rattle.ruled_channel.proofs.channel.RuledChannel.send_blocking_as.Given as goal

abbrev pub invariant-loop-look : goal.invariant-loop-look
invariant-loop-look g l = IsPassOf l.self l.pass × IsSamePass l.fn.pass l.pass × (view l.pass ≡ view l.fn.pass) × (l.waiting ≡ l.fn.message)

abbrev pub invariant-loop-turn : goal.invariant-loop-turn
invariant-loop-turn g l = IsPassOf l.self l.pass × IsSamePass l.fn.pass l.pass × (view l.pass ≡ view l.fn.pass) × (l.waiting ≡ l.fn.message)
