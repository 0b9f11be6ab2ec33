-- What contracts see of a receive as a future.
use Rattle.std.specs.Prelude.{ℕ, Option}
use Rattle.ruled_channel.specs.declared.channel.RuledChannel.{RuledChannel}
use Rattle.ruled_channel.specs.declared.pass.Pass.{Pass}
use Rattle.ruled_channel.specs.declared.receiving.RecvAs.{RecvAs}

module _ {T V P M E R K : Type 0} where
  abbrev pub channel_of : RecvAs T V P M E R K → RuledChannel T V P K
  channel_of future = future.channel.now

  -- its pass, until it is ready
  abbrev pub pass_of : RecvAs T V P M E R K → Option (Pass T V)
  pass_of future = future.pass

  -- the key of its entry, while it waits
  abbrev pub ticket_of : RecvAs T V P M E R K → Option ℕ
  ticket_of future = future.ticket
