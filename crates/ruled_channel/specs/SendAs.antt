-- What contracts see of a send as a future.
use Rattle.std.specs.Prelude.{ℕ, Option}
use Rattle.ruled_channel.specs.declared.channel.RuledChannel.{RuledChannel}
use Rattle.ruled_channel.specs.declared.pass.Pass.{Pass}
use Rattle.ruled_channel.specs.declared.sending.SendAs.{SendAs}

module _ {T V P M L R K : Type 0} where
  abbrev pub channel_of : SendAs T V P M L R K → RuledChannel T V P K
  channel_of future = future.channel.now

  -- its pass and its message, until it is ready
  abbrev pub parts_of : SendAs T V P M L R K → Option (Pass T V × T)
  parts_of future = future.parts

  -- the key of its entry, while it waits
  abbrev pub ticket_of : SendAs T V P M L R K → Option ℕ
  ticket_of future = future.ticket
