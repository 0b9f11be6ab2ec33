-- What contracts see of a wait for the last receiver as a future.
use Rattle.std.specs.Prelude.{ℕ, Option}
use Rattle.ruled_channel.specs.declared.channel.RuledChannel.{RuledChannel}
use Rattle.ruled_channel.specs.declared.pass.Pass.{Pass}
use Rattle.ruled_channel.specs.declared.closing.UntilClosed.{UntilClosed}

module _ {T V P R K : Type 0} where
  abbrev pub channel_of : UntilClosed T V P R K → RuledChannel T V P K
  channel_of future = future.channel.now

  -- its pass, until it is ready
  abbrev pub pass_of : UntilClosed T V P R K → Option (Pass T V)
  pass_of future = future.pass

  -- the key of its entry, while it waits
  abbrev pub ticket_of : UntilClosed T V P R K → Option ℕ
  ticket_of future = future.ticket
