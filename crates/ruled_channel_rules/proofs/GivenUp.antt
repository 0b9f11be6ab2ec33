-- What is left of a send that is given up.
use Rattle.std.proofs.Common.{◌≡◌, Option, Some, None, Err, rules, refl, inl}
use Rattle.ruled_channel.specs.declared.channel.RuledChannel.{RuledChannel}
use Rattle.ruled_channel.specs.declared.pass.Pass.{Pass}
use Rattle.ruled_channel.specs.State.{new_state}
use Rattle.ruled_channel.specs.Sending.{AreBack}
use Rattle.ruled_channel_rules.specs.declared.log.Log.{Log}
use Rattle.ruled_channel_rules.specs.declared.handles.Channel.{Channel}
use Rattle.ruled_channel_rules.specs.declared.handles.Sender.{Sender}
use Rattle.ruled_channel_rules.specs.Handles.{IsSenderOf}
use Rattle.ruled_channel_rules.specs.Sending.{MaySend, IsAsItWas}

module _ {T P : Type 0} where
  -- a send gives the same back as one that wants memory
  pub send_back : (channel : Channel T) (s : Sender T) (m : T) (below : RuledChannel T (Log T) P (Unit {0})) (parts : Option (Pass T (Log T) × T)) (pass : Pass T (Log T)) (message : T)
      → MaySend channel s m below parts → AreBack below parts (Some (pass, message))
      → IsSenderOf channel (record { pass = pass }) × IsAsItWas s (record { pass = pass }) × (message ≡ m)
  send_back channel s m below None pass message may back = absurd (search rules)
  send_back channel s m below (Some h) pass message may back =
      let came = may.1 (pass, Err (record { 0 = message })) (back.0, back.1, tt, (back.3, back.2, inl (new_state None, (refl, refl), tt))) in
      (came.0, (came.2.1, came.3), came.2.0)
