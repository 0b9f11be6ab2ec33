-- A receive that keeps its receiver may be polled, and gives a receive by it.
use Rattle.std.proofs.Common.{◌≡◌, Option, Some, None, Result, Ok, Err, rules, sym, ap, subst}
use Rattle.channel_core.specs.declared.errors.OutOfMemory.{OutOfMemory}
use Rattle.channel_core.specs.declared.errors.RecvError.{RecvError}
use Rattle.ruled_channel.specs.declared.channel.RuledChannel.{RuledChannel}
use Rattle.ruled_channel.specs.declared.pass.Pass.{Pass}
use Rattle.ruled_channel.specs.Passes.{IsPassOf}
use Rattle.ruled_channel.specs.Receiving.{MayPoll, Gives}
use Rattle.ruled_channel_rules.specs.declared.log.Log.{Log}
use Rattle.ruled_channel_rules.specs.declared.log.Whole.{Whole}
use Rattle.ruled_channel_rules.specs.declared.handles.Channel.{Channel}
use Rattle.ruled_channel_rules.specs.declared.handles.Receiver.{Receiver}
use Rattle.ruled_channel_rules.specs.Receiving.{MayReceive, TellsReceived}
use Rattle.ruled_channel_rules.specs.Whole.{IsWhole, with_got, with_end}
use Rattle.ruled_channel_rules.proofs.Keeps.{receives, ends}

module _ {T : Type 0} (channel : Channel T) (r : Receiver T) (below : RuledChannel T (Log T) Whole (Unit {0})) where
  pub may_poll : (held : Option (Pass T (Log T))) → MayReceive channel r below held → MayPoll (λ _. IsWhole) (λ v m w. w ≡ with_got v m) (λ v w. w ≡ with_end v) below held
  may_poll None may = absurd (search rules)
  may_poll (Some p) may = (search rules, (subst (λ (c : RuledChannel T (Log T) Whole (Unit {0})). IsPassOf c p) (sym may.0) may.1.0.0, receives _ _ _ _ (ap (λ (v : Log T). v.got) may.1.0.1), ends _ _))

  pub tells : (held : Option (Pass T (Log T))) (q : Pass T (Log T)) (answer : Result (Result T RecvError) OutOfMemory) → MayReceive channel r below held
      → Gives (λ _. IsWhole) (λ v m w. w ≡ with_got v m) (λ v w. w ≡ with_end v) below held (q, answer) → TellsReceived channel r (record { pass = q }, answer)
  tells None q answer may gives = absurd (search rules)
  tells (Some p) q (Ok (Ok m)) may gives = search rules
  tells (Some p) q (Ok (Err e)) may gives = search rules
  tells (Some p) q (Err e) may gives = search rules
