-- What a call answers and leaves, by the channel before it. A private function promises it, and
-- what a history decides follows from it; no public clause has to cite this module.
use Rattle.std.specs.Prelude.{not, length}
use Rattle.channel_core.specs.Channel.{Channel, closing, force_sent, is_channel_full, oldest, received, sent}
use Rattle.channel_core.specs.Tables.{force_send_answer, try_recv_answer, try_send_answer}
use Rattle.channel_record.specs.declared.calls.Call.{Call}
use Rattle.channel_record.specs.declared.calls.Call.TheVariants.{TrySend, ForceSend, TryRecv, Close, IsClosed, Len}
use Rattle.channel_record.specs.declared.calls.Outcome.{Outcome}
use Rattle.channel_record.specs.declared.calls.Outcome.TheVariants.{TrySent, Forced, Received, Flag, Count}

module _ {T W : Type 0} where
  abbrev pub outcome_at : Channel T W → Call T → Outcome T
  outcome_at channel (TrySend message) =
      TrySent (try_send_answer channel.closed (is_channel_full channel) message)
  outcome_at channel (ForceSend message) =
      Forced (force_send_answer channel.closed (is_channel_full channel) (oldest channel) message)
  outcome_at channel TryRecv = Received (try_recv_answer (oldest channel) channel.closed)
  outcome_at channel Close = Flag (not channel.closed)
  outcome_at channel IsClosed = Flag channel.closed
  outcome_at channel Len = Count (length channel.messages)

  abbrev pub after_call : Call T → Channel T W → Channel T W
  after_call (TrySend message) channel = (sent message channel).channel
  after_call (ForceSend message) channel = (force_sent message channel).channel
  after_call TryRecv channel = (received channel).channel
  after_call Close channel = (closing channel).channel
  after_call call channel = channel
