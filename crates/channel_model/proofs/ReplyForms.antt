-- The answers of the tables, as replies to steps: a reply by the few things that it hangs on.
use Rattle.std.proofs.Common.{Bool, Option, length}
use Rattle.channel_model.specs.declared.step.Kind.{Kind}
use Rattle.channel_model.specs.declared.step.Reply.{Reply}
use Rattle.channel_model.specs.declared.step.Reply.TheVariants.{TrySent, Forced, Received, SendPolled, RecvPolled, ClosedPolled, NextPolled}
use Rattle.channel_core.specs.Tables.{try_send_answer, force_send_answer, try_recv_answer, send_poll, recv_poll, next_poll, closed_poll}
use Rattle.channel_model.specs.Past.{Past}
use Rattle.channel_model.specs.Messages.{held_messages}
use Rattle.channel_model.specs.Capacity.{capacity_of, full_at}

-- The channel is full after this past.
abbrev pub is_full : {T : Type 0} → Kind → Past T → Bool
is_full kind past = full_at (capacity_of kind) (length (held_messages past))

abbrev pub try_send_reply : {T : Type 0} (closed full : Bool) → T → Reply T
try_send_reply closed full message = TrySent (try_send_answer closed full message)

abbrev pub force_send_reply : {T : Type 0} (closed full : Bool) (oldest : Option T) → T → Reply T
force_send_reply closed full oldest message = Forced (force_send_answer closed full oldest message)

abbrev pub try_recv_reply : {T : Type 0} (oldest : Option T) (closed : Bool) → Reply T
try_recv_reply oldest closed = Received (try_recv_answer oldest closed)

abbrev pub poll_send_reply : {T : Type 0} (message : Option T) (closed full : Bool) → Reply T
poll_send_reply message closed full = SendPolled (send_poll message closed full)

abbrev pub poll_recv_reply : {T : Type 0} (oldest : Option T) (closed : Bool) → Reply T
poll_recv_reply oldest closed = RecvPolled (recv_poll oldest closed)

abbrev pub poll_next_reply : {T : Type 0} (oldest : Option T) (closed : Bool) → Reply T
poll_next_reply oldest closed = NextPolled (next_poll oldest closed)

abbrev pub poll_closed_reply : {T : Type 0} (no_receiver : Bool) → Reply T
poll_closed_reply no_receiver = ClosedPolled (closed_poll no_receiver)
