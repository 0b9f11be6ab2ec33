-- The texts that a script's replies and its end are written as.
use Rattle.std.specs.Prelude.{ℕ, List, ◌++◌, codes, true, false, Some, None, Ok, Err}
use Rattle.std.specs.Fmt.{decimal}
use Rattle.futures.specs.declared.task.Poll.TheVariants.{Ready, Pending}
use Rattle.channel_core.specs.declared.errors.TrySendError.TheVariants.{Full, Closed}
use Rattle.channel_core.specs.declared.errors.TryRecvError.TheVariants.{Empty, Closed}
use Rattle.channel_model.specs.declared.step.Notice.{Notice}
use Rattle.channel_model.specs.declared.step.Notice.TheVariants.{Absent, Untold, Told}
use Rattle.channel_model.specs.declared.step.Refusal.{Refusal}
use Rattle.channel_model.specs.declared.step.Refusal.TheVariants.{Unknown, Taken, Borrowed, TooMany, OutOfMemory}
use Rattle.channel_model.specs.declared.step.Reply.{Reply}
use Rattle.channel_model.specs.declared.step.Reply.TheVariants.{TrySent, Forced, Received, Flag, Count, Capacity, Done, Upgraded, SendPolled, RecvPolled, ClosedPolled, NextPolled, Refused}
use Rattle.channel_model.specs.declared.step.Who.{Who}
use Rattle.channel_model.specs.declared.step.Who.TheVariants.{Op, Receiver}
use Rattle.chanrun.specs.declared.grammar.fault.Fault.{Fault}
use Rattle.chanrun.specs.declared.grammar.fault.Fault.TheVariants.{LineTooLong, ChannelMissing, UnknownCommand, WrongWordCount, BadName, BadNumber, CapacityZero, CapacityTooLarge}

-- ---- replies

-- The last one ends a script, and is never written.
abbrev pub refusal_text : Refusal → List ℕ
refusal_text Unknown = codes "refused: unknown"
refusal_text Taken = codes "refused: taken"
refusal_text Borrowed = codes "refused: borrowed"
refusal_text TooMany = codes "refused: too many"
refusal_text OutOfMemory = codes "refused: out of memory"

-- A reply's text, without the end of its line. A message is a decimal number.
abbrev pub reply_text : Reply ℕ → List ℕ
reply_text Done = codes "done"
reply_text (TrySent (Ok done)) = codes "ok"
reply_text (TrySent (Err (Full message))) = codes "full " ++ decimal message
reply_text (TrySent (Err (Closed message))) = codes "closed " ++ decimal message
reply_text (Forced (Ok None)) = codes "ok none"
reply_text (Forced (Ok (Some message))) = codes "ok some " ++ decimal message
reply_text (Forced (Err error)) = codes "closed " ++ decimal error.0
reply_text (Received (Ok message)) = codes "ok " ++ decimal message
reply_text (Received (Err Empty)) = codes "empty"
reply_text (Received (Err Closed)) = codes "closed"
reply_text (Flag true) = codes "true"
reply_text (Flag false) = codes "false"
reply_text (Count count) = decimal count
reply_text (Capacity (Some capacity)) = codes "some " ++ decimal capacity
reply_text (Capacity None) = codes "none"
reply_text (Upgraded true) = codes "ok"
reply_text (Upgraded false) = codes "none"
reply_text (SendPolled Pending) = codes "pending"
reply_text (SendPolled (Ready (Ok done))) = codes "ok"
reply_text (SendPolled (Ready (Err error))) = codes "closed " ++ decimal error.0
reply_text (RecvPolled Pending) = codes "pending"
reply_text (RecvPolled (Ready (Ok message))) = codes "ok " ++ decimal message
reply_text (RecvPolled (Ready (Err error))) = codes "closed"
reply_text (ClosedPolled Pending) = codes "pending"
reply_text (ClosedPolled (Ready done)) = codes "ready"
reply_text (NextPolled Pending) = codes "pending"
reply_text (NextPolled (Ready (Some message))) = codes "some " ++ decimal message
reply_text (NextPolled (Ready None)) = codes "end"
reply_text (Refused refusal message) = refusal_text refusal

-- whether somebody waits, and was told
abbrev pub notice_text : Notice → List ℕ
notice_text Absent = codes "absent"
notice_text Untold = codes "untold"
notice_text Told = codes "told"

-- the name of an operation, or of the receiver of a stream
abbrev pub who_text : Who → List ℕ
who_text (Op op) = codes "o" ++ decimal op
who_text (Receiver receiver) = codes "r" ++ decimal receiver

-- ---- the end of a script

-- what is wrong with a line
abbrev pub fault_text : Fault → List ℕ
fault_text LineTooLong = codes "line is too long"
fault_text ChannelMissing = codes "channel is missing"
fault_text UnknownCommand = codes "unknown command"
fault_text WrongWordCount = codes "wrong number of words"
fault_text BadName = codes "bad name"
fault_text BadNumber = codes "bad number"
fault_text CapacityZero = codes "capacity is zero"
fault_text CapacityTooLarge = codes "capacity is too large"
