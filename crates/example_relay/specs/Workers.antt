-- What a worker has received and sent.
use Rattle.std.specs.Prelude.{◌≡◌, ℕ, [], true}
use Rattle.ruled_channel_rules.specs.declared.handles.Channel.{Channel}
use Rattle.ruled_channel_rules.specs.Handles.{IsSenderOf, IsReceiverOf, sent_by, got_by, has_ended}
use Rattle.example_relay.specs.declared.pool.Worker.{Worker}
use Rattle.example_relay.specs.Answers.{answers_to}

abbrev pub IsWorkerOf : Channel ℕ → Channel (ℕ × ℕ) → Worker → Type 0
IsWorkerOf numbers answers w = IsReceiverOf numbers w.receiver × IsSenderOf answers w.sender

-- it has done nothing yet
abbrev pub IsNew : Worker → Type 0
IsNew w = (got_by w.receiver ≡ []) × (sent_by w.sender ≡ [])

-- it has answered all that it received, and no more numbers come
abbrev pub IsDone : Worker → Type 0
IsDone w =
    (sent_by w.sender ≡ answers_to (got_by w.receiver)) × (has_ended w.receiver ≡ true)
