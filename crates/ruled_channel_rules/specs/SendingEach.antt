-- When a send of several messages may be polled, and what it gives.
use Rattle.std.specs.Prelude.{◌≡◌, ℕ, Bool, ◌||◌, List, ◌∷◌, ◌++◌, Option, None, Result, IfOk, IfErr, IsSomeAnd}
use Rattle.std.specs.declared.alloc.Global.{Global}
use Rattle.std.specs.declared.collections.VecDeque.{VecDeque}
use Rattle.channel_core.specs.declared.errors.NoMemory.{NoMemory}
use Rattle.channel_core.specs.declared.errors.SendError.{SendError}
use Rattle.ruled_channel.specs.Passes.{source_of}
use Rattle.ruled_channel.specs.SendAs.{channel_of as channel_below, parts_of}
use Rattle.ruled_channel_rules.specs.declared.handles.Channel.{Channel}
use Rattle.ruled_channel_rules.specs.declared.handles.Sender.{Sender}
use Rattle.ruled_channel_rules.specs.declared.sending.Send.{Send}
use Rattle.ruled_channel_rules.specs.declared.sending.Turn.{Turn}
use Rattle.ruled_channel_rules.specs.declared.sending.Turn.TheVariants.{Next, Wait, Over}
use Rattle.ruled_channel_rules.specs.Handles.{IsSenderOf, sent_by, sender_closed}
use Rattle.ruled_channel_rules.specs.Send.{HasWaited as HasSendWaited, ticket_of as ticket_of_send}
use Rattle.ruled_channel_rules.specs.Sending.{MaySend}

module _ {T : Type 0} where
  -- these messages were sent but for the last ones, by a sender that is now so and closed nothing
  abbrev pub HasSentBut : Channel T → Sender T → List T → List T → Sender T → Type 0
  HasSentBut channel s messages rest now =
      IsSenderOf channel now × (sent_by now ++ rest ≡ sent_by s ++ messages)
      × (sender_closed now ≡ sender_closed s)

  -- all messages were sent; or those before one that comes back, and the rest comes after it
  abbrev pub TellsSentAll : Sender T → List T → Sender T → List T
      → Result (Result (Unit {0}) (SendError T)) (NoMemory T) → Type 0
  TellsSentAll s messages now rest answer =
      IfOk answer (λ sent. IfOk sent (λ _. sent_by now ≡ sent_by s ++ messages)
      × IfErr sent (λ error. sent_by now ++ error.0 ∷ rest ≡ sent_by s ++ messages))
      × IfErr answer (λ error. sent_by now ++ error.0 ∷ rest ≡ sent_by s ++ messages)

  -- The sender comes back so, and has closed the channel if it was to.
  abbrev pub TellsSentEach : Channel T → Sender T → List T → Bool
      → Sender T × VecDeque T Global × Result (Result (Unit {0}) (SendError T)) (NoMemory T)
      → Type 0
  TellsSentEach channel s messages closes out =
      IsSenderOf channel out.0 × TellsSentAll s messages out.0 out.1.items out.2
      × (sender_closed out.0 ≡ (closes || sender_closed s))

  module _ {R : Type 0} where
    -- The sender is at hand, or sends the next; the others are left.
    abbrev pub MaySendEach : Channel T → Sender T → List T
        → Turn (Sender T) (Send T R) (VecDeque T Global) → Type 0
    MaySendEach channel s messages (Next now rest) = HasSentBut channel s messages rest.items now
    MaySendEach channel s messages (Wait f rest) =
        HasSentBut channel s messages (f.message.value ∷ rest.items) f.sender.value
        × (f.channel.now ≡ channel)
        × IsSomeAnd f.inner
        (λ b. MaySend channel f.sender.value f.message.value (channel_below b) (parts_of b))
    MaySendEach channel s messages Over = ⊥

    -- the sources that it waits for
    abbrev pub waits_at : Turn (Sender T) (Send T R) (VecDeque T Global) → ℕ → Type 0
    waits_at (Wait f rest) source = IsSomeAnd f.inner (λ b. source ≡ source_of (channel_below b))
    waits_at _ source = ⊥

    -- the key of the entry of the send that waits
    abbrev pub ticket_of : Turn (Sender T) (Send T R) (VecDeque T Global) → Option ℕ
    ticket_of (Wait f rest) = ticket_of_send f
    ticket_of _ = None

    -- a send waits, and its last poll left it so
    abbrev pub HasWaited : Option ℕ → Turn (Sender T) (Send T R) (VecDeque T Global) → Type 0
    HasWaited ticket (Wait f rest) = HasSendWaited ticket f
    HasWaited ticket _ = ⊥
