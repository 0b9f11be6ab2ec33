-- What a closed channel keeps, and what a refused send leaves.
use Rattle.std.proofs.Common.{◌≡◌, ℕ, List, append_assoc, [], ◌∷◌, ◌++◌, Bool, true, false, ◌||◌, Some, None, Option, refl, sym, ◌∙◌, ap, subst, length, drop}
use Rattle.std.proofs.Math.Seq.{drop-append_seam}
use Rattle.std.proofs.lemmas.List.{append-nil}
use Rattle.std.specs.Prelude.{option_and_then}
use Rattle.std.specs.Option.{ok_or}
use Rattle.futures.specs.declared.task.Poll.TheVariants.{Ready}
use Rattle.channel_model.specs.declared.step.Kind.{Kind}
use Rattle.channel_model.specs.declared.step.Step.{Step}
use Rattle.channel_model.specs.declared.step.Step.TheVariants.{TrySend, ForceSend, TryRecv, Poll, PollNext}
use Rattle.channel_model.specs.declared.step.Reply.{Reply}
use Rattle.channel_core.specs.declared.errors.TryRecvError.TheVariants.{Closed}
use Rattle.channel_model.specs.declared.step.Reply.TheVariants.{Received, RecvPolled, NextPolled}
use Rattle.channel_model.specs.Past.{Past}
use Rattle.channel_model.specs.Operations.{Operation, sending, receiving, awaiting_close, operation_of, message_of, unsent_message, live_operations}
use Rattle.channel_model.specs.Messages.{with_last, accepted_by, taken_by, accepted_messages, taken_messages, held_messages, oldest_message}
use Rattle.channel_model.specs.Handles.{live_names, Receivers}
use Rattle.channel_model.specs.Closing.{is_closed, has_none}
use Rattle.channel_model.specs.Replies.{due_reply, poll_reply}
use Rattle.channel_model.specs.Legal.{IsLegal}
use Rattle.channel_model.specs.Laws.{StaysClosed, taken_since, GivesWhatIsLeft, ComesBack, sent_by, given_back}
use Rattle.channel_model.proofs.ReplyForms.{try_send_reply, force_send_reply, try_recv_reply, poll_send_reply, poll_recv_reply, poll_next_reply, poll_closed_reply, is_full}
use Rattle.channel_model.proofs.Conserved.{accepted_messages-IsLegal}

-- ---- nothing is accepted any more

or_left : (before a b c : Bool) → before ≡ true → (((before || a) || b) || c) ≡ true
or_left true a b c e = refl
or_left false a b c e = cc

pub is_closed-later : {T : Type 0} (past later : Past T) → is_closed past ≡ true → is_closed (later ++ past) ≡ true
is_closed-later past [] closed = closed
is_closed-later past (pair ∷ later) closed =
    or_left (is_closed (later ++ past)) _ _ _ (is_closed-later past later closed)

-- what a send's reply on a closed channel accepts
poll_send-none : {T : Type 0} (past : Past T) (op : ℕ) (message : Option T) (closed full : Bool) → closed ≡ true
    → accepted_by (live_operations past) (Poll op) (poll_send_reply message closed full) ≡ None
poll_send-none past op None closed full c = refl
poll_send-none past op (Some message) true full c = refl
poll_send-none past op (Some message) false full c = cc

poll_recv-none : {T : Type 0} (past : Past T) (op : ℕ) (oldest : Option T) (closed : Bool)
    → accepted_by (live_operations past) (Poll op) (poll_recv_reply oldest closed) ≡ None
poll_recv-none past op (Some message) closed = refl
poll_recv-none past op None true = refl
poll_recv-none past op None false = refl

poll_closed-none : {T : Type 0} (past : Past T) (op : ℕ) (no_receiver : Bool)
    → accepted_by {T = T} (live_operations past) (Poll op) (poll_closed_reply no_receiver) ≡ None
poll_closed-none past op true = refl
poll_closed-none past op false = refl

poll-none : {T : Type 0} (past : Past T) (op : ℕ) (operation : Option (Operation T)) (closed no_receiver full : Bool)
    (oldest : Option T) → closed ≡ true → accepted_by (live_operations past) (Poll op)
    (poll_reply closed no_receiver full oldest operation) ≡ None
poll-none past op (Some (sending sender message)) closed no_receiver full oldest c =
    poll_send-none past op message closed full c
poll-none past op (Some (receiving receiver)) closed no_receiver full oldest c = poll_recv-none past op oldest closed
poll-none past op (Some (awaiting_close sender)) closed no_receiver full oldest c = poll_closed-none past op no_receiver
poll-none past op None closed no_receiver full oldest c = refl

pub accepted_by-closed : {T : Type 0} (kind : Kind) (past : Past T) (step : Step T) → is_closed past ≡ true
    → accepted_by (live_operations past) step (due_reply kind past step) ≡ None
accepted_by-closed {T} kind past (TrySend sender message) c =
    ap (λ (closed : Bool). accepted_by (live_operations past) (TrySend sender message)
    (try_send_reply closed (is_full kind past) message)) c
accepted_by-closed {T} kind past (ForceSend sender message) c =
    ap (λ (closed : Bool). accepted_by (live_operations past) (ForceSend sender message)
    (force_send_reply closed (is_full kind past) (oldest_message past) message)) c
accepted_by-closed kind past (Poll op) c =
    poll-none past op (operation_of past op) (is_closed past) (has_none (live_names Receivers past)) (is_full kind past)
    (oldest_message past) c
accepted_by-closed kind past step c = refl

pub accepted_messages-closed : {T : Type 0} (kind : Kind) (past later : Past T) → IsLegal kind (later ++ past)
    → is_closed past ≡ true → accepted_messages (later ++ past) ≡ accepted_messages past
accepted_messages-closed kind past [] legal closed = refl
accepted_messages-closed {T} kind past ((step, reply) ∷ later) legal closed =
    ap (λ (found : Option T). with_last (accepted_messages (later ++ past)) found)
    (ap (λ (r : Reply T). accepted_by (live_operations (later ++ past)) step r) legal.1
    ∙ accepted_by-closed kind (later ++ past) step (is_closed-later past later closed))
    ∙ accepted_messages-closed kind past later legal.0 closed

-- each beginning of a past that can come about can come about
pub IsLegal-before : {T : Type 0} (kind : Kind) (past later : Past T) → IsLegal kind (later ++ past) → IsLegal kind past
IsLegal-before kind past [] legal = legal
IsLegal-before kind past (pair ∷ later) legal = IsLegal-before kind past later legal.0

-- ---- what was taken since, and what is left

with_last-append : {T : Type 0} (front rest : List T) (found : Option T)
    → with_last (front ++ rest) found ≡ front ++ with_last rest found
with_last-append front rest None = refl
with_last-append front rest (Some message) = append_assoc front rest (message ∷ [])

-- what was taken before comes first
taken_later : {T : Type 0} (past later : Past T)
    → (since : List T) × (taken_messages (later ++ past) ≡ taken_messages past ++ since)
taken_later past [] = ([], sym (append-nil (taken_messages past)))
taken_later {T} past ((step, reply) ∷ later) =
    let before = taken_later past later in (
      with_last before.0 (taken_by reply),
      ap (λ (taken : List T). with_last taken (taken_by reply)) before.1
          ∙ with_last-append (taken_messages past) before.0 (taken_by reply),
    )

taken_since-later : {T : Type 0} (past later : Past T)
    → taken_messages (later ++ past) ≡ taken_messages past ++ taken_since past later
taken_since-later {T} past later =
    let found = taken_later past later in
    found.1 ∙ ap (λ (since : List T). taken_messages past ++ since)
    (sym (ap (λ (taken : List T). drop (length (taken_messages past)) taken) found.1
    ∙ drop-append_seam (taken_messages past) found.0))

-- of two lists with the same beginning the rest is the same
same_rest : {T : Type 0} (front rest other : List T) → front ++ rest ≡ front ++ other → rest ≡ other
same_rest {T} front rest other e =
    sym (drop-append_seam front rest) ∙ ap (λ (all : List T). drop (length front) all) e ∙ drop-append_seam front other

pub StaysClosed-IsLegal : {T : Type 0} (kind : Kind) (past later : Past T) → IsLegal kind (later ++ past)
    → is_closed past ≡ true → StaysClosed past later
StaysClosed-IsLegal {T} kind past later legal closed =
    let same = accepted_messages-closed kind past later legal closed in
    record {
      closed = is_closed-later past later closed;
      accepted = same;
      left =
          same_rest (taken_messages past) (held_messages past) (taken_since past later ++ held_messages (later ++ past))
          (sym (accepted_messages-IsLegal kind past (IsLegal-before kind past later legal))
          ∙ sym same
          ∙ accepted_messages-IsLegal kind (later ++ past) legal
          ∙ ap (λ (taken : List T). taken ++ held_messages (later ++ past)) (taken_since-later past later)
          ∙ append_assoc (taken_messages past) (taken_since past later) (held_messages (later ++ past)));
    }

-- ---- what is left is given

try_recv-left : {T : Type 0} (oldest : Option T) → try_recv_reply oldest true ≡ Received (ok_or oldest Closed)
try_recv-left (Some message) = refl
try_recv-left None = refl

poll_recv-left : {T : Type 0} (oldest : Option T)
    → poll_recv_reply oldest true ≡ RecvPolled (Ready (ok_or oldest (record {})))
poll_recv-left (Some message) = refl
poll_recv-left None = refl

poll_next-left : {T : Type 0} (oldest : Option T) → poll_next_reply oldest true ≡ NextPolled (Ready oldest)
poll_next-left (Some message) = refl
poll_next-left None = refl

pub GivesWhatIsLeft-closed : {T : Type 0} (kind : Kind) (past : Past T) → is_closed past ≡ true
    → GivesWhatIsLeft kind past
GivesWhatIsLeft-closed {T} kind past closed = record {
  at_once = λ receiver. ap (λ (c : Bool). try_recv_reply (oldest_message past) c) closed
      ∙ try_recv-left (oldest_message past);
  polled = λ op receiver found.
      ap (λ (operation : Option (Operation T)). poll_reply (is_closed past) (has_none (live_names Receivers past))
      (is_full kind past) (oldest_message past) operation) found
      ∙ ap (λ (c : Bool). poll_recv_reply (oldest_message past) c) closed
      ∙ poll_recv-left (oldest_message past);
  streamed = λ receiver. ap (λ (c : Bool). poll_next_reply (oldest_message past) c) closed
      ∙ poll_next-left (oldest_message past);
}

-- ---- a refused message comes back

-- a reply that gives the message back took nothing and put nothing in
Refuses : {T : Type 0} → Past T → Step T → Reply T → T → Type 0
Refuses past step reply message = (sent_by past step ≡ Some message) × (accepted_by (live_operations past) step reply ≡ None)
    × (taken_by reply ≡ None)

try_send-refuses : {T : Type 0} (past : Past T) (sender : ℕ) (sent : T) (closed full : Bool) (message : T)
    → given_back (try_send_reply closed full sent) ≡ Some message
    → Refuses past (TrySend sender sent) (try_send_reply closed full sent) message
unfolding Refuses
try_send-refuses past sender sent true full message back = (back, refl, refl)
try_send-refuses past sender sent false true message back = (back, refl, refl)
try_send-refuses past sender sent false false message back = cc

force_send-refuses : {T : Type 0} (past : Past T) (sender : ℕ) (sent : T) (closed full : Bool) (oldest : Option T)
    (message : T) → given_back (force_send_reply closed full oldest sent) ≡ Some message
    → Refuses past (ForceSend sender sent) (force_send_reply closed full oldest sent) message
unfolding Refuses
force_send-refuses past sender sent true full oldest message back = (back, refl, refl)
force_send-refuses past sender sent false true oldest message back = cc
force_send-refuses past sender sent false false oldest message back = cc

try_recv-no_error : {T : Type 0} (oldest : Option T) (closed : Bool) (message : T)
    → given_back (try_recv_reply oldest closed) ≡ Some message → ⊥
try_recv-no_error (Some first) closed message back = cc
try_recv-no_error None true message back = cc
try_recv-no_error None false message back = cc

poll_recv-no_error : {T : Type 0} (oldest : Option T) (closed : Bool) (message : T)
    → given_back (poll_recv_reply oldest closed) ≡ Some message → ⊥
poll_recv-no_error (Some first) closed message back = cc
poll_recv-no_error None true message back = cc
poll_recv-no_error None false message back = cc

poll_next-no_error : {T : Type 0} (oldest : Option T) (closed : Bool) (message : T)
    → given_back (poll_next_reply oldest closed) ≡ Some message → ⊥
poll_next-no_error (Some first) closed message back = cc
poll_next-no_error None true message back = cc
poll_next-no_error None false message back = cc

poll_closed-no_error : {T : Type 0} (no_receiver : Bool) (message : T)
    → given_back (poll_closed_reply no_receiver) ≡ Some message → ⊥
poll_closed-no_error true message back = cc
poll_closed-no_error false message back = cc

poll_send-refuses : {T : Type 0} (past : Past T) (op : ℕ) (sent : Option T) (closed full : Bool) (message : T)
    → message_of past op ≡ sent → given_back (poll_send_reply sent closed full) ≡ Some message
    → Refuses past (Poll op) (poll_send_reply sent closed full) message
unfolding Refuses
poll_send-refuses past op None closed full message m back = cc
poll_send-refuses past op (Some sent) true full message m back = (m ∙ back, refl, refl)
poll_send-refuses past op (Some sent) false true message m back = cc
poll_send-refuses past op (Some sent) false false message m back = cc

poll-refuses : {T : Type 0} (past : Past T) (op : ℕ) (operation : Option (Operation T)) (closed no_receiver full : Bool)
    (oldest : Option T) (message : T) → operation_of past op ≡ operation
    → given_back (poll_reply closed no_receiver full oldest operation) ≡ Some message
    → Refuses past (Poll op) (poll_reply closed no_receiver full oldest operation) message
poll-refuses {T} past op (Some (sending sender sent)) closed no_receiver full oldest message o back =
    poll_send-refuses past op sent closed full message
    (ap (λ (operation : Option (Operation T)). option_and_then unsent_message operation) o) back
poll-refuses past op (Some (receiving receiver)) closed no_receiver full oldest message o back =
    absurd (poll_recv-no_error oldest closed message back)
poll-refuses past op (Some (awaiting_close sender)) closed no_receiver full oldest message o back =
    absurd (poll_closed-no_error no_receiver message back)
poll-refuses past op None closed no_receiver full oldest message o back = cc

due-refuses : {T : Type 0} (kind : Kind) (past : Past T) (step : Step T) (message : T)
    → given_back (due_reply kind past step) ≡ Some message → Refuses past step (due_reply kind past step) message
due-refuses kind past (TrySend sender sent) message back =
    try_send-refuses past sender sent (is_closed past) (is_full kind past) message back
due-refuses kind past (ForceSend sender sent) message back =
    force_send-refuses past sender sent (is_closed past) (is_full kind past) (oldest_message past) message back
due-refuses kind past (TryRecv receiver) message back =
    absurd (try_recv-no_error (oldest_message past) (is_closed past) message back)
due-refuses kind past (Poll op) message back =
    poll-refuses past op (operation_of past op) (is_closed past) (has_none (live_names Receivers past)) (is_full kind past)
    (oldest_message past) message refl back
due-refuses kind past (PollNext receiver) message back =
    absurd (poll_next-no_error (oldest_message past) (is_closed past) message back)
due-refuses kind past step message back = cc

pub ComesBack-IsLegal : {T : Type 0} (kind : Kind) (past : Past T) (step : Step T) (reply : Reply T) (message : T)
    → IsLegal kind ((step, reply) ∷ past) → given_back reply ≡ Some message → ComesBack past step reply message
unfolding Refuses
ComesBack-IsLegal {T} kind past step reply message legal back =
    let refuses : Refuses past step reply message =
    subst (λ (r : Reply T). Refuses past step r message) (sym legal.1)
    (due-refuses kind past step message (ap (λ (r : Reply T). given_back r) (sym legal.1) ∙ back)) in
    record {
      same = refuses.0;
      held =
          ap (λ (put : Option T). drop (length (with_last (taken_messages past) (taken_by reply)))
          (with_last (accepted_messages past) put)) refuses.1
          ∙ ap (λ (took : Option T). drop (length (with_last (taken_messages past) took)) (accepted_messages past))
          refuses.2;
    }
