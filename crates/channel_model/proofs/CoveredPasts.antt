-- The law of notices holds after every past that can come about.
use Rattle.std.proofs.Common.{◌≡◌, ◌+◌, ◌-◌, ◌<◌, ◌≤◌, [], ◌∷◌, false, refl, sym, ap, subst, length, arith}
use Rattle.channel_model.specs.declared.step.Kind.{Kind}
use Rattle.channel_model.specs.declared.step.Reply.{Reply}
use Rattle.channel_model.specs.Past.{Past}
use Rattle.channel_model.specs.Handles.{live_names, Receivers, Senders}
use Rattle.channel_model.specs.Messages.{held_messages}
use Rattle.channel_model.specs.Capacity.{HasPositiveCapacity}
use Rattle.channel_model.specs.Closing.{has_none, is_close, is_closed}
use Rattle.channel_model.specs.Replies.{due_reply}
use Rattle.channel_model.specs.Rosters.{Roster, IsSound}
use Rattle.channel_model.specs.Notices.{rosters}
use Rattle.channel_model.specs.Legal.{IsLegal}
use Rattle.channel_core.specs.Covered.{IsCovered}
use Rattle.channel_model.specs.Standing.{standing_of}
use Rattle.channel_model.proofs.Measure.{rosters-AreSound}
use Rattle.channel_model.proofs.Halfway.{length-held_messages, AreAllTold, Whole, open-senders, open-receivers, Whole-from_halfway}
use Rattle.channel_model.proofs.HalfwaySteps.{Halfway, due-halfway}

-- nobody waits on a new channel
pub Whole-new : (T : Type 0) (kind : Kind) → Whole {T = T} kind []
Whole-new T kind = record {
  receives = λ untold. omega arith;
  sends = λ most e untold. omega arith;
  unbounded = λ e. refl;
  streams = λ untold. (refl, refl);
  closeds = λ untold. omega arith;
  told = λ e. cc;
  within = λ most e. omega arith;
}

pub HasPositiveCapacity-IsLegal : {T : Type 0} (kind : Kind) (past : Past T) → IsLegal kind past
    → HasPositiveCapacity kind
HasPositiveCapacity-IsLegal kind [] legal = legal
HasPositiveCapacity-IsLegal kind (pair ∷ past) legal = HasPositiveCapacity-IsLegal kind past legal.0

pub Whole-IsLegal : {T : Type 0} (kind : Kind) (past : Past T) → IsLegal kind past → Whole kind past
unfolding Halfway
Whole-IsLegal {T} kind [] legal = Whole-new T kind
Whole-IsLegal {T} kind ((step, reply) ∷ past) legal =
    subst (λ (r : Reply T). Whole kind ((step, r) ∷ past)) (sym legal.1)
    (Whole-from_halfway kind past step (due_reply kind past step)
    (due-halfway kind past step (Whole-IsLegal kind past legal.0) (rosters-AreSound past)
    (HasPositiveCapacity-IsLegal kind past legal.0)
    (length-held_messages kind past step (due_reply kind past step) (legal.0, refl, legal.2))))

-- ---- the law in numbers

-- an open channel has a sender and a receiver
pub senders-open : {T : Type 0} (past : Past T) → is_closed past ≡ false → 0 < length (live_names Senders past)
senders-open [] e = omega arith
senders-open (pair ∷ past) e = open-senders (is_closed past) (is_close pair.0) (live_names Senders (pair ∷ past))
    (has_none (live_names Receivers (pair ∷ past))) e

pub receivers-open : {T : Type 0} (past : Past T) → is_closed past ≡ false → 0 < length (live_names Receivers past)
receivers-open [] e = omega arith
receivers-open (pair ∷ past) e = open-receivers (is_closed past) (is_close pair.0)
    (has_none (live_names Senders (pair ∷ past))) (live_names Receivers (pair ∷ past)) e

pub nobody-counted : (roster : Roster) → IsSound roster → roster.names ≡ []
    → roster.told + (length roster.names - roster.told) ≡ 0
nobody-counted roster sound none = let zero : length roster.names ≡ 0 = ap length none in
    let within = sound.within in omega arith

-- Whoever waits untold could not go on, or enough others were told.
pub IsCovered-IsLegal : {T : Type 0} (kind : Kind) (past : Past T) → IsLegal kind past
    → IsCovered (standing_of kind past)
IsCovered-IsLegal {T} kind past legal =
    let whole : Whole kind past = Whole-IsLegal kind past legal in
    record {
      receives = whole.receives;
      sends = λ most e untold. let enough : most - length (held_messages past) ≤ (rosters past).sends.told =
          whole.sends most e untold in omega arith;
      unbounded = λ e. nobody-counted (rosters past).sends (rosters-AreSound past).sends (whole.unbounded e);
      streams = whole.streams;
      closeds = whole.closeds;
      closed = λ e. let all : AreAllTold (rosters past) = whole.told e in
          record { sends = all.sends; receives = all.receives; streams = all.streams };
      open_senders = senders-open past;
      open_receivers = receivers-open past;
      within = whole.within;
    }
