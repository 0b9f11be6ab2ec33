-- If nobody is told, nobody waits who could go on.
use Rattle.std.proofs.Common.{◌≡◌, ℕ, ◌-◌, ◌<◌, ◌≤◌, List, [], ◌∷◌, Bool, true, false, not, ◌||◌, ◌&&◌, refl, ap, length, arith}
use Rattle.std.proofs.lemmas.Bool.{leb-true, leb-false}
use Rattle.channel_model.specs.declared.step.Kind.{Kind}
use Rattle.channel_model.specs.declared.step.Kind.TheVariants.{Bounded, Unbounded}
use Rattle.channel_model.specs.declared.step.Who.TheVariants.{Op, Receiver}
use Rattle.event_list.specs.Keys.{is_among}
use Rattle.channel_model.specs.Past.{Past}
use Rattle.channel_model.specs.Handles.{live_names, Receivers}
use Rattle.channel_model.specs.Messages.{held_messages}
use Rattle.channel_model.specs.Capacity.{HasPositiveCapacity}
use Rattle.channel_model.specs.Closing.{has_none, is_closed}
use Rattle.channel_model.specs.Rosters.{Roster}
use Rattle.channel_model.specs.Notices.{rosters}
use Rattle.channel_model.specs.Able.{IsSettled, can_receive, can_send}
use Rattle.channel_model.specs.Polling.{IsQuiet}
use Rattle.channel_model.specs.Laws.{IsDone}
use Rattle.channel_model.proofs.Keeping.{HasUntold}
use Rattle.channel_model.proofs.Halfway.{AreAllTold, Whole}
use Rattle.channel_model.proofs.ReplyForms.{is_full}

-- Nobody waits who could go on, roster by roster.
pub record IsIdle {T : Type 0} (kind : Kind) (past : Past T) : Type 0 where
  pub receives : can_receive past ≡ true → (rosters past).receives.names ≡ []
  pub streams : can_receive past ≡ true → (rosters past).streams.names ≡ []
  pub sends : can_send kind past ≡ true → (rosters past).sends.names ≡ []
  pub closeds : has_none (live_names Receivers past) ≡ true → (rosters past).closeds.names ≡ []

-- who was not told and is not untold isn't there
nobody_untold : (roster : Roster) → roster.told ≡ 0 → (HasUntold roster → ⊥) → roster.names ≡ []
nobody_untold roster none settled = go roster.names (λ some. settled (omega arith))
  where
    go : (names : List ℕ) → (0 < length names → ⊥) → names ≡ []
    go [] h = refl
    go (name ∷ names) h = absurd (h (omega arith))

either : (closed nobody_held : Bool) → (closed || not nobody_held) ≡ true → closed ≡ false → nobody_held ≡ false
either true held e f = cc
either false true e f = cc
either false false e f = refl

some_held : {X : Type 0} (messages : List X) → has_none messages ≡ false → 0 < length messages
some_held [] e = cc
some_held (first ∷ rest) e = omega arith

no_message : {X : Type 0} (messages : List X) → length messages ≡ 0 → has_none messages ≡ true
no_message [] e = refl
no_message (first ∷ rest) e = absurd (omega arith)

nobody_live : {X : Type 0} (names : List X) → has_none names ≡ true → length names ≡ 0
nobody_live [] e = refl
nobody_live (first ∷ rest) e = cc

-- no closed operation waits if no receiver is live
no_closed_waits : {T : Type 0} (kind : Kind) (past : Past T) → Whole kind past → IsQuiet (rosters past)
    → has_none (live_names Receivers past) ≡ true → (rosters past).closeds.names ≡ []
no_closed_waits kind past covered quiet none =
    nobody_untold (rosters past).closeds quiet.closeds
    (λ untold. let some : 0 < length (live_names Receivers past) = covered.closeds untold in
    let zero = nobody_live (live_names Receivers past) none in omega arith)

-- by whether the channel is closed
on_closed : {T : Type 0} (kind : Kind) (past : Past T) → Whole kind past → IsQuiet (rosters past)
    → is_closed past ≡ true → IsIdle kind past
on_closed kind past covered quiet c =
    let all : AreAllTold (rosters past) = covered.told c in
    record {
      receives = λ e. nobody_untold (rosters past).receives quiet.receives
          (λ untold. let told = all.receives in omega arith);
      streams = λ e. nobody_untold (rosters past).streams quiet.streams
          (λ untold. let told = all.streams in omega arith);
      sends = λ e. nobody_untold (rosters past).sends quiet.sends (λ untold. let told = all.sends in omega arith);
      closeds = no_closed_waits kind past covered quiet;
    }

no_send_waits : {T : Type 0} (kind : Kind) (past : Past T) → Whole kind past → IsQuiet (rosters past)
    → is_full kind past ≡ false → (rosters past).sends.names ≡ []
no_send_waits (Bounded capacity) past covered quiet f =
    nobody_untold (rosters past).sends quiet.sends
    (λ untold.
    let room : length (held_messages past) < capacity = leb-false capacity (length (held_messages past)) f in
    let enough : capacity - length (held_messages past) ≤ (rosters past).sends.told =
    covered.sends capacity refl untold in
    let none = quiet.sends in
    omega arith)
no_send_waits Unbounded past covered quiet f = covered.unbounded refl

on_open : {T : Type 0} (kind : Kind) (past : Past T) → Whole kind past → IsQuiet (rosters past) → is_closed past ≡ false
    → IsIdle kind past
on_open kind past covered quiet c =
    record {
      receives = λ e. nobody_untold (rosters past).receives quiet.receives (λ untold.
          let some : 0 < length (held_messages past) =
          some_held (held_messages past) (either (is_closed past) (has_none (held_messages past)) e c) in
          let enough : length (held_messages past) ≤ (rosters past).receives.told = covered.receives untold in
          let none = quiet.receives in
          omega arith);
      streams = λ e. nobody_untold (rosters past).streams quiet.streams (λ untold.
          let some : 0 < length (held_messages past) =
          some_held (held_messages past) (either (is_closed past) (has_none (held_messages past)) e c) in
          let empty = (covered.streams untold).0 in
          omega arith);
      sends = λ e. no_send_waits kind past covered quiet (either (is_closed past) (is_full kind past) e c);
      closeds = no_closed_waits kind past covered quiet;
    }

pub IsIdle-IsQuiet : {T : Type 0} (kind : Kind) (past : Past T) → Whole kind past → IsQuiet (rosters past)
    → IsIdle kind past
IsIdle-IsQuiet kind past covered quiet = go (is_closed past) refl
  where
    go : (closed : Bool) → is_closed past ≡ closed → IsIdle kind past
    go true c = on_closed kind past covered quiet c
    go false c = on_open kind past covered quiet c

-- ---- by name

-- nobody is among nobody
nobody_among : (name : ℕ) (names : List ℕ) (test : Bool) → (test ≡ true → names ≡ [])
    → (is_among name names && test) ≡ false
nobody_among name names true none = ap (λ (n : List ℕ). is_among name n && true) (none refl)
nobody_among name names false none = go (is_among name names)
  where
    go : (among : Bool) → (among && false) ≡ false
    go true = refl
    go false = refl

none_of : (a b c : Bool) → a ≡ false → b ≡ false → c ≡ false → ((a || b) || c) ≡ false
none_of a b c e f g = rw (e, f, g) refl

pub IsSettled-IsIdle : {T : Type 0} (kind : Kind) (past : Past T) → IsIdle kind past → IsSettled kind past
IsSettled-IsIdle kind past idle (Op op) =
    none_of (is_among op (rosters past).sends.names && can_send kind past)
    (is_among op (rosters past).receives.names && can_receive past)
    (is_among op (rosters past).closeds.names && has_none (live_names Receivers past))
    (nobody_among op (rosters past).sends.names (can_send kind past) idle.sends)
    (nobody_among op (rosters past).receives.names (can_receive past) idle.receives)
    (nobody_among op (rosters past).closeds.names (has_none (live_names Receivers past)) idle.closeds)
IsSettled-IsIdle kind past idle (Receiver receiver) =
    nobody_among receiver (rosters past).streams.names (can_receive past) idle.streams

pub IsSettled-IsQuiet : {T : Type 0} (kind : Kind) (past : Past T) → Whole kind past → IsQuiet (rosters past)
    → IsSettled kind past
IsSettled-IsQuiet kind past whole quiet = IsSettled-IsIdle kind past (IsIdle-IsQuiet kind past whole quiet)

-- ---- no send beside a receive

full-some : {T : Type 0} (kind : Kind) (past : Past T) → HasPositiveCapacity kind → is_full kind past ≡ true
    → 0 < length (held_messages past)
full-some (Bounded capacity) past some full =
    let most : capacity ≤ length (held_messages past) = leb-true capacity (length (held_messages past)) full in
    let one : 0 < capacity = some capacity refl in
    omega arith
full-some Unbounded past some full = cc

messages-some : {X : Type 0} (messages : List X) → 0 < length messages → has_none messages ≡ false
messages-some [] some = absurd (omega arith)
messages-some (first ∷ rest) some = refl

or_not : (closed none : Bool) → none ≡ false → (closed || not none) ≡ true
or_not true none e = refl
or_not false none e = ap not e

-- if a send waits and nobody is told, a message is held
sends_wait : {T : Type 0} (kind : Kind) (past : Past T) → HasPositiveCapacity kind → IsIdle kind past
    → 0 < length (rosters past).sends.names → can_receive past ≡ true
sends_wait {T} kind past some idle waits = go (is_closed past) refl (is_full kind past) refl
  where
    nobody : can_send kind past ≡ true → ⊥
    nobody able = let zero : length (rosters past).sends.names ≡ 0 = ap length (idle.sends able) in omega arith

    go : (closed : Bool) → is_closed past ≡ closed → (full : Bool) → is_full kind past ≡ full → can_receive past ≡ true
    go true c full f = ap (λ closed. closed || not (has_none (held_messages past))) c
    go false c true f = or_not (is_closed past) (has_none (held_messages past))
        (messages-some (held_messages past) (full-some kind past some f))
    go false c false f = absurd (nobody (or_not (is_closed past) (is_full kind past) f))

pub IsDone-IsQuiet : {T : Type 0} (kind : Kind) (past : Past T) → HasPositiveCapacity kind → Whole kind past
    → IsQuiet (rosters past) → IsDone past
IsDone-IsQuiet kind past some whole quiet =
    let idle = IsIdle-IsQuiet kind past whole quiet in
    record {
      receives = λ waits. idle.receives (sends_wait kind past some idle waits);
      streams = λ waits. idle.streams (sends_wait kind past some idle waits);
      closed_sends = λ c. idle.sends (ap (λ closed. closed || not (is_full kind past)) c);
      closed_receives = λ c. idle.receives (ap (λ closed. closed || not (has_none (held_messages past))) c);
      closed_streams = λ c. idle.streams (ap (λ closed. closed || not (has_none (held_messages past))) c);
    }
