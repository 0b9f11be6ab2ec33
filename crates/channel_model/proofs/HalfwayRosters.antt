-- One roster is changed, and the law holds between the moves of a step.
use Rattle.std.proofs.Common.{◌≡◌, ℕ, ◌+◌, ◌-◌, ◌<◌, [], true, false, length, arith}
use Rattle.std.specs.Option.{ForSome, ForNone}
use Rattle.channel_model.specs.declared.step.Kind.{Kind}
use Rattle.channel_model.specs.Past.{Past}
use Rattle.channel_model.specs.Handles.{live_names, Receivers}
use Rattle.channel_model.specs.Messages.{held_messages}
use Rattle.channel_model.specs.Capacity.{capacity_of}
use Rattle.channel_model.specs.Closing.{is_closed}
use Rattle.channel_model.specs.Rosters.{AreSound, Roster, hand_on, leave}
use Rattle.channel_model.specs.Notices.{rosters}
use Rattle.channel_model.proofs.Keeping.{HasUntold, Enough, IsAllTold, Enough-hand_on, IsAllTold-hand_on, HasUntold-leave, names-hand_on}
use Rattle.channel_model.proofs.Halfway.{AreAllTold, IsHalfway, IsHalfway-held, Whole}

-- ---- step by step

-- Nothing went in or out, and nobody moved.
pub unmoved : {T : Type 0} (kind : Kind) (past : Past T) (held' : ℕ) → Whole kind past
    → held' + 0 ≡ length (held_messages past) + 0
    → IsHalfway (capacity_of kind) held' (is_closed past) (length (live_names Receivers past)) (rosters past)
unmoved kind past held' covered e =
    IsHalfway-held (capacity_of kind) (length (held_messages past)) held' (is_closed past)
    (length (live_names Receivers past)) (rosters past) (omega arith) covered

-- ---- one roster changed

module _ {T : Type 0} (kind : Kind) (past : Past T) (held' : ℕ) (covered : Whole kind past) (same : held' + 0 ≡ length (held_messages past) + 0) where
  pub with_receives : (new : Roster) → Enough (length (held_messages past)) new → (is_closed past ≡ true → IsAllTold new)
      → IsHalfway (capacity_of kind) held' (is_closed past) (length (live_names Receivers past))
      (record {
        sends = (rosters past).sends;
        receives = new;
        streams = (rosters past).streams;
        closeds = (rosters past).closeds;
      })
  with_receives new enough told =
      IsHalfway-held (capacity_of kind) (length (held_messages past)) held' (is_closed past)
      (length (live_names Receivers past)) _ (omega arith)
      (record {
        receives = enough;
        sends = covered.sends;
        unbounded = covered.unbounded;
        streams = covered.streams;
        closeds = covered.closeds;
        told = λ e. let all : AreAllTold (rosters past) = covered.told e in
            record { sends = all.sends; receives = told e; streams = all.streams };
        within = covered.within;
      })

  pub with_sends : (new : Roster) → ForSome (capacity_of kind) (λ most. Enough (most - length (held_messages past)) new)
      → ForNone (capacity_of kind) (new.names ≡ []) → (is_closed past ≡ true → IsAllTold new)
      → IsHalfway (capacity_of kind) held' (is_closed past) (length (live_names Receivers past))
      (record {
        sends = new;
        receives = (rosters past).receives;
        streams = (rosters past).streams;
        closeds = (rosters past).closeds;
      })
  with_sends new enough none told =
      IsHalfway-held (capacity_of kind) (length (held_messages past)) held' (is_closed past)
      (length (live_names Receivers past)) _ (omega arith)
      (record {
        receives = covered.receives;
        sends = enough;
        unbounded = none;
        streams = covered.streams;
        closeds = covered.closeds;
        told = λ e. let all : AreAllTold (rosters past) = covered.told e in
            record { sends = told e; receives = all.receives; streams = all.streams };
        within = covered.within;
      })

  pub with_streams : (new : Roster) → (HasUntold new → (length (held_messages past) ≡ 0) × (is_closed past ≡ false))
      → (is_closed past ≡ true → IsAllTold new)
      → IsHalfway (capacity_of kind) held' (is_closed past) (length (live_names Receivers past))
      (record {
        sends = (rosters past).sends;
        receives = (rosters past).receives;
        streams = new;
        closeds = (rosters past).closeds;
      })
  with_streams new empty told =
      IsHalfway-held (capacity_of kind) (length (held_messages past)) held' (is_closed past)
      (length (live_names Receivers past)) _ (omega arith)
      (record {
        receives = covered.receives;
        sends = covered.sends;
        unbounded = covered.unbounded;
        streams = empty;
        closeds = covered.closeds;
        told = λ e. let all : AreAllTold (rosters past) = covered.told e in
            record { sends = all.sends; receives = all.receives; streams = told e };
        within = covered.within;
      })

  pub with_closeds : (new : Roster) → (HasUntold new → 0 < length (live_names Receivers past))
      → IsHalfway (capacity_of kind) held' (is_closed past) (length (live_names Receivers past))
      (record {
        sends = (rosters past).sends;
        receives = (rosters past).receives;
        streams = (rosters past).streams;
        closeds = new;
      })
  with_closeds new still =
      IsHalfway-held (capacity_of kind) (length (held_messages past)) held' (is_closed past)
      (length (live_names Receivers past)) _ (omega arith)
      (record {
        receives = covered.receives;
        sends = covered.sends;
        unbounded = covered.unbounded;
        streams = covered.streams;
        closeds = still;
        told = λ e. let all : AreAllTold (rosters past) = covered.told e in
            record { sends = all.sends; receives = all.receives; streams = all.streams };
        within = covered.within;
      })

  -- an operation is given up
  pub with_given_up : (op : ℕ) → AreSound (rosters past)
      → IsHalfway (capacity_of kind) held' (is_closed past) (length (live_names Receivers past))
      (record {
        sends = hand_on op (rosters past).sends;
        receives = hand_on op (rosters past).receives;
        streams = (rosters past).streams;
        closeds = leave op (rosters past).closeds;
      })
  with_given_up op sound =
      IsHalfway-held (capacity_of kind) (length (held_messages past)) held' (is_closed past)
      (length (live_names Receivers past)) _ (omega arith)
      (record {
        receives = Enough-hand_on op (length (held_messages past))
            (rosters past).receives sound.receives covered.receives;
        sends = λ most e. Enough-hand_on op (most - length (held_messages past)) (rosters past).sends sound.sends
            (covered.sends most e);
        unbounded = λ e. names-hand_on op (rosters past).sends (covered.unbounded e);
        streams = covered.streams;
        closeds = λ untold. covered.closeds (HasUntold-leave op (rosters past).closeds sound.closeds untold);
        told = λ e.
            let all : AreAllTold (rosters past) = covered.told e in
            record {
              sends = IsAllTold-hand_on op (rosters past).sends sound.sends all.sends;
              receives = IsAllTold-hand_on op (rosters past).receives sound.receives all.receives;
              streams = all.streams;
            };
        within = covered.within;
      })
