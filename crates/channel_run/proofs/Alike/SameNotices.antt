-- Whether somebody waits and was told is the same by the roster of its kind and by the past.
use Rattle.std.proofs.Common.{◌≡◌, ℕ, Bool, true, false, cond, Some, None, Option, refl, sym, ◌∙◌, ap}
use Rattle.channel_model.specs.declared.step.Kind.{Kind}
use Rattle.channel_model.specs.declared.step.Notice.{Notice}
use Rattle.channel_model.specs.declared.step.Notice.TheVariants.{Absent, Untold, Told}
use Rattle.channel_model.specs.declared.step.Who.{Who}
use Rattle.channel_model.specs.declared.step.Who.TheVariants.{Op, Receiver}
use Rattle.event_list.specs.Keys.{is_among}
use Rattle.channel_model.specs.Past.{Past}
use Rattle.channel_model.specs.Operations.{Operation, awaiting_close, is_awaiting, is_receive, is_unsent, operation_in, operation_of, receiving, sending}
use Rattle.channel_model.specs.Rosters.{Roster, Rosters, notice_in}
use Rattle.channel_model.specs.Notices.{notice_of, rosters}
use Rattle.channel_model.specs.Laws.{AreLive}
use Rattle.channel_model.specs.View.{View}
use Rattle.channel_run.specs.StandsFor.{StandsFor}
use Rattle.channel_model.proofs.NameLists.{is_among-take}
use Rattle.channel_model.proofs.LookUps.{look_up}
use Rattle.channel_model.proofs.WhoWaits.{AreLive-IsLegal}

-- an operation waits in the roster of its kind, if anywhere
abbrev pub notice_of_operation : {T : Type 0} → Rosters → ℕ → Option (Operation T) → Notice
notice_of_operation all op None = Absent
notice_of_operation all op (Some (sending sender message)) = notice_in op all.sends
notice_of_operation all op (Some (receiving receiver)) = notice_in op all.receives
notice_of_operation all op (Some (awaiting_close sender)) = notice_in op all.closeds

abbrev pub notice_shown : {T : Type 0} → View T → Who → Notice
notice_shown run (Op op) = notice_of_operation run.rosters op (operation_in run.operations op)
notice_shown run (Receiver receiver) = notice_in receiver run.rosters.streams

notice_absent : (name : ℕ) (roster : Roster) → is_among name roster.names ≡ false
    → notice_in name roster ≡ Absent
notice_absent name roster absent =
    ap (λ told. cond told Told (cond (is_among name roster.names) Untold Absent))
    (is_among-take roster.told name roster.names absent)
    ∙ ap (λ among. cond among Untold Absent) absent

-- in a roster of another kind it isn't among them
absent_if : (among is : Bool) → (among ≡ true → is ≡ true) → is ≡ false → among ≡ false
absent_if true is live isnt = let holds = live refl in cc
absent_if false is live isnt = refl

abbrev by_roster : (sends receives : Bool) (a b c : Notice) → Notice
by_roster sends receives a b c = cond sends a (cond receives b c)

in_sends : (sends receives : Bool) (a b c : Notice) → receives ≡ false → c ≡ Absent
    → (sends ≡ false → a ≡ Absent)
    → by_roster sends receives a b c ≡ a
in_sends true receives a b c r e f = refl
in_sends false true a b c r e f = cc
in_sends false false a b c r e f = e ∙ sym (f refl)

in_receives : (sends receives : Bool) (a b c : Notice) → sends ≡ false → c ≡ Absent
    → (receives ≡ false → b ≡ Absent)
    → by_roster sends receives a b c ≡ b
in_receives true receives a b c s e f = cc
in_receives false true a b c s e f = refl
in_receives false false a b c s e f = e ∙ sym (f refl)

in_closeds : (sends receives : Bool) (a b c : Notice) → sends ≡ false → receives ≡ false
    → by_roster sends receives a b c ≡ c
in_closeds true receives a b c s r = cc
in_closeds false true a b c s r = cc
in_closeds false false a b c s r = refl

notice_of_op : {T : Type 0} (kind : Kind) (past : Past T) (run : View T) (op : ℕ) (operation : Option (Operation T))
    → StandsFor kind past run → operation_of past op ≡ operation
    → notice_of past (Op op) ≡ notice_of_operation (rosters past) op operation
notice_of_op {T} kind past run op operation stands o = go operation o
  where
    live : AreLive past (rosters past)
    live = AreLive-IsLegal kind past stands.legal

    no_send : is_unsent (operation_of past op) ≡ false
        → is_among op (rosters past).sends.names ≡ false
    no_send isnt = absent_if (is_among op (rosters past).sends.names) (is_unsent (operation_of past op))
        (live.sends op) isnt

    no_receive : is_receive (operation_of past op) ≡ false
        → is_among op (rosters past).receives.names ≡ false
    no_receive isnt = absent_if (is_among op (rosters past).receives.names) (is_receive (operation_of past op))
        (live.receives op) isnt

    no_closed : is_awaiting (operation_of past op) ≡ false
        → is_among op (rosters past).closeds.names ≡ false
    no_closed isnt = absent_if (is_among op (rosters past).closeds.names) (is_awaiting (operation_of past op))
        (live.closeds op) isnt

    sends : Bool
    sends = is_among op (rosters past).sends.names

    receives : Bool
    receives = is_among op (rosters past).receives.names

    a : Notice
    a = notice_in op (rosters past).sends

    b : Notice
    b = notice_in op (rosters past).receives

    c : Notice
    c = notice_in op (rosters past).closeds

    go : (operation : Option (Operation T)) → operation_of past op ≡ operation
        → by_roster sends receives a b c ≡ notice_of_operation (rosters past) op operation
    go None e =
        in_closeds sends receives a b c (no_send (ap is_unsent e)) (no_receive (ap is_receive e))
        ∙ notice_absent op (rosters past).closeds (no_closed (ap is_awaiting e))
    go (Some (sending sender message)) e =
        in_sends sends receives a b c (no_receive (ap is_receive e))
        (notice_absent op (rosters past).closeds (no_closed (ap is_awaiting e)))
        (notice_absent op (rosters past).sends)
    go (Some (receiving receiver)) e =
        in_receives sends receives a b c (no_send (ap is_unsent e))
        (notice_absent op (rosters past).closeds (no_closed (ap is_awaiting e)))
        (notice_absent op (rosters past).receives)
    go (Some (awaiting_close sender)) e =
        in_closeds sends receives a b c (no_send (ap is_unsent e)) (no_receive (ap is_receive e))

-- Whether somebody waits and was told shows in the roster of its kind.
pub notice_shown-StandsFor : {T : Type 0} (kind : Kind) (past : Past T) (run : View T) (who : Who)
    → StandsFor kind past run → notice_shown run who ≡ notice_of past who
notice_shown-StandsFor {T} kind past run (Op op) stands =
    ap (λ (all : Rosters). notice_of_operation all op (look_up op run.operations)) stands.shows.rosters
    ∙ ap (λ (operation : Option (Operation T)). notice_of_operation (rosters past) op operation)
    (stands.shows.operations.each op)
    ∙ sym (notice_of_op kind past run op (operation_of past op) stands refl)
notice_shown-StandsFor kind past run (Receiver receiver) stands =
    ap (λ (all : Rosters). notice_in receiver all.streams) stands.shows.rosters
