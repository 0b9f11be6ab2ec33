use Rattle.std.proofs.Common.{◌∙◌, refl, sym, ap}
use Rattle.std.specs.Prelude.{slice_get}
use Rattle.channel_core.specs.declared.state.Group.{Group}
use Rattle.channel_core.specs.Channel.{list_of}
use Rattle.channel_run.proofs.Told.FirstTold.{IsFirst-group_nobody, IsFirst-operation, IsFirst-stream}
use Rattle.channel_run.proofs.Tables.Kept.{kept_of}
use Rattle.channel_run.proofs.run.Run.first_in.Goals as goal

pub returns-in_err-key-clause-first : goal.returns-in_err-key-clause-first
returns-in_err-key-clause-first g c =
    let run = c.self.inside in
    let first = IsFirst-group_nobody (kept_of run) c.self.invariant.0
    c.args.group (sym c.in_err-key.was ∙ c.first_told.ensures) in
    rw (c.from_residual.ensures, ← c.self.view_is) first.first

pub returns-in_err-key-clause-none : goal.returns-in_err-key-clause-none
returns-in_err-key-clause-none g c = λ none.
    let run = c.self.inside in
    let first = IsFirst-group_nobody (kept_of run) c.self.invariant.0
    c.args.group (sym c.in_err-key.was ∙ c.first_told.ensures) in
    rw (← c.self.view_is) (first.none refl)

pub returns-in-Streams-clause-first : goal.returns-in-Streams-clause-first
returns-in-Streams-clause-first g c =
    let run = c.self.inside in
    let told = sym c.in_ok-key.was ∙ c.first_told.ensures
    ∙ ap (λ (group : Group). slice_get (list_of group run.core).told 0) c.in-Streams.is in
    let first = IsFirst-stream (kept_of run) c.self.invariant.0
    c.in_ok-key.key told c.receiver_with.result c.receiver_with.ensures in
    rw (c.in-Streams.is, ← c.self.view_is) first.first

pub returns-in-Streams-clause-none : goal.returns-in-Streams-clause-none
returns-in-Streams-clause-none g c = λ none.
    let run = c.self.inside in
    let told = sym c.in_ok-key.was ∙ c.first_told.ensures
    ∙ ap (λ (group : Group). slice_get (list_of group run.core).told 0) c.in-Streams.is in
    let first = IsFirst-stream (kept_of run) c.self.invariant.0
    c.in_ok-key.key told c.receiver_with.result c.receiver_with.ensures in
    rw (c.in-Streams.is, ← c.self.view_is) (first.none none)

pub returns-in_default : goal.returns-in_default
returns-in_default g c =
    let run = c.self.inside in
    let first = IsFirst-operation (kept_of run) c.self.invariant.0
    c.args.group c.in_default.not-Streams c.in_ok-key.key
    (sym c.in_ok-key.was ∙ c.first_told.ensures) c.operation_with.result c.operation_with.ensures in
    record { first = rw (← c.self.view_is) first.first; none = λ none. rw (← c.self.view_is) (first.none none) }
