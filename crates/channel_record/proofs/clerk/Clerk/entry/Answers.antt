use Rattle.std.proofs.Common.{◌∙◌, ℕ, List, ap}
use Rattle.std.specs.Prelude.{slice_get}
use Rattle.channel_record.specs.declared.calls.Call.{Call}
use Rattle.channel_record.specs.declared.calls.Outcome.{Outcome}
use Rattle.channel_record.proofs.Lists.{copied_at}
use Rattle.channel_record.proofs.clerk.Clerk.entry.Goals as goal

pub returns : goal.returns
returns g c =
    c.copied.ensures ∙ copied_at c.entries.result.now c.args.index c.get.result c.get.ensures.lookup.0
    c.get.ensures.lookup.1
    ∙ ap (λ (entries : List (ℕ × Call g.row.T.Denot × Outcome g.row.T.Denot)). slice_get entries c.args.index)
    c.entries.ensures
