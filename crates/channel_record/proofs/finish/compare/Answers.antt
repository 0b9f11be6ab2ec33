use Rattle.std.proofs.Common.{sym, refl, subst, List, ◌∙◌}
use Rattle.channel_model.specs.declared.step.Kind.{Kind}
use Rattle.channel_record.specs.declared.calls.Call.{Call}
use Rattle.channel_record.specs.declared.calls.Outcome.{Outcome}
use Rattle.channel_record.specs.Histories.{IsLegalHistory}
use Rattle.channel_record.specs.Shares.{IsWrittenDown}
use Rattle.channel_record.proofs.finish.compare.Goals as goal

pub returns-in-Ok-Some-clause-matches : goal.returns-in-Ok-Some-clause-matches
returns-in-Ok-Some-clause-matches g c =
    let exact = rw c.in-Ok-Some.field-0-is at c.in-Ok-Some.ensures.exact in
    record {
      is_asked = sym c.kind-journals_kind.ensures ∙ c.if-not-same_kind.ensures.0 refl;
      written =
          subst (λ (history : List (Call g.row.T.Denot × Outcome g.row.T.Denot)). IsWrittenDown history
          c.args.clerks.now) (c.as_slice.ensures.value ∙ c.into_history-history.ensures.history) (exact.0 refl);
    }

pub returns-in-Ok-Some-clause-book : goal.returns-in-Ok-Some-clause-book
returns-in-Ok-Some-clause-book g c =
    let kinds = sym c.kind-journals_kind.ensures ∙ c.if-not-same_kind.ensures.0 refl in
    let exact = rw c.in-Ok-Some.field-0-is at c.in-Ok-Some.ensures.exact in
    let places = rw c.in-Ok-Some.field-0-is at c.in-Ok-Some.ensures.places in
    record {
      is_asked = refl;
      legal = subst (λ (kind : Kind). IsLegalHistory kind c.into_history-history.result.items) kinds
          c.into_history-history.ensures.legal;
      written =
          subst (λ (history : List (Call g.row.T.Denot × Outcome g.row.T.Denot)). IsWrittenDown history
          c.args.clerks.now) c.as_slice.ensures.value (exact.0 refl);
      places = places;
    }

pub returns-in-Ok-None-clause-mismatch : goal.returns-in-Ok-None-clause-mismatch
returns-in-Ok-None-clause-mismatch g c same matches =
    let exact = rw c.in-Ok-None.field-0-is at c.in-Ok-None.ensures.exact in
    let found = exact.1 (subst (λ (history : List (Call g.row.T.Denot × Outcome g.row.T.Denot)). IsWrittenDown
    history c.args.clerks.now) (sym (c.as_slice.ensures.value ∙ c.into_history-history.ensures.history))
    matches.written) in
    cc

pub returns-then-not-same_kind-clause-mismatch : goal.returns-then-not-same_kind-clause-mismatch
returns-then-not-same_kind-clause-mismatch g c same matches =
    let equal = c.if-not-same_kind.ensures.1 (c.kind-journals_kind.ensures ∙ matches.is_asked) in
    cc
