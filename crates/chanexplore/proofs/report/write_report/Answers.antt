use Rattle.std.proofs.Common.{ℕ, List, length, subst, ◌∙◌}
use Rattle.std.proofs.lemmas.Result.{on_ok_weaker}
use Rattle.std.specs.Io.KnownBytes.{Appends}
use Rattle.chanrun.proofs.Known.{appends_more}
use Rattle.chanexplore.specs.Reports.{head_text}
use Rattle.chanexplore.proofs.report.write_report.Goals as goal

pub returns : goal.returns
returns g c =
    let stuck = c.in_ok-stuck.stuck in
    let head =
    subst
    (λ (bytes : List ℕ). Appends (g.W.Sink.written c.args.writer.now) (g.W.Sink.written c.write_text.new.writer) bytes)
    (c.as_bytes.ensures.value ∙ c.in_ok-head.ensures)
    c.in_ok-write_text.ensures.ok.0 in
    on_ok_weaker
    c.write_outcomes.result
    (λ rest. record {
      stuck = stuck;
      rest = rest.0;
      text = appends_more _ _ _ (head_text c.args.searched (length c.args.outcomes.now) stuck) rest.0 head rest.1;
    })
    c.write_outcomes.ensures
