use Rattle.std.proofs.Common.{rules, sym, ap, subst, ◌≡◌, ◌∙◌, IfErr}
use Rattle.ruled_channel.specs.Passes.{WantsToSend, view}
use Rattle.ruled_channel.proofs.channel.RuledChannel.send_blocking_as.Goals as goal
use Rattle.ruled_channel.proofs.channel.RuledChannel.send_blocking_as.Goals.{in-Ok-Ok, in-Ok-Err-Closed, in-Err}

pub returns-in-loop-turn-clause-memory : goal.returns-in-loop-turn-clause-memory
returns-in-loop-turn-clause-memory g c = let same = c.loop-turn.invariant in elim c.match-polled.branch [
  | in-Ok-Ok w ↦ search rules
  | in-Ok-Err-Closed w ↦ search rules
  | in-Err w ↦ let told = w.in-Err.ensures.memory in
      subst (λ r. IfErr r (λ error. (error.0 ≡ c.args.message) × (view c.match-polled.pass ≡ view c.args.pass.now) × WantsToSend (g.L.Lesson.fact (view c.args.pass.now)))) (sym w.sent-is)
      (told.0 ∙ same.3, ap view w.pass-is ∙ w.give_up.ensures.same ∙ told.1 ∙ same.2, subst (λ v. WantsToSend (g.L.Lesson.fact v)) same.2 told.2)
]
