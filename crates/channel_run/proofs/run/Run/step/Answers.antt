use Rattle.channel_run.proofs.Steps.Answered.{Answers-StepsTo}
use Rattle.channel_run.proofs.run.Run.step.Goals as goal

pub returns-clause-answer : goal.returns-clause-answer
returns-clause-answer g c = λ kind past stands.
    (Answers-StepsTo kind past c.args.self.now c.make.new.self c.args.step c.make.result stands c.make.ensures).answer

pub returns-clause-stands : goal.returns-clause-stands
returns-clause-stands g c = λ kind past stands.
    (Answers-StepsTo kind past c.args.self.now c.make.new.self c.args.step c.make.result stands c.make.ensures).stands
