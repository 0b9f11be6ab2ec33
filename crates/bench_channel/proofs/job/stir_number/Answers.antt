use Rattle.std.proofs.Common.{◌≡◌, ℕ, ◌+◌, suc, refl, ap, arith}
use Rattle.bench_channel.specs.Stirring.{stirred, stirred_once}
use Rattle.bench_channel.proofs.job.stir_number.Goals as goal

pub loop-init : goal.loop-init
unfolding stirred
loop-init g c = refl

pub loop-preserved : goal.loop-preserved
unfolding stirred
loop-preserved g c =
    let next : c.loop.counter + 1 ≡ suc c.loop.counter = omega arith in
    rw next (ap stirred_once c.loop.invariant)
