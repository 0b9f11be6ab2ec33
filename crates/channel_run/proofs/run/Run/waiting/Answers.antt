use Rattle.std.proofs.Common.{arith}
use Rattle.channel_run.proofs.Told.WhoWaits.{count_waiting, few_waiting}
use Rattle.channel_run.proofs.Tables.Kept.{kept_of}
use Rattle.channel_run.proofs.run.Run.waiting.Goals as goal

pub overflow_add-result : goal.overflow_add-result
overflow_add-result g c =
    let run = c.self.inside in
    let o = c.len-operations.ensures.len in
    let p = c.len-operations.ensures.small in
    let r = c.len-receivers.ensures.len in
    let s = c.len-receivers.ensures.small in
    let few = few_waiting (kept_of run) c.self.invariant.0
    (omega arith) (omega arith) in
    let count = count_waiting (kept_of run) c.self.invariant.0 in
    let w1 = c.waiting.ensures.count in
    let w2 = c.waiting-2.ensures.count in
    omega arith

pub overflow_add-result-2 : goal.overflow_add-result-2
overflow_add-result-2 g c =
    let run = c.self.inside in
    let o = c.len-operations.ensures.len in
    let p = c.len-operations.ensures.small in
    let r = c.len-receivers.ensures.len in
    let s = c.len-receivers.ensures.small in
    let few = few_waiting (kept_of run) c.self.invariant.0
    (omega arith) (omega arith) in
    let count = count_waiting (kept_of run) c.self.invariant.0 in
    let w1 = c.waiting.ensures.count in
    let w2 = c.waiting-2.ensures.count in
    let w3 = c.waiting-3.ensures.count in
    omega arith

pub overflow_add-result-3 : goal.overflow_add-result-3
overflow_add-result-3 g c =
    let run = c.self.inside in
    let o = c.len-operations.ensures.len in
    let p = c.len-operations.ensures.small in
    let r = c.len-receivers.ensures.len in
    let s = c.len-receivers.ensures.small in
    let few = few_waiting (kept_of run) c.self.invariant.0
    (omega arith) (omega arith) in
    let count = count_waiting (kept_of run) c.self.invariant.0 in
    let w1 = c.waiting.ensures.count in
    let w2 = c.waiting-2.ensures.count in
    let w3 = c.waiting-3.ensures.count in
    let w4 = c.waiting-4.ensures.count in
    omega arith

pub returns : goal.returns
returns g c =
    let run = c.self.inside in
    let count = count_waiting (kept_of run) c.self.invariant.0 in
    let w1 = c.waiting.ensures.count in
    let w2 = c.waiting-2.ensures.count in
    let w3 = c.waiting-3.ensures.count in
    let w4 = c.waiting-4.ensures.count in
    rw (← c.self.view_is) (omega arith)
