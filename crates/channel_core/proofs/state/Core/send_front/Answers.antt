use Rattle.std.proofs.Common.{◌∙◌}
use Rattle.channel_core.proofs.Turns.{more_held, sent-channel, sent-rung, sent-rest}
use Rattle.channel_core.proofs.state.Core.send_front.Goals as goal

pub loop-count-preserved : goal.loop-count-preserved
loop-count-preserved g c =
    let at = c.loop-count in
    let inv = at.invariant in
    let items = c.args.from.now.items in
    let start = c.args.self.now in
    let step = c.if-not-send_first.ensures in
    record {
      channel = sent-channel at.count items at.from.items start at.self inv.channel inv.rest c.send_first.new.self
          step.after;
      rung = sent-rung at.count items at.from.items start at.self inv.channel inv.rest g.B.Bell.rings c.args.bell.now
          at.bell c.send_first.new.bell inv.rung step.rung;
      held = more_held at.count items at.from.items inv.rest start.messages at.self.messages
          c.send_first.new.self.messages inv.held step.held;
      rest = step.rest ∙ sent-rest at.count items at.from.items start at.self inv.channel inv.rest;
    }
