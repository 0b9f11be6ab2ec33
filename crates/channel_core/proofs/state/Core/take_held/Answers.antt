use Rattle.std.proofs.Common.{◌≡◌, ◌++◌, ◌∷◌, [], sym, ap, ◌∙◌, append_assoc, arith, rules, List}
use Rattle.channel_core.proofs.Turns.{more-channel, more-rung, more-taken, never_none}
use Rattle.channel_core.proofs.state.Core.take_held.Goals as goal

pub unreachable-requires : goal.unreachable-requires
unreachable-requires g c =
    let at = c.loop-turn in
    never_none at._turn c.args.self.now at.self at.invariant.channel c.in_default.field-0 (omega arith)
    (sym c.in_default.is ∙ c.try_recv.ensures.reply)

pub loop-turn-preserved : goal.loop-turn-preserved
loop-turn-preserved g c =
    let at = c.loop-turn in
    let inv = at.invariant in
    let start = c.args.self.now in
    let given = more-taken at._turn start at.self inv.channel c.in-Ok.message
    (sym c.in-Ok.is ∙ c.try_recv.ensures.reply) in
    let pushed : c.push.new.self.items ≡ at.into.items ++ c.in-Ok.message ∷ [] = search rules in
    record {
      channel = more-channel at._turn start at.self inv.channel c.try_recv.new.self c.try_recv.ensures.after;
      rung = more-rung at._turn start at.self inv.channel g.B.Bell.rings c.args.bell.now at.bell c.try_recv.new.bell
          inv.rung c.try_recv.ensures.rung;
      taken = rw given (pushed ∙ ap (λ (items : List _). items ++ c.in-Ok.message ∷ []) inv.taken
          ∙ append_assoc c.args.into.now.items _ (c.in-Ok.message ∷ []));
      room = grind (arith, inv.room);
    }
