use Rattle.std.proofs.Common.{sym, ap, ◌∙◌}
use Rattle.std.specs.Prelude.{is_some}
use Rattle.chanexplore.proofs.Scenes.{some_mapped}
use Rattle.chanexplore.proofs.scene.Scene.can_go.Goals as goal

pub returns : goal.returns
returns c = λ kind moment stands.
    c.is_some.ensures ∙ sym (some_mapped _ c.line.result) ∙ ap is_some (c.line.ensures.is kind moment stands)
