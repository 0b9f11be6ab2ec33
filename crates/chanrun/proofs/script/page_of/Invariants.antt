use Rattle.std.proofs.Common.{◌≡◌, ◌++◌, drop}
use Rattle.std.specs.List.{flat_map}
use Rattle.chanrun.specs.Replayed.{text_line}
use Rattle.chanrun.proofs.script.page_of.Given as goal

-- the page, with the texts that are left, is what it is to be
abbrev pub invariant-loop-text : goal.invariant-loop-text
invariant-loop-text l = l.page.items ++ flat_map text_line (drop l.text-index l.texts) ≡ flat_map text_line l.texts
