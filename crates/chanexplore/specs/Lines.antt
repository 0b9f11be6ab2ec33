-- The lines of parties as lists.
use Rattle.std.specs.Prelude.{List, Vec, map}
use Rattle.std.specs.declared.alloc.Global.{Global}
use Rattle.chanexplore.specs.declared.party.Act.{Act}

-- each party's lines
abbrev pub acts_in : List (Vec Act Global) → List (List Act)
acts_in parties = map (λ lines. lines.items) parties
