-- What an error of a map says.
use Rattle.std.specs.Prelude.{ℕ, List, ◌++◌, codes}
use Rattle.std.specs.Fmt.{decimal}
use Rattle.parallel_map.specs.declared.error.MapError.{MapError}
use Rattle.parallel_map.specs.declared.error.MapError.TheVariants.{OutOfMemory, NoStamps, NoThread, Stranger, Doubled, Missing}

-- what `Display` writes of it
abbrev pub map_error_text : MapError → List ℕ
map_error_text OutOfMemory = codes "out of memory"
map_error_text NoStamps = codes "no stamp is left"
map_error_text NoThread = codes "a worker couldn't be started"
map_error_text (Stranger place) =
    codes "a piece for place " ++ decimal place ++ codes " isn't of its input"
map_error_text (Doubled place) = codes "place " ++ decimal place ++ codes " has two pieces"
map_error_text (Missing place) = codes "place " ++ decimal place ++ codes " has no piece"
