-- The numbers of channels.
use Rattle.std.specs.Prelude.{ℕ, ◌+◌, ◌^◌, nat_lt, Option, Some, None, if◌then◌else◌}

-- what a maker gives next, once it has given the number: nothing behind the largest of 64 bits
abbrev pub next_stamp : Option ℕ → Option ℕ
next_stamp None = None
next_stamp (Some number) = if nat_lt (number + 1) (2 ^ 64) then Some (number + 1) else None
