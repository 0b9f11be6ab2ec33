-- How copies and upgrades change the count of handles of a kind.
use Rattle.std.specs.Prelude.{ℕ, ◌+◌, Bool, true, false, not, ◌&&◌, nat_lt, if◌then◌else◌}
use Rattle.channel_core.specs.Tables.{handle_limit}
use Rattle.channel_core.specs.declared.state.Upgrade.{Upgrade}
use Rattle.channel_core.specs.declared.state.Upgrade.TheVariants.{Raised, Closed, TooMany}

-- A copy is counted if there is a handle, and no more of them than the limit.
abbrev pub may_add : (count : ℕ) → Bool
may_add count = nat_lt 0 count && not (nat_lt handle_limit count)

abbrev pub count_added : (added : Bool) (count : ℕ) → ℕ
count_added added count = if added then count + 1 else count

-- closed: no; beside too many: no; else the count is raised
abbrev pub upgrade_answer : (closed : Bool) (count : ℕ) → Upgrade
upgrade_answer true count = Closed
upgrade_answer false count = if nat_lt handle_limit count then TooMany else Raised

abbrev pub count_upgraded : Upgrade → ℕ → ℕ
count_upgraded Raised count = count + 1
count_upgraded answer count = count
