use Rattle.std.proofs.Common.{◌≡◌, length, map, take}
use Rattle.std.specs.List.{All}
use Rattle.std.specs.List.Sorted.{IsStrictlyIncreasing}
use Rattle.channel_record.specs.Shares.{AgreesWith, lists_of, places_of}
use Rattle.channel_record.proofs.Written.{Counts}
use Rattle.channel_record.proofs.finish.shares.Given as goal

abbrev pub invariant-loop-clerk : goal.invariant-loop-clerk
invariant-loop-clerk g l = record {
  places : lists_of l.lists.items ≡ map places_of (take l.clerk-index l.clerks);
  rise : All IsStrictlyIncreasing (lists_of l.lists.items);
  agree : All (AgreesWith l.history) (take l.clerk-index l.clerks);
  counts : Counts (lists_of l.lists.items) l.claimed;
  long : length l.claimed ≡ length l.history;
}
