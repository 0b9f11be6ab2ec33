use Rattle.std.proofs.Common.{◌≡◌, map, take}
use Rattle.std.specs.List.{All}
use Rattle.channel_record.specs.Claims.{AddsClaims, IsFree}
use Rattle.channel_record.specs.Shares.{IsAt, place_of}
use Rattle.channel_record.proofs.Claims.{RisesTo, next_of}
use Rattle.channel_record.proofs.finish.claim.Given as goal

abbrev pub invariant-loop-entry : goal.invariant-loop-entry
invariant-loop-entry g l = record {
  places : l.places.items ≡ map place_of (take l.entry-index l.entries);
  rise : RisesTo 0 l.places.items l.low;
  next : l.low ≡ next_of l.places.items;
  agree : All (IsAt l.history) (take l.entry-index l.entries);
  free : All (λ entry. IsFree l.fn.claimed (place_of entry)) (take l.entry-index l.entries);
  adds : AddsClaims l.fn.claimed l.claimed l.places.items;
}
