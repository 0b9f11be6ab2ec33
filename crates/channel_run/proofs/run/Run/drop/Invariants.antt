use Rattle.std.specs.BTreeMap.{btree_map_len}
use Rattle.channel_run.proofs.run.Run.drop.Given as goal

abbrev pub decreases-loop-op : goal.decreases-loop-op
decreases-loop-op g l = btree_map_len l.by_name

abbrev pub decreases-loop-receiver : goal.decreases-loop-receiver
decreases-loop-receiver g l = btree_map_len l.receivers
