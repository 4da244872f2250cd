-- Laws of what recs make that meet.
use Rattle.std.specs.Prelude.{List}
use Rattle.fw_bag.specs.Arrivals.{Arrival}
use Rattle.fw_paired.specs.Bags.{AreReordered}
use Rattle.fw_paired.specs.Pairs.{all_pairs, pairs_made}

-- in whatever order recs come on two in-edges, they make the pairs of each on the first one with each of its key on the second, each once
abbrev pub PairsAreAll : Type 0
PairsAreAll = (came : List Arrival) → AreReordered (all_pairs came) (pairs_made came)
