use Rattle.std.proofs.Common.{◌≡◌, take}
use Rattle.fw_lines.specs.Batches.{recs_of_bags}
use Rattle.fw_border.proofs.source.copies.Given as goal

abbrev pub invariant-loop-bag : goal.invariant-loop-bag
invariant-loop-bag l = recs_of_bags l.all.items ≡ recs_of_bags (take l.bag-index l.bags)
