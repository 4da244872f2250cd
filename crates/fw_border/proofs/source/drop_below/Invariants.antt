use Rattle.std.proofs.Common.{◌≡◌, ◌+◌, not, length, filter}
use Rattle.std.specs.List.{enumerate_from}
use Rattle.fw_lines.specs.Batches.{recs_of_bags}
use Rattle.fw_border.specs.Numbers.{is_number_below}
use Rattle.fw_border.proofs.source.drop_below.Given as goal

abbrev pub decreases-loop-held : goal.decreases-loop-held
decreases-loop-held l = length l.held.items

abbrev pub invariant-loop-held : goal.invariant-loop-held
invariant-loop-held l = record {
  end : l.first + length l.held.items ≡ l.initial.first + length l.initial.held.items;
  left : filter (λ batch. not (is_number_below l.bound batch.0)) (enumerate_from l.first (recs_of_bags l.held.items))
      ≡ filter (λ batch. not (is_number_below l.bound batch.0)) (enumerate_from l.initial.first (recs_of_bags l.initial.held.items));
}
