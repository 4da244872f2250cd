use Rattle.std.proofs.Common.{◌≡◌}
use Rattle.fw_offers_text.specs.Statements.{ascend_from, are_counts_apart}
use Rattle.fw_offers_text.proofs.owed.are_counts_apart.Given as goal

abbrev pub invariant-loop-count : goal.invariant-loop-count
invariant-loop-count l = ascend_from l.last l.count-iterator ≡ are_counts_apart l.counts
