use Rattle.std.proofs.Common.{length}
use Rattle.fw_denote.specs.Holding.{AreBagsHeld}
use Rattle.fw_denote.proofs.rounds.first_bags.Given as goal

abbrev pub invariant-loop-recs : goal.invariant-loop-recs
invariant-loop-recs l = AreBagsHeld l.flow l.bags.items

abbrev pub decreases-loop-recs : goal.decreases-loop-recs
decreases-loop-recs l = length l.sent.items
