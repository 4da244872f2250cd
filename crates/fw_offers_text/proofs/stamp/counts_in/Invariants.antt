use Rattle.fw_offers_text.specs.Statements.{count_spelled, is_count_small}
use Rattle.fw_offers_text.proofs.CheckedLaws.{AreCountedUpTo}
use Rattle.fw_offers_text.proofs.stamp.counts_in.Given as goal

abbrev pub invariant-loop-word : goal.invariant-loop-word
invariant-loop-word l = AreCountedUpTo count_spelled is_count_small l.words l.word-index l.counts.recs
