use Rattle.fw_schedule.specs.Stamps.{stamp_spelled}
use Rattle.fw_time.specs.Stamp.{in_domain}
use Rattle.fw_offers_text.proofs.CheckedLaws.{AreTakenUpTo}
use Rattle.fw_offers_text.proofs.stamp.stamps_of.Given as goal

abbrev pub invariant-loop-word : goal.invariant-loop-word
invariant-loop-word l = AreTakenUpTo stamp_spelled (in_domain l.bounds) l.words l.word-index l.stamps.items
