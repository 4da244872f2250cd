use Rattle.fw_offers_text.specs.Statements.{cover_said, is_cover_in_domain}
use Rattle.fw_offers_text.proofs.CheckedLaws.{AreFoundUpTo}
use Rattle.fw_offers_text.proofs.stating.covers_of.Given as goal

abbrev pub invariant-loop-cover : goal.invariant-loop-cover
invariant-loop-cover l = AreFoundUpTo (cover_said l.flow l.node) (is_cover_in_domain l.flow) l.covers l.cover-index l.told.items
