use Rattle.std.proofs.Common.{length}
use Rattle.fw_offers_text.proofs.FormLaws.{AreCoversUpTo}
use Rattle.fw_offers_text.proofs.offer_form.covers_in.Given as goal

abbrev pub invariant-loop-rest : goal.invariant-loop-rest
invariant-loop-rest l = AreCoversUpTo l.fn.words l.rest l.covers.items

abbrev pub decreases-loop-rest : goal.decreases-loop-rest
decreases-loop-rest l = length l.rest
