use Rattle.fw_time.proofs.Padded.{opened, closed, seen, origin_holds}
use Rattle.fw_time.proofs.stamp.Bounds.origin.Goals as goal

pub invariant_of-result : goal.invariant_of-result
invariant_of-result c = closed _ _ _ (origin_holds (opened _ _ _ c.greatest.view_is c.greatest.invariant))

pub returns : goal.returns
returns c = seen _ _ _ (origin_holds (opened _ _ _ c.greatest.view_is c.greatest.invariant))
