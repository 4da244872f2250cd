use Rattle.fw_time.proofs.Padded.{opened, closed, seen, lub_holds}
use Rattle.fw_time.proofs.stamp.Stamp.lub.Goals as goal

pub invariant_of-result : goal.invariant_of-result
invariant_of-result c =
    closed _ _ _ (lub_holds (opened _ _ _ c.self.view_is c.self.invariant) (opened _ _ _ c.other.view_is c.other.invariant) c.greater.ensures c.max.ensures)

pub returns : goal.returns
returns c =
    seen _ _ _ (lub_holds (opened _ _ _ c.self.view_is c.self.invariant) (opened _ _ _ c.other.view_is c.other.invariant) c.greater.ensures c.max.ensures)
