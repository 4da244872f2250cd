use Rattle.std.proofs.Common.{take}
use Rattle.std.specs.List.{AllByRecursion}
use Rattle.fw_flow.specs.declared.choice.Cut.TheVariants.{At}
use Rattle.fw_offers.specs.Sides.{IsLeft}
use Rattle.fw_certify.proofs.left.Left.has_record.Given as goal

abbrev pub invariant-loop-record : goal.invariant-loop-record
invariant-loop-record g l =
    AllByRecursion (λ r. IsLeft l.self.flow.now l.self.offers.now l.self.side l.self.from.now l.self.bound.now (At r.front) → ⊥) (take l.record-index l.records)
