use Rattle.std.proofs.Common.{◌≡◌, take}
use Rattle.std.specs.List.{AllByRecursion}
use Rattle.fw_offers.proofs.offered.is_listed.Given as goal

abbrev pub invariant-loop-record : goal.invariant-loop-record
invariant-loop-record l = AllByRecursion (λ r. r.front ≡ l.front → ⊥) (take l.record-index l.records)
