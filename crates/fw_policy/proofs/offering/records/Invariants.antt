use Rattle.std.proofs.Common.{◌≡◌, ◌∷◌, take}
use Rattle.fw_policy.specs.Offering.{empty_record, holding, records_by}
use Rattle.fw_policy.proofs.offering.records.Given as goal

abbrev pub invariant-loop-entry : goal.invariant-loop-entry
invariant-loop-entry l = l.records.items ≡ holding l.low (empty_record l.bounds ∷ records_by l.node (take l.entry-index l.entries))
