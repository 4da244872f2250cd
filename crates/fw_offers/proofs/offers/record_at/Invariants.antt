use Rattle.std.proofs.Common.{◌≡◌, drop}
use Rattle.fw_model.specs.Offers as spec
use Rattle.fw_offers.proofs.offers.record_at.Given as goal

abbrev pub invariant-loop-record : goal.invariant-loop-record
invariant-loop-record l = spec.record_at l.front (drop l.record-index l.records) ≡ spec.record_at l.front l.records
