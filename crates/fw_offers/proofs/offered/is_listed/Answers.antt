use Rattle.std.proofs.Common.{◌≡◌, refl}
use Rattle.fw_lemmas.proofs.Each.{each-taken}
use Rattle.std.proofs.lemmas.Bool.{both_ways}
use Rattle.fw_offers.proofs.OfferedOneLaws.{listed-here, not_listed-all}
use Rattle.fw_offers.proofs.offered.is_listed.Goals as goal

pub returns-then-same : goal.returns-then-same
returns-then-same c = (λ h. listed-here c.args.front.now c.args.records.now c.loop-record.record-index c.record-item.result c.loop-record-test.true c.record-item.is (c.same.ensures.one.0 c.if-same.true), λ o. refl)

pub loop-record-preserved : goal.loop-record-preserved
loop-record-preserved c =
    each-taken (λ r. r.front ≡ c.args.front.now → ⊥) c.args.records.now c.loop-record.record-index c.record-item.result c.loop-record-test.true c.record-item.is c.loop-record.invariant
    (λ e. both_ways c.same.result c.if-same.false (c.same.ensures.one.1 e))

pub returns : goal.returns
returns c = not_listed-all c.args.front.now c.args.records.now c.loop-record.record-index c.loop-record-test.false c.loop-record.invariant
