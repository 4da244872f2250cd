use Rattle.fw_offers.proofs.OfferedOneLaws.{is_between, not_between}
use Rattle.fw_offers.proofs.offered.is_between.Goals as goal

pub returns-then-not-subset : goal.returns-then-not-subset
returns-then-not-subset c = λ b canonical above. not_between b c.args.least.now c.args.greatest.now c.args.front.now c.subset.result c.if-not-subset.true (c.subset.ensures.domain b canonical)

pub returns : goal.returns
returns c = λ b canonical above. is_between b c.args.least.now c.args.greatest.now c.args.front.now c.subset.result c.subset-2.result c.if-not-subset.false (c.subset.ensures.domain b canonical) (c.subset-2.ensures.domain b above)
