use Rattle.fw_certify.proofs.CodeLaws.{between-front, between-no_front}
use Rattle.fw_certify.proofs.begin.greatest_between.Goals as goal

pub returns-then-not-subset : goal.returns-then-not-subset
returns-then-not-subset c = λ b one other f. between-no_front b c.args.least.now c.args.greatest.now f c.subset.result c.if-not-subset.true (c.subset.ensures.domain b other)

pub returns : goal.returns
returns c = λ b one other. between-front b c.args.least.now c.args.greatest.now c.in_ok-copy.field-0 c.subset.result other c.if-not-subset.false (c.subset.ensures.domain b other) c.in_ok-copy.ensures
