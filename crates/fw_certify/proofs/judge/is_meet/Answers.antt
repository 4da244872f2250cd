use Rattle.fw_certify.proofs.CodeLaws.{meet-tested, not_meet-first, not_meet-second}
use Rattle.fw_certify.proofs.judge.is_meet.Goals as goal

pub returns-then-not-subset : goal.returns-then-not-subset
returns-then-not-subset c = λ b canonical one other. not_meet-first b c.args.one.now c.args.other.now c.args.front.now c.subset.result c.if-not-subset.true (c.subset.ensures.domain b one)

pub returns-then-not-subset-2 : goal.returns-then-not-subset-2
returns-then-not-subset-2 c = λ b canonical one other. not_meet-second b c.args.one.now c.args.other.now c.args.front.now c.subset-2.result c.if-not-subset-2.true (c.subset-2.ensures.domain b other)

pub returns : goal.returns
returns c = λ b canonical one other.
    meet-tested b c.args.one.now c.args.other.now c.args.front.now c.are_outside_one.result canonical ((c.subset.ensures.domain b one).0 c.if-not-subset.false) ((c.subset-2.ensures.domain b other).0 c.if-not-subset-2.false) c.are_outside_one.ensures
