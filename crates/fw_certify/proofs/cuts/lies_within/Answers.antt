use Rattle.fw_certify.proofs.CodeLaws.{front-within, present-outside, present-within}
use Rattle.fw_certify.proofs.cuts.lies_within.Goals as goal

pub returns-in-Present-other : goal.returns-in-Present-other
returns-in-Present-other c = λ flow p k. present-within flow p c.args.cut.now c.args.other.now c.in-Present.is c.in-Present-other.is

pub returns-in-At-other : goal.returns-in-At-other
returns-in-At-other c = λ flow p k. present-outside flow p c.args.cut.now c.args.other.now c.in-At-other.field-0 c.in-Present.is c.in-At-other.is

pub returns-in-At : goal.returns-in-At
returns-in-At c = λ flow p k. front-within flow p c.args.cut.now c.args.other.now c.in-At.front c.is_inside.result c.in-At.is (c.is_inside.ensures flow p k)
