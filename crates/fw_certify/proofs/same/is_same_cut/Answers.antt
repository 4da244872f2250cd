use Rattle.fw_certify.proofs.CodeLaws.{front-other, front-same, present-other, present-same}
use Rattle.fw_certify.proofs.same.is_same_cut.Goals as goal

pub returns-in-Present-other : goal.returns-in-Present-other
returns-in-Present-other c = present-same c.args.cut.now c.args.other.now c.in-Present.is c.in-Present-other.is

pub returns-in-At-other : goal.returns-in-At-other
returns-in-At-other c = present-other c.args.cut.now c.args.other.now c.in-At-other.field-0 c.in-Present.is c.in-At-other.is

pub returns-in-Present-other-2 : goal.returns-in-Present-other-2
returns-in-Present-other-2 c = front-other c.args.cut.now c.args.other.now c.in-At.front c.in-At.is c.in-Present-other-2.is

pub returns-in-At-other-2 : goal.returns-in-At-other-2
returns-in-At-other-2 c = front-same c.args.cut.now c.args.other.now c.in-At.front c.in-At-other-2.another c.same.result c.in-At.is c.in-At-other-2.is c.same.ensures.one
