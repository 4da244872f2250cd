use Rattle.fw_flow.specs.declared.choice.Cut.TheVariants.{At}
use Rattle.fw_certify.proofs.CodeLaws.{inside-front, inside-present}
use Rattle.fw_certify.proofs.cuts.is_inside.Goals as goal

pub returns-in-Present : goal.returns-in-Present
returns-in-Present c = λ flow p k. inside-present flow p (At c.args.front.now) c.args.cut.now c.in-Present.is

pub returns-in-At : goal.returns-in-At
returns-in-At c = λ flow p k. inside-front flow p c.args.front.now c.in-At.other c.args.cut.now c.subset.result c.in-At.is k c.subset.ensures.domain
