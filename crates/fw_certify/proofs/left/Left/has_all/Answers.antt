use Rattle.std.proofs.lemmas.Result.{IfOk-weaker}
use Rattle.std.proofs.Common.{refl}
use Rattle.fw_flow.specs.declared.choice.Cut.TheVariants.{At}
use Rattle.fw_certify.proofs.CodeLaws.{all-of_exhausted}
use Rattle.fw_certify.proofs.left.Left.has_all.Goals as goal

pub returns-clause-left : goal.returns-clause-left
returns-clause-left g c =
    let flow = c.args.self.now.flow.now in
    let offers = c.args.self.now.offers.now in
    let side = c.args.self.now.side in
    let from = c.args.self.now.from.now in
    let bound = c.args.self.now.bound.now in
    IfOk-weaker c.has.result _ _
    (λ b h. all-of_exhausted flow offers side from bound c.all.result (At c.all.result) c.args.exhausted b c.if-not-exhausted.false refl c.all.ensures h)
    c.has.ensures.left
