use Rattle.std.proofs.lemmas.Result.{IfOk-weaker}
use Rattle.fw_certify.proofs.CodeLaws.{at-canonical, present-canonical}
use Rattle.fw_certify.proofs.judge.is_canonical_cut.Goals as goal

pub returns-in-Present : goal.returns-in-Present
returns-in-Present c = present-canonical c.args.domain.now c.args.cut.now c.in-Present.is

pub returns-in-At : goal.returns-in-At
returns-in-At c = IfOk-weaker c.is_canonical.result _ _ (λ b. at-canonical c.args.domain.now c.args.cut.now c.in-At.front b c.in-At.is) c.is_canonical.ensures
