use Rattle.std.proofs.Common.{subst}
use Rattle.std.proofs.lemmas.Result.{IfOk-weaker}
use Rattle.fw_flow.specs.declared.choice.Offered.TheVariants as form
use Rattle.fw_certify.specs.Checked.{AreCanonicalFronts}
use Rattle.fw_certify.proofs.CodeLaws.{batches-found}
use Rattle.fw_certify.proofs.begin.greatest_front.Goals as goal

pub returns-else-exhausted : goal.returns-else-exhausted
returns-else-exhausted c = λ b k.
    let here : AreCanonicalFronts b (form.Batches c.in-Batches.least c.in-Batches.greatest c.in-Batches.exhausted) = subst (AreCanonicalFronts b) c.in-Batches.is k in
    IfOk-weaker c.greatest_between-in-Batches.result _ _
    (λ found. batches-found b c.args.offered.now c.in-Batches.least c.in-Batches.greatest c.in-Batches.exhausted found c.in-Batches.is c.if-exhausted.false)
    (c.greatest_between-in-Batches.ensures b here.0 here.1)
