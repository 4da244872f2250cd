use Rattle.std.proofs.lemmas.Result.{IfOk-weaker}
use Rattle.fw_resume.proofs.LostLaws.{lost-held}
use Rattle.fw_resume.proofs.lost.lost_of.Goals as goal

pub returns-clause-held : goal.returns-clause-held
returns-clause-held c = λ sys state root e r of.
    IfOk-weaker c.lost_each.result _ _ (λ lost told. lost-held c.args.flow.now c.args.fronts.now lost.items sys state root e r of told) c.lost_each.ensures
