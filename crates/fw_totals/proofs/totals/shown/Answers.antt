use Rattle.std.proofs.Common.{◌∙◌}
use Rattle.std.proofs.lemmas.Result.{IfOk-weaker}
use Rattle.fw_totals.proofs.RestoreLaws.{shown_are_sums}
use Rattle.fw_totals.proofs.totals.shown.Goals as goal

pub returns : goal.returns
returns c = λ rs h.
    IfOk-weaker c.shown_recs.result _ _
    (λ recs e. e ∙ shown_are_sums c.args.totals.now rs c.shown_recs.ensures.ordered h)
    c.shown_recs.ensures.recs
