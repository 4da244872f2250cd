use Rattle.std.proofs.Common.{◌∙◌}
use Rattle.std.proofs.lemmas.Result.{IfOk-weaker}
use Rattle.fw_table.proofs.SumLaws.{entries_are_sums}
use Rattle.fw_table.proofs.sums.Sums.recs.Goals as goal

pub returns : goal.returns
returns c = λ rs held.
    IfOk-weaker c.recs_of_entries.result _ _
    (λ recs e. e ∙ entries_are_sums c.args.self.now.by_key rs c.recs_of_entries.ensures.ordered held)
    c.recs_of_entries.ensures.recs
