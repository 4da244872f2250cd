use Rattle.std.proofs.lemmas.Result.{IfOk-weaker}
use Rattle.fw_resume.proofs.ToldStateLaws.{told-counts, told-of_state}
use Rattle.fw_resume.proofs.told.counts_of.Goals as goal

pub returns-clause-counts : goal.returns-clause-counts
returns-clause-counts c =
    IfOk-weaker c.counts_told.result _ _ (λ counts a. told-counts c.args.flow.now c.args.batches.now c.args.root.now counts a) c.counts_told.ensures

pub returns-clause-of_state : goal.returns-clause-of_state
returns-clause-of_state c = λ state w r of.
    IfOk-weaker c.counts_told.result _ _
    (λ counts a. told-of_state c.args.flow.now c.args.batches.now c.args.root.now counts state c.requires.sound a w r of) c.counts_told.ensures
