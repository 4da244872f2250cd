use Rattle.std.proofs.Common.{subst}
use Rattle.std.specs.Prelude.{IfOk}
use Rattle.std.proofs.lemmas.Result.{IfOk-weaker}
use Rattle.fw_progress.specs.Progress.{ChangesAt}
use Rattle.fw_progress.specs.SentTally.{CountsMore}
use Rattle.fw_progress.specs.Trace.{no_tally}
use Rattle.fw_progress.proofs.FollowTraceLaws.{counted-some}
use Rattle.fw_progress.proofs.traces.count_sent.Goals as goal

pub returns : goal.returns
returns c =
    let old = c.args.counted.now.items in
    let new = c.count_at.new.tallies.items in
    IfOk-weaker c.count_at.result _ _ (λ u d. counted-some c.args.flow.now c.args.node c.args.at.now c.args.count old new d)
    (subst (λ n. IfOk c.count_at.result (λ u. ChangesAt n no_tally (CountsMore c.args.at.now c.args.count) old new)) c.place.ensures c.count_at.ensures)
