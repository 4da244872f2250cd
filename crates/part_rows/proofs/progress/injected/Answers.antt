use Rattle.std.proofs.Common.{sym, ap, subst, ◌∙◌, rules}
use Rattle.fw_progress.specs.Progress.{CanSend, stamps_of_recs}
use Rattle.part_rows.proofs.progress.injected.Goals as goal

pub injected-requires-clause-sent : goal.injected-requires-clause-sent
injected-requires-clause-sent c =
    let can : CanSend c.args.flow.now c.args.node c.args.sent.now = search rules in
    subst (CanSend c.args.flow.now c.args.node) (sym (ap stamps_of_recs c.deref.ensures.value ∙ c.in_ok-recs.ensures)) can
