use Rattle.std.proofs.Common.{sym, ◌∙◌}
use Rattle.fw_keep.proofs.NewestLaws.{newest-here, newest-before}
use Rattle.fw_keep.proofs.newest.newest_by.Goals as goal

pub returns-in-Some-checkpoint_by : goal.returns-in-Some-checkpoint_by
returns-in-Some-checkpoint_by c =
    sym (newest-here c.args.node c.loop-entry.rest.now c.in-Some.before.now c.in-Some.entry.now c.in-Some-checkpoint_by.newest.now c.in-Some.ensures.cases.0
    (sym c.in-Some-checkpoint_by.ensures)) ∙ c.loop-entry.invariant

pub loop-entry-preserved : goal.loop-entry-preserved
loop-entry-preserved c =
    sym (newest-before c.args.node c.loop-entry.rest.now c.in-Some.before.now c.in-Some.entry.now c.in-Some.ensures.cases.0
    (sym c.in_default-checkpoint_by.ensures)) ∙ c.loop-entry.invariant
