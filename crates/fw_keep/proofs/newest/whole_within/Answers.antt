use Rattle.std.proofs.Common.{sym, ◌∙◌}
use Rattle.fw_keep.proofs.NewestLaws.{whole-here, whole-before}
use Rattle.fw_keep.proofs.newest.whole_within.Goals as goal

pub returns-in-Some-whole_front : goal.returns-in-Some-whole_front
returns-in-Some-whole_front c =
    sym (whole-here c.args.node c.args.front.now c.loop-entry.rest.now c.in-Some.before.now c.in-Some.entry.now c.in-Some-whole_front.whole.now c.in-Some.ensures.cases.0
    (sym c.in-Some-whole_front.ensures)) ∙ c.loop-entry.invariant

pub loop-entry-preserved : goal.loop-entry-preserved
loop-entry-preserved c =
    sym (whole-before c.args.node c.args.front.now c.loop-entry.rest.now c.in-Some.before.now c.in-Some.entry.now c.in-Some.ensures.cases.0
    (sym c.in_default-whole_front.ensures)) ∙ c.loop-entry.invariant
