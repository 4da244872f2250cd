use Rattle.std.proofs.Common.{sym, ◌∙◌}
use Rattle.fw_lines.specs.Batches.{recs_of_bags}
use Rattle.fw_border.proofs.NumberLaws.{all_left}
use Rattle.fw_border.proofs.source.drop_below.Goals as goal

pub returns-after-loop-held-clause-left : goal.returns-after-loop-held-clause-left
returns-after-loop-held-clause-left c =
    sym (all_left c.args.bound c.loop-held.first (recs_of_bags c.loop-held.held.items) (sym c.is_below.ensures ∙ c.loop-held-test.false)) ∙ c.loop-held.invariant.left
