use Rattle.std.proofs.Common.{min, sym, ap, ◌∙◌}
use Rattle.fw_border.proofs.NumberLaws.{epochs_below, epochs_all}
use Rattle.fw_border.proofs.source.count_inside.Goals as goal

pub returns-in-Some-clause-count : goal.returns-in-Some-clause-count
returns-in-Some-clause-count c =
    c.min.ensures ∙ ap (min c.args.epochs) c.from.ensures ∙ sym (epochs_below c.args.f.now c.in-Some.bound c.args.epochs c.in-Some.ensures)

pub returns-in-None-clause-count : goal.returns-in-None-clause-count
returns-in-None-clause-count c = sym (epochs_all c.args.f.now c.args.epochs c.in-None.ensures)
