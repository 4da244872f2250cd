use Rattle.std.proofs.Common.{◌&&◌, not, sym, ap, ◌∙◌}
use Rattle.fw_border.specs.Numbers.{is_number_below}
use Rattle.fw_border.proofs.NumberLaws.{leq_other}
use Rattle.fw_border.proofs.number.lowered.Goals as goal

pub returns-then-len-ne1 : goal.returns-then-len-ne1
returns-then-len-ne1 c x =
    sym (ap (λ b. not b && is_number_below c.args.first x) (leq_other c.args.o.now x (λ e. c.if-len-ne1.true (c.len.ensures.value ∙ e))))
