use Rattle.std.proofs.Common.{◌&&◌, not, nat_lt, sym, ap, ◌∙◌}
use Rattle.fw_settle.proofs.SendsLaws.{leq-other}
use Rattle.fw_settle.proofs.record.lowered.Goals as goal

pub returns-then-len-ne1-clause-below : goal.returns-then-len-ne1-clause-below
returns-then-len-ne1-clause-below c x =
    sym (ap (λ b. not b && nat_lt x c.args.limit) (leq-other c.args.o.now x (λ e. c.if-len-ne1.true (c.len.ensures.value ∙ e))))
