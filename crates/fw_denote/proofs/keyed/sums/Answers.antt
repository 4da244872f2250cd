use Rattle.std.proofs.Common.{List, reverse, take, subst, sym}
use Rattle.std.proofs.lemmas.List.{take_all}
use Rattle.fw_flow.specs.WholeBags.{Timed}
use Rattle.fw_denote.specs.Numbers.{HasNumbers, sum_of_slot}
use Rattle.fw_denote.proofs.Counts.{past-here}
use Rattle.fw_denote.proofs.NumberLaws.{sums_all}
use Rattle.fw_denote.proofs.keyed.sums.Goals as goal

pub loop-r-preserved : goal.loop-r-preserved
loop-r-preserved c =
    subst (λ (rs : List Timed). HasNumbers c.add_to.new.sums (sum_of_slot rs) rs)
    (sym (past-here c.args.rs.now c.loop-r.r-index c.r-item.result c.loop-r-test.true c.r-item.is))
    (c.in_ok-add_to.ensures (reverse (take c.loop-r.r-index c.args.rs.now)) c.loop-r.invariant)

pub returns : goal.returns
returns c =
    sums_all c.loop-r.sums c.args.rs.now
    (subst (λ (rs : List Timed). HasNumbers c.loop-r.sums (sum_of_slot (reverse rs)) (reverse rs)) (take_all c.loop-r.r-index c.args.rs.now c.loop-r-test.false) c.loop-r.invariant)
