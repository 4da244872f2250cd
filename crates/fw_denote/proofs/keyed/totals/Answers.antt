use Rattle.std.proofs.Common.{List, reverse, take, subst, sym}
use Rattle.std.proofs.lemmas.List.{take_all}
use Rattle.fw_flow.specs.WholeBags.{Timed}
use Rattle.fw_denote.specs.Numbers.{HasNumbers, HasSlotSums, ComeBefore, total_at}
use Rattle.fw_denote.proofs.Counts.{past-here}
use Rattle.fw_denote.proofs.TotalLaws.{totals_all, come_before}
use Rattle.fw_denote.proofs.keyed.totals.Goals as goal

pub loop-r-preserved : goal.loop-r-preserved
loop-r-preserved c =
    let past : List Timed = reverse (take c.loop-r.r-index c.args.rs.now) in
    let e = sym (past-here c.args.rs.now c.loop-r.r-index c.r-item.result c.loop-r-test.true c.r-item.is) in
    let before : ComeBefore past c.r-item.result =
    subst (λ (r : Timed). ComeBefore past r) (sym c.r-item.is) (come_before c.args.rs.now c.loop-r.r-index c.r-item.result c.loop-r-test.true c.requires.in_order c.requires.in_line) in
    record {
      totals = subst (λ (rs : List Timed). HasSlotSums c.total_up.new.totals rs) e (c.in_ok-total_up.ensures.totals past c.loop-r.invariant.totals);
      by_slot = subst (λ (rs : List Timed). HasNumbers c.total_up.new.by_slot (total_at rs) rs) e
          (c.in_ok-total_up.ensures.by_slot past c.loop-r.invariant.totals before c.loop-r.invariant.by_slot);
    }

pub returns : goal.returns
returns c =
    totals_all c.loop-r.by_slot c.args.rs.now
    (subst (λ (rs : List Timed). HasNumbers c.loop-r.by_slot (total_at (reverse rs)) (reverse rs)) (take_all c.loop-r.r-index c.args.rs.now c.loop-r-test.false) c.loop-r.invariant.by_slot)
