use Rattle.std.proofs.Common.{take, sym, ◌∙◌, subst}
use Rattle.fw_paired.specs.Cross.{IsCross}
use Rattle.fw_paired.proofs.HeldLaws.{came_of, came_more, came_all, cross_of_held}
use Rattle.fw_paired.proofs.cross.Cross.from_held.Goals as goal

pub loop-one-preserved : goal.loop-one-preserved
loop-one-preserved c =
    let e = c.in_ok-put.ensures in
    let i = c.loop-one.invariant in
    let recs = c.args.recs.now in
    record {
      table = subst (IsCross c.put.new.self) (sym (came_more recs c.loop-one.one-index c.one-item.result c.loop-one-test.true c.one-item.is))
          (e.ok (came_of (take c.loop-one.one-index recs)) i.table);
      live = e.refused ∙ i.live;
    }

pub returns-clause-table : goal.returns-clause-table
returns-clause-table c = λ came h.
    let recs = c.args.recs.now in
    cross_of_held c.loop-one.cross recs came h
    (subst (IsCross c.loop-one.cross) (came_all recs c.loop-one.one-index c.loop-one-test.false) c.loop-one.invariant.table)
