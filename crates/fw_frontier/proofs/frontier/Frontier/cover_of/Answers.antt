use Rattle.std.proofs.Common.{arith}
use Rattle.fw_time.specs.Stamp.{glb}
use Rattle.fw_frontier.proofs.GenericLaws.{covered_more}
use Rattle.fw_frontier.proofs.frontier.Frontier.cover_of.Goals as goal

pub loop-top-preserved : goal.loop-top-preserved
loop-top-preserved g c = λ t.
    covered_more g.T.Time.coords c.args.tops.now c.loop-top.top-index c.top-item.result (glb (g.T.Time.coords t) c.args.bounds.now.greatest)
    (g.Self.Frontier.inside c.loop-top.cover t) (g.Self.Frontier.inside c.in_ok-under.under t) (g.Self.Frontier.inside c.in_ok-cover-2.cover t) (omega arith)
    (c.in_ok-cover-2.ensures t) (c.loop-top.invariant t) (c.in_ok-under.ensures t) c.top-item.is
