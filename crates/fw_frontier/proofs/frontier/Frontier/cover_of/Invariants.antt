use Rattle.std.proofs.Common.{◌≡◌, take, map}
use Rattle.fw_time.specs.Stamp.{glb}
use Rattle.fw_frontier.specs.Frontier.{some_above}
use Rattle.fw_frontier.proofs.frontier.Frontier.cover_of.Given as goal

abbrev pub invariant-loop-top : goal.invariant-loop-top
invariant-loop-top g l =
    (t : _) → g.Self.Frontier.inside l.cover t ≡ some_above (map g.T.Time.coords (take l.top-index l.tops)) (glb (g.T.Time.coords t) l.bounds.greatest)
