use Rattle.std.proofs.Common.{◌≡◌, take}
use Rattle.fw_frontier.specs.Front.{inside}
use Rattle.fw_frontier.proofs.frontier.Frontier.from_front.Given as goal

abbrev pub invariant-loop-o : goal.invariant-loop-o
invariant-loop-o g l =
    (l.o-items ≡ l.front) × ((t : _) → g.Self.Frontier.inside l.kept t ≡ inside (take l.o-index l.o-items) (g.T.Time.coords t))
