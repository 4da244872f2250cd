use Rattle.std.proofs.Common.{◌≡◌, ℕ, ◌<◌, true, get_or}
use Rattle.fw_frontier.proofs.stairs.StairsFrontierNest.subset.Given as goal

abbrev pub invariant-loop-c : goal.invariant-loop-c
invariant-loop-c g l =
    (c : ℕ) (t : _) → c < l.c → g.T.Frontier.Frontier.inside (get_or l.self.steps.items c l.self.last) t ≡ true → g.T.Frontier.Frontier.inside (get_or l.other.steps.items c l.other.last) t ≡ true
