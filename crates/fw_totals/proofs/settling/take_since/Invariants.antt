use Rattle.std.proofs.Common.{◌≡◌, ◌&&◌, not, ℕ}
use Rattle.fw_totals.specs.Totals.{found}
use Rattle.fw_totals.specs.Gathered.{gathered}
use Rattle.fw_totals.proofs.settling.take_since.Given as goal

abbrev pub invariant-loop-t : goal.invariant-loop-t
invariant-loop-t g l = record {
  to_come : (q : ℕ) → gathered (λ t. g.T.Frontier.Frontier.inside l.f t && not (g.T.Frontier.Frontier.inside l.g t)) q (found l.totals q) l.t-iterator
      ≡ gathered (λ t. g.T.Frontier.Frontier.inside l.f t && not (g.T.Frontier.Frontier.inside l.g t)) q (found l.initial.totals q) l.by_time.entries;
}
