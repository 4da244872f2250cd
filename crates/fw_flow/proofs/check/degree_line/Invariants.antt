use Rattle.std.proofs.Common.{ℕ, ◌<◌, length}
use Rattle.fw_flow.specs.Flow.{edges_at}
use Rattle.fw_flow.specs.Walks.{listed_kind}
use Rattle.fw_flow.specs.WellFormed.{IsInDegree, IsOutDegree}
use Rattle.fw_flow.proofs.check.degree_line.Given as goal

abbrev pub invariant-loop-place : goal.invariant-loop-place
invariant-loop-place l =
    (p : ℕ) → p < l.place → IsInDegree (listed_kind l.nodes p) (length (edges_at l.incoming p)) × IsOutDegree (listed_kind l.nodes p) (length (edges_at l.outgoing p))
