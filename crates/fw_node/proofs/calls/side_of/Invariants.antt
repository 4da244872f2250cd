use Rattle.std.proofs.Common.{◌≡◌, ◌+◌, length}
use Rattle.fw_node.specs.Arrived.{place_in}
use Rattle.fw_node.proofs.calls.side_of.Given as goal

abbrev pub invariant-loop-first : goal.invariant-loop-first
invariant-loop-first l = record {
  so_far : l.side + length l.rest ≡ length l.sides;
  place : l.side + place_in l.rest l.edge ≡ place_in l.sides l.edge;
}

abbrev pub decreases-loop-first : goal.decreases-loop-first
decreases-loop-first l = length l.rest
