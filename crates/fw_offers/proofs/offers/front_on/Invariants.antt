use Rattle.std.proofs.Common.{◌≡◌, drop}
use Rattle.fw_offers.specs.Sides.{front_on_edge}
use Rattle.fw_offers.proofs.offers.front_on.Given as goal

abbrev pub invariant-loop-of_edge : goal.invariant-loop-of_edge
invariant-loop-of_edge l = front_on_edge l.edge (drop l.of_edge-index l.fronts) ≡ front_on_edge l.edge l.fronts
