use Rattle.std.proofs.Common.{◌≡◌, drop}
use Rattle.fw_flow.specs.Dataflow.{bounds_of, receiver}
use Rattle.fw_model.specs.Offers.{front_of_edge}
use Rattle.fw_resume.proofs.stamps.greatest_on.Given as goal

abbrev pub invariant-loop-cover : goal.invariant-loop-cover
invariant-loop-cover l =
    front_of_edge (bounds_of l.flow (receiver l.flow l.edge)) l.edge l.covers ≡ front_of_edge (bounds_of l.flow (receiver l.flow l.edge)) l.edge (drop l.cover-index l.covers)
