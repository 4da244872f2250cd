use Rattle.std.proofs.Common.{◌≡◌, ℕ, false}
use Rattle.fw_flow.specs.Dataflow.{system_of}
use Rattle.fw_model.specs.Denotation.{Family, IsDenotation}
use Rattle.fw_model.specs.Measure.{Measure}
use Rattle.fw_denote.specs.Holding.{AreBagsHeld, AreRight, AreSolvedUpTo}
use Rattle.fw_denote.proofs.passes.pass.Given as goal

abbrev pub invariant-loop-place : goal.invariant-loop-place
invariant-loop-place l = record {
  held : AreBagsHeld l.flow l.bags.items;
  solved : l.changed ≡ false → AreSolvedUpTo (system_of l.flow l.batches) l.place l.bags.items;
  closer : (by : Measure l.flow) (family : Family) (m : ℕ) → IsDenotation (system_of l.flow l.batches) family
      → AreRight l.flow by family 0 m l.initial.bags.items → AreRight l.flow by family l.place m l.bags.items;
}
