use Rattle.fw_flow.specs.Dataflow.{system_of}
use Rattle.fw_model.specs.Denotation.{Family, IsDenotation}
use Rattle.fw_model.specs.Measure.{Measure}
use Rattle.fw_denote.specs.Holding.{AreBagsHeld, AreRight}
use Rattle.fw_denote.proofs.denoting.settle.Given as goal

abbrev pub invariant-loop-round : goal.invariant-loop-round
invariant-loop-round l = record {
  held : AreBagsHeld l.flow l.bags.items;
  closer : (by : Measure l.flow) (family : Family) → IsDenotation (system_of l.flow l.batches) family → AreRight l.flow by family 0 l._round l.bags.items;
}
