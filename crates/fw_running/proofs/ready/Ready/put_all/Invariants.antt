use Rattle.std.proofs.Common.{length}
use Rattle.fw_running.specs.Places.{HasAllBelow}
use Rattle.fw_running.proofs.ready.Ready.put_all.Given as goal

abbrev pub invariant-loop-place : goal.invariant-loop-place
invariant-loop-place l = record {
  owing : HasAllBelow l.place l.self.owing;
  growing : HasAllBelow l.place l.self.growing;
  outputs : HasAllBelow l.place l.self.outputs;
  inputs : HasAllBelow l.place l.self.inputs;
}

abbrev pub invariant-loop-place-2 : goal.invariant-loop-place-2
invariant-loop-place-2 l = record {
  edges : HasAllBelow l.place l.self.edges;
  owing : HasAllBelow (length l.flow.nodes) l.self.owing;
  growing : HasAllBelow (length l.flow.nodes) l.self.growing;
  outputs : HasAllBelow (length l.flow.nodes) l.self.outputs;
  inputs : HasAllBelow (length l.flow.nodes) l.self.inputs;
}
