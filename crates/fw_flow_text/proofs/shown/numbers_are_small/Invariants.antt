use Rattle.std.proofs.Common.{ℕ, ◌<◌}
use Rattle.fw_flow.specs.Dataflow.{kind_of}
use Rattle.fw_flow_text.specs.FlowText.{named_kind}
use Rattle.fw_flow_text.specs.Spelled.{IsSmallKind}
use Rattle.fw_flow_text.proofs.shown.numbers_are_small.Given as goal

abbrev pub invariant-loop-place : goal.invariant-loop-place
invariant-loop-place l = (p : ℕ) → p < l.place → IsSmallKind (named_kind l.flow (kind_of l.flow p))
