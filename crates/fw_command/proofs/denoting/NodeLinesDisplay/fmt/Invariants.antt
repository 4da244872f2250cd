use Rattle.std.proofs.Common.{ℕ, List, take}
use Rattle.std.specs.Fmt.{HasWritten, IsPlainFormatter}
use Rattle.std.specs.List.{flat_map}
use Rattle.fw_flow.specs.Dataflow.{system_of, kind_of, node_at}
use Rattle.fw_denote.specs.Holding.{family_on}
use Rattle.fw_command.specs.DenotationText.{bag_text}
use Rattle.fw_command.proofs.denoting.NodeLinesDisplay.fmt.Given as goal

-- the lines so far were written
abbrev pub invariant-loop-edge : goal.invariant-loop-edge
invariant-loop-edge g l =
    let fed = l.self.fed.now in
    let make : ℕ → List ℕ = λ e. bag_text (system_of fed.flow fed.batches) (kind_of fed.flow l.self.node) (node_at fed.flow l.self.node).name (family_on l.self.family.now e) in
    IsPlainFormatter l.initial.f → HasWritten g.W.Write.write_str_gives l.initial.f (flat_map make (take l.edge-index l.edge-items)) l.f
