use Rattle.std.proofs.Common.{◌≡◌, true, take}
use Rattle.std.specs.List.{list_all}
use Rattle.fw_flow.specs.Dataflow.{sender}
use Rattle.fw_model.specs.Machine.{family_of}
use Rattle.fw_progress.specs.Counts.{come_by}
use Rattle.fw_progress.proofs.notices.has_come.Given as goal

abbrev pub invariant-loop-edge : goal.invariant-loop-edge
invariant-loop-edge l = list_all (λ e. come_by l.flow l.counts e (family_of l.flow l.fronts (sender l.flow e)) l.at) (take l.edge-index l.edges) ≡ true
