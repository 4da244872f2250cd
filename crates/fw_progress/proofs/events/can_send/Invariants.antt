use Rattle.std.proofs.Common.{◌≡◌, true, take}
use Rattle.std.specs.List.{AllByRecursion}
use Rattle.fw_time.specs.Stamp.{in_domain}
use Rattle.fw_flow.specs.Dataflow.{receiver, bounds_of}
use Rattle.fw_progress.proofs.events.can_send.Given as goal

abbrev pub invariant-loop-edge : goal.invariant-loop-edge
invariant-loop-edge l = AllByRecursion (λ e. AllByRecursion (λ s. in_domain (bounds_of l.flow (receiver l.flow e)) s ≡ true) l.stamps) (take l.edge-index l.edges)
