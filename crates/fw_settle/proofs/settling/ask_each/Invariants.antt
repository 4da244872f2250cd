use Rattle.std.proofs.Common.{◌≡◌, is_some, length}
use Rattle.fw_keep.specs.Stored.{IsStored}
use Rattle.fw_running.specs.Drawn.{DrawsAtMost}
use Rattle.fw_running.specs.Logging.{ChangesKeep}
use Rattle.fw_running.specs.Shaped.{IsShaped}
use Rattle.fw_settle.specs.Settling.{HasEagerToSettle}
use Rattle.fw_settle.proofs.SearchLaws.{HaveAskedUpTo, drawn_up_to, left}
use Rattle.fw_settle.proofs.settling.ask_each.Given as goal

abbrev pub invariant-loop-next : goal.invariant-loop-next
invariant-loop-next g l = record {
  others : ChangesKeep l.fn.running l.running;
  shaped : IsShaped l.running;
  stored : IsStored l.running.parts.keep (g.K.Store.view l.store).records;
  asked : HaveAskedUpTo l.fn.running l.running (g.K.Store.view l.fn.store).records (g.K.Store.view l.store).records l.next;
  tells : is_some (g.K.Store.view l.store).records ≡ is_some (g.K.Store.view l.fn.store).records;
  quiet : (HasEagerToSettle l.fn.running → ⊥) → l.store ≡ l.fn.store;
  faults : (g.K.Store.view l.store).faults ≡ (g.K.Store.view l.fn.store).faults;
  draws : DrawsAtMost (drawn_up_to (length l.fn.running.flow.nodes) l.next) l.fn.running.parts.keep l.running.parts.keep
      (g.K.Store.view l.fn.store).records (g.K.Store.view l.store).records;
}

abbrev pub decreases-loop-next : goal.decreases-loop-next
decreases-loop-next g l = left l.next
