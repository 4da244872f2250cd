use Rattle.std.proofs.Common.{◌≡◌, false, vec_len}
use Rattle.std.specs.Vec.{vec_capacity}
use Rattle.fw_keep.specs.Catalogue.{AreDistinct}
use Rattle.fw_keep.specs.Stored.{AreThere, Sweeps}
use Rattle.fw_keep.proofs.sweep.remove_waiting.Given as goal

abbrev pub invariant-loop-id : goal.invariant-loop-id
invariant-loop-id g l = record {
  distinct : AreDistinct l.waiting.items;
  there : l.shared ≡ false → AreThere l.waiting.items (g.K.Store.view l.store).records;
  swept : Sweeps l.initial.waiting.items (g.K.Store.view l.initial.store).records l.waiting.items (g.K.Store.view l.store).records;
  capacity : vec_capacity l.waiting ≡ vec_capacity l.initial.waiting;
  given : (g.K.Store.view l.store).given ≡ (g.K.Store.view l.initial.store).given;
  faults : (g.K.Store.view l.store).faults ≡ (g.K.Store.view l.initial.store).faults;
}

abbrev pub decreases-loop-id : goal.decreases-loop-id
decreases-loop-id g l = vec_len l.waiting
