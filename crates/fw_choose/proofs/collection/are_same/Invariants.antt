use Rattle.std.proofs.Common.{◌≡◌, ℕ, ◌<◌, true}
use Rattle.fw_frontier.specs.Front.{same_front}
use Rattle.fw_model.specs.Machine.{front_of}
use Rattle.fw_choose.proofs.collection.are_same.Given as goal

abbrev pub invariant-loop-place : goal.invariant-loop-place
invariant-loop-place l = (p : ℕ) → p < l.place → same_front (front_of l.fronts p) (front_of l.others p) ≡ true
