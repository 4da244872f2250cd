use Rattle.std.proofs.Common.{◌≡◌, false, take}
use Rattle.fw_paired.specs.Cross.{IsCross}
use Rattle.fw_paired.proofs.HeldLaws.{came_of}
use Rattle.fw_paired.proofs.cross.Cross.from_held.Given as goal

abbrev pub invariant-loop-one : goal.invariant-loop-one
invariant-loop-one l = record {
  table : IsCross l.cross (came_of (take l.one-index l.recs));
  live : l.cross.refused ≡ false;
}
