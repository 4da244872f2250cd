use Rattle.std.proofs.Common.{◌≡◌, take, length}
use Rattle.fw_keep.proofs.same.are_same_fronts.Given as goal

abbrev pub invariant-loop-place : goal.invariant-loop-place
invariant-loop-place l = record {
  long : length l.some ≡ length l.others;
  same : take l.place l.some ≡ take l.place l.others;
}
