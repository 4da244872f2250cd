use Rattle.std.proofs.Common.{◌≡◌, ◌++◌, ◌∷◌, [], length, take}
use Rattle.std.specs.List.{flat_map}
use Rattle.fw_bytes.specs.Spelling.{u32_bytes}
use Rattle.fw_bytes.proofs.writing.put_stamp.Given as goal

abbrev pub invariant-loop-i : goal.invariant-loop-i
invariant-loop-i l = l.out.items ≡ (l.fn.out.items ++ length l.stamp ∷ []) ++ flat_map u32_bytes (take l.i l.stamp)
