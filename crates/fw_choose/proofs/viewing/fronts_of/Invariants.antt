use Rattle.std.proofs.Common.{◌≡◌, map, take}
use Rattle.fw_model.specs.Steps.{front_of_cut}
use Rattle.fw_choose.proofs.viewing.fronts_of.Given as goal

abbrev pub invariant-loop-cut : goal.invariant-loop-cut
invariant-loop-cut l = l.fronts.items ≡ map front_of_cut (take l.cut-index l.cuts)
