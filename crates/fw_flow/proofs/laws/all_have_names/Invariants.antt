use Rattle.std.proofs.Common.{◌≡◌, true, take}
use Rattle.std.specs.List.{AllByRecursion}
use Rattle.fw_flow.specs.Builder.{has_names}
use Rattle.fw_flow.specs.Declaring.{Declared}
use Rattle.fw_flow.proofs.laws.all_have_names.Given as goal

abbrev pub invariant-loop-one : goal.invariant-loop-one
invariant-loop-one l = AllByRecursion (λ (d : Declared). has_names d.declaration ≡ true) (take l.one-index l.declared)
