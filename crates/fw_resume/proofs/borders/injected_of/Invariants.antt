use Rattle.std.proofs.Common.{◌≡◌, map, take}
use Rattle.fw_border.specs.Sources.{source_at}
use Rattle.fw_resume.proofs.borders.injected_of.Given as goal

abbrev pub invariant-loop-input : goal.invariant-loop-input
invariant-loop-input l = l.numbers.items ≡ map (λ s. (source_at l.sources s).injected) (take l.input-index l.inputs)
